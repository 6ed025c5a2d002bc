-- A graph: switches, and links from one switch to another. Assumes nothing.
use Rattle.std.specs.Prelude.{◌≡◌, ℕ, ◌+◌, ◌-◌, ◌%◌, ◌<◌, cond, List, map, length, ◌==◌, slice_index}
use Rattle.graph.specs.declared.link.Link.{Link}

-- n switches, and links, each from a switch to another
pub record Graph : Type 0 where
  pub n : ℕ
  pub links : ℕ
  pub from : ℕ → ℕ
  pub to : ℕ → ℕ

-- the graph of n switches whose links begin and end as two lists say
abbrev pub graph_by : ℕ → List ℕ → List ℕ → Graph
graph_by n fs ts = record { n = n; links = length fs; from = λ k. slice_index fs k; to = λ k. slice_index ts k }

-- what stands past the end of a list of links
abbrev pub no_link : Link
no_link = record { from = 0; to = 0 }

-- the graph of n switches with these links
abbrev pub graph_with : ℕ → List Link → Graph
graph_with n ls = graph_by n (map (λ l. l.from) ls) (map (λ l. l.to) ls)

-- the other link of the same cable: 2k + 1 for 2k, and 2k for 2k + 1
abbrev pub partner : ℕ → ℕ
partner k = cond (k % 2 == 0) (k + 1) (k - 1)

-- the other link of the same cable goes back
abbrev pub TwoWay : Graph → Type 0
TwoWay g = (k : ℕ) → k < g.links → (partner k < g.links) × (g.from (partner k) ≡ g.to k) × (g.to (partner k) ≡ g.from k)

-- every link begins and ends at a switch that is there
pub record Ends (g : Graph) : Type 0 where
  pub from : (k : ℕ) → k < g.links → g.from k < g.n
  pub to : (k : ℕ) → k < g.links → g.to k < g.n
