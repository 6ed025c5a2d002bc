-- A state whose parts stand in lists: what writes to the lists do to it. Assumes nothing.
use Rattle.std.proofs.Common.{◌≡◌, ℕ, pred, ◌+◌, ◌<◌, ltb, List, [], ◌∷◌, ◌++◌, map, length, get_or, set, drop, Some, None, Option, MatchOption, option_to_list, sym, refl, ap, ◌∙◌, arith}
use Rattle.std.proofs.lemmas.List.{get_or_append_left, length-append, length-map, map-set, set-append_left}
use Rattle.std.proofs.lemmas.Bool.{cond-true, cond-false, lt-ltb, le-ltb}
use Rattle.net.specs.declared.Block.{Block}
use Rattle.net.specs.declared.Came.{Came}
use Rattle.net.specs.Heads.{head_of, tail_of}
use Rattle.net.specs.Net.{Net}
use Rattle.machine.specs.Round.{State, at, enter, following}
use Rattle.round.specs.Fabric.{listed, leaves, arrives}
use Rattle.round.specs.Link.{queue_of, free_of, turn_of}
use Rattle.round.specs.declared.link.Link.{Link}
use Rattle.round.proofs.Places.{at_set, at_here, behind_set, behind_read, mapped_read}

abbrev pub made : (ℕ → List Block) → (ℕ → ℕ) → (ℕ → ℕ) → List Came → ℕ → State
made q f t c r = record { queue = q; free = f; turn = t; came = c; round = r }

pub same_made : {q p : ℕ → List Block} {f g t u : ℕ → ℕ} (cs : List Came) (n : ℕ) → q ≡ p → f ≡ g → t ≡ u → made q f t cs n ≡ made p g u cs n
same_made cs n a b c = cc

-- where there is no first block, nothing stands behind it
none_behind : (q : List Block) → None ≡ head_of q → tail_of q ≡ q
none_behind [] h = refl
none_behind (b ∷ bs) h = cc

module _ (ls : List Link) (ds : List (List Block)) (cs : List Came) (n : ℕ) (e : ℕ) (x : Link) (h : e < length ls) (is : x ≡ get_or ls e x) where
  abbrev before : State
  before = listed ls ds cs n

  pub queue_read : before.queue e ≡ queue_of x
  queue_read = get_or_append_left (map queue_of ls) ds [] e (simp length-map h) ∙ mapped_read queue_of ls e x [] h is

  pub free_read : before.free e ≡ free_of x
  free_read = mapped_read free_of ls e x 0 h is

  pub turn_read : before.turn e ≡ turn_of x
  turn_read = mapped_read turn_of ls e x 0 h is

  -- the link is written
  link_set : (l : Link) → listed (set ls e l) ds cs n ≡ made (at e (queue_of l) before.queue) (at e (free_of l) before.free) (at e (turn_of l) before.turn) cs n
  link_set l =
      let hq : e < length (map queue_of ls) = simp length-map h in
      let hf : e < length (map free_of ls) = simp length-map h in
      let ht : e < length (map turn_of ls) = simp length-map h in
      same_made cs n
      (ap {B = ℕ → List Block} (λ (v : List (List Block)) (a : ℕ). get_or v a [])
      (ap (λ (v : List (List Block)). v ++ ds) (map-set queue_of ls e l) ∙ sym (set-append_left (map queue_of ls) ds e (queue_of l) hq)) ∙
      at_set (map queue_of ls ++ ds) e (queue_of l) [] (simp length-append (omega arith)))
      (ap {B = ℕ → ℕ} (λ (v : List ℕ) (a : ℕ). get_or v a 0) (map-set free_of ls e l) ∙ at_set (map free_of ls) e (free_of l) 0 hf)
      (ap {B = ℕ → ℕ} (λ (v : List ℕ) (a : ℕ). get_or v a 0) (map-set turn_of ls e l) ∙ at_set (map turn_of ls) e (turn_of l) 0 ht)

  -- its first block was taken, if there was one
  pub link_left : (l : Link) (z : Net) (r : Option Block) → e < z.links → r ≡ head_of (queue_of x) → queue_of l ≡ tail_of (queue_of x) →
      MatchOption r (free_of l ≡ free_of x) (λ _. free_of l ≡ free_of x + 1) → turn_of l ≡ turn_of x →
      listed (set ls e l) ds cs n ≡ leaves z e r before
  link_left l z None k r q f t =
      link_set l ∙
      same_made cs n (at_here e (queue_of l) before.queue (q ∙ none_behind (queue_of x) r ∙ sym queue_read))
      (at_here e (free_of l) before.free (f ∙ sym free_read)) (at_here e (turn_of l) before.turn (t ∙ sym turn_read))
  link_left l z (Some b) k r q f t =
      link_set l ∙
      same_made cs n (ap (λ (w : List Block). at e w before.queue) (q ∙ ap tail_of (sym queue_read)))
      (ap (λ (w : ℕ). at e w before.free) (f ∙ ap (λ (w : ℕ). w + 1) (sym free_read)) ∙
      sym (cond-true (ltb e z.links) (at e (before.free e + 1) before.free) before.free (lt-ltb e z.links k)))
      (at_here e (turn_of l) before.turn (t ∙ sym turn_read))

  -- a block came into its store
  pub come_in : (l : Link) (z : Net) (c : ℕ) (b : Block) → queue_of l ≡ queue_of x ++ (b ∷ []) → free_of l ≡ pred (free_of x) → turn_of l ≡ following z c →
      listed (set ls e l) ds cs n ≡ arrives z e c b before
  come_in l z c b q f t =
      link_set l ∙
      same_made cs n (ap (λ (w : List Block). at e w before.queue) (q ∙ ap (λ (w : List Block). w ++ (b ∷ [])) (sym queue_read)))
      (ap (λ (w : ℕ). at e w before.free) (f ∙ ap pred (sym free_read)))
      (ap (λ (w : ℕ). at e w before.turn) t)

-- what taking a first block from a queue says, in the machine's words
popped : (r : Option Block) (o m : List Block) → o ≡ option_to_list r ++ m → m ≡ drop 1 o → (r ≡ head_of o) × (m ≡ tail_of o)
popped None [] m p d = (refl, d)
popped None (b ∷ bs) m p d = let k = ap length p in let i = ap length d in absurd (omega arith)
popped (Some b) [] m p d = cc
popped (Some b) (a ∷ bs) m p d = (cc, d)

-- the same of what waits at a door
module _ (z : Net) (ls : List Link) (ds : List (List Block)) (cs : List Came) (n : ℕ) (c j : ℕ) (m : z.links ≡ length ls) (h : c ≡ z.links + j) (l : j < length ds) where
  abbrev standing : State
  standing = listed ls ds cs n

  front : z.links ≡ length (map queue_of ls)
  front = m ∙ sym (length-map ls queue_of)

  pub door_read : standing.queue c ≡ get_or ds j []
  door_read = behind_read (map queue_of ls) ds c z.links j [] front h

  door_set : (q : List Block) → listed ls (set ds j q) cs n ≡ made (at c q standing.queue) standing.free standing.turn cs n
  door_set q = same_made cs n (behind_set (map queue_of ls) ds c z.links j q [] front h l) refl refl

  -- its first block was taken, if there was one
  pub door_left : (r : Option Block) (o q : List Block) → o ≡ get_or ds j [] → o ≡ option_to_list r ++ q → q ≡ drop 1 o →
      listed ls (set ds j q) cs n ≡ leaves z c r standing
  door_left r o q i p d =
      let here : standing.queue c ≡ o = door_read ∙ sym i in
      let k = popped r o q p d in
      door_set q ∙ go r (k.0 ∙ ap head_of (sym here)) (k.1 ∙ ap tail_of (sym here))
    where
      go : (r : Option Block) → r ≡ head_of (standing.queue c) → q ≡ tail_of (standing.queue c) →
          made (at c q standing.queue) standing.free standing.turn cs n ≡ leaves z c r standing
      go None a b = same_made cs n (at_here c q standing.queue (b ∙ none_behind (standing.queue c) a)) refl refl
      go (Some x) a b =
          same_made cs n (ap (λ (w : List Block). at c w standing.queue) b)
          (sym (cond-false (ltb c z.links) (at c (standing.free c + 1) standing.free) standing.free (le-ltb c z.links (omega arith)))) refl

  -- a block was put behind the others
  pub door_more : (b : Block) (o q : List Block) → o ≡ get_or ds j [] → q ≡ o ++ (b ∷ []) → j ≡ b.door →
      listed ls (set ds j q) cs n ≡ enter z b standing
  door_more b o q i p d =
      let here : standing.queue c ≡ o = door_read ∙ sym i in
      let w : c ≡ z.links + b.door = omega arith in
      door_set q ∙
      same_made cs n
      (ap (λ (w : List Block). at c w standing.queue) (p ∙ ap (λ (w : List Block). w ++ (b ∷ [])) (sym here)) ∙
      ap (λ (i : ℕ). at i (standing.queue i ++ (b ∷ [])) standing.queue) w) refl refl
