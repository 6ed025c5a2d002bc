-- Every switch but the root has a link to one a level higher. Assumes nothing.
use Rattle.std.proofs.Common.{◌≡◌, ℕ, ◌<◌, refl, ⊎_elim, arith}
use Rattle.std.proofs.lemmas.Bool.{eqb-true, ne_eqb, eq-eqb, cases_eq}
use Rattle.roads.specs.Roads.{first}
use Rattle.roads.proofs.Roads.{first_is, shortest_goal}
use Rattle.graph.specs.Graph.{Graph}
use Rattle.graph.specs.Tree.{plain, at, Joined, level}
use Rattle.tree.specs.Laws.{OneHigher}

pub one_higher : OneHigher
one_higher g j r s lr ls away =
    let f = first_is (plain g) (at r) g.n s (j s r ls lr) (ne_eqb s r away) in
    (first (plain g) (at r) g.n s, f.0, eqb-true (g.from (first (plain g) (at r) g.n s)) s f.1, f.2)

pub root_level : (g : Graph) (r : ℕ) → level g r r ≡ 0
root_level g r = shortest_goal (plain g) (at r) g.n r (eq-eqb r r refl)

-- the root alone has level 0
pub root_alone : (g : Graph) → Joined g → (r s : ℕ) → r < g.n → s < g.n → level g r s ≡ 0 → s ≡ r
root_alone g j r s lr ls e = ⊎_elim (λ (q : s ≡ r). q) (λ q. let h = (one_higher g j r s lr ls q).3 in absurd (omega arith)) (cases_eq s r)
