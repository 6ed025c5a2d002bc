-- Distance and root in words of walks. Assumes nothing.
use Rattle.std.proofs.Common.{◌≡◌, ℕ, zero, suc, ◌<◌, ◌≤◌, leb, ap, ⊎_elim, arith}
use Rattle.std.proofs.lemmas.Bool.{cases_lt, cases_eq, leb-true, le-leb, both_ways}
use Rattle.roads.specs.Numbers.{every}
use Rattle.roads.proofs.Below.{least_first, least_passes, least_below, every_at, every_from}
use Rattle.roads.proofs.Roads.{none_shorter, one_so_short}
use Rattle.graph.specs.Tree.{plain, at, reach, root}
use Rattle.graph.specs.Laws.{DistanceIsShortest, RootIsCentral}

pub distance_law : DistanceIsShortest
distance_law g j a b la lb =
    (one_so_short (plain g) (at b) g.n a (j a b la lb), λ ks r. none_shorter (plain g) (at b) g.n a ks r)

-- a number below n with the least value
lowest_of : (f : ℕ → ℕ) (n : ℕ) → 0 < n → (r : ℕ) × (r < n) × ((t : ℕ) → t < n → f r ≤ f t)
lowest_of f zero l = absurd (omega arith)
lowest_of f (suc zero) l = (0, omega arith, λ t o. let q : t ≡ 0 = omega arith in let e : f t ≡ f 0 = ap f q in omega arith)
lowest_of f (suc (suc n)) l = go (lowest_of f (suc n) (omega arith))
  where
    go : (r : ℕ) × (r < suc n) × ((t : ℕ) → t < suc n → f r ≤ f t) → (r : ℕ) × (r < suc (suc n)) × ((t : ℕ) → t < suc (suc n) → f r ≤ f t)
    go (r, o, h) = ⊎_elim
        (λ (a : f (suc n) < f r). (suc n, omega arith, λ t m. ⊎_elim (λ (q : t ≡ suc n). let e : f t ≡ f (suc n) = ap f q in omega arith) (λ q. let b = h t (omega arith) in omega arith) (cases_eq t (suc n))))
        (λ a. (r, omega arith, λ t m. ⊎_elim (λ (q : t ≡ suc n). let e : f t ≡ f (suc n) = ap f q in omega arith) (λ q. h t (omega arith)) (cases_eq t (suc n))))
        (cases_lt (f (suc n)) (f r))

pub root_law : RootIsCentral
root_law g some = record { below = inside; least = lowest; lowest = higher }
  where
    one : (r : ℕ) × (r < g.n) × ((t : ℕ) → t < g.n → reach g r ≤ reach g t)
    one = lowest_of (reach g) g.n some

    inside : root g < g.n
    inside =
        let a = one.1 in
        let b = least_first (λ s. every (λ t. leb (reach g s) (reach g t)) g.n) g.n one.0 (every_from (λ t. leb (reach g one.0) (reach g t)) g.n (λ t l. le-leb (reach g one.0) (reach g t) (one.2 t l))) in
        omega arith

    lowest : (t : ℕ) → t < g.n → reach g (root g) ≤ reach g t
    lowest t l = leb-true (reach g (root g)) (reach g t) (every_at (λ t. leb (reach g (root g)) (reach g t)) g.n (least_passes (λ s. every (λ t. leb (reach g s) (reach g t)) g.n) g.n inside) t l)

    higher : (t : ℕ) → t < root g → reach g (root g) < reach g t
    higher t l = ⊎_elim (λ (h : reach g (root g) < reach g t). h)
        (λ h. absurd (both_ways (every (λ u. leb (reach g t) (reach g u)) g.n) (least_below (λ s. every (λ u. leb (reach g s) (reach g u)) g.n) g.n t l)
        (every_from (λ u. leb (reach g t) (reach g u)) g.n (λ u o. let a = lowest u o in le-leb (reach g t) (reach g u) (omega arith)))))
        (cases_lt (reach g (root g)) (reach g t))
