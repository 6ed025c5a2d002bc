-- A step along a road: what is left of the sum, and that it stays small. Assumes nothing.
use Rattle.std.proofs.Common.{◌≡◌, ℕ, ◌+◌, ◌*◌, ◌^◌, ◌<◌, ◌≤◌, ap, arith}
use Rattle.std.proofs.lemmas.Nat.{mul-le}
use Rattle.net.specs.declared.Entry.TheVariants.{Link}
use Rattle.net.specs.Net.{Net, Good, channels}
use Rattle.machine.specs.Waits.{patience}
use Rattle.waits.specs.Working.{longest}
use Rattle.waits.proofs.Fuel.{higher, higher_falls, rest, rest_over}

-- `sum` was added up on the way to channel a, and what is left of the road from a is `rest z a p`
pub record Walked (z : Net) (c p a sum : ℕ) : Type 0 where
  pub there : a < channels z
  pub left : sum + rest z a p ≡ rest z c p
  pub small : sum + higher z a * 2 ^ 45 ≤ z.links * 2 ^ 45

-- a full store takes at most 32 times the limit
pub store_most : (s x : ℕ) → s ≤ 32 → x ≤ longest → s * x ≤ 2 ^ 45
store_most s x a b = let k = mul-le s x 32 longest a b in omega arith

pub walk_step : (z : Net) → Good z → z.store ≤ 32 → (c p a e sum x : ℕ) → z.next a p ≡ Link e → x ≡ patience z e → x ≤ longest →
    Walked z c p a sum → Walked z c p e (sum + z.store * x)
walk_step z g m c p a e sum x q r s w =
    let f = higher_falls z g a p e q in
    let k = store_most z.store x m s in
    let o : rest z a p ≡ z.store * patience z e + rest z e p = rest_over z g a p e q in
    let same : z.store * x ≡ z.store * patience z e = ap (λ (n : ℕ). z.store * n) r in
    let l = (g.rises a p e q).0 in
    let v = w.left in
    let u = w.small in
    record { there = omega arith; left = omega arith; small = omega arith }
