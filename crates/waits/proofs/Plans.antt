-- The net of a plan is good, and its table leads to links only. Assumes nothing.
use Rattle.std.proofs.Common.{◌≡◌, ℕ, ◌<◌, sym}
use Rattle.net.proofs.Outside as net
use Rattle.net.specs.declared.Entry.{Entry}
use Rattle.net.specs.declared.Entry.TheVariants.{Link}
use Rattle.net.specs.declared.plan.Plan.{Plan}
use Rattle.net.specs.Layout.{net_of}
use Rattle.net.specs.Net.{Good}

pub plan_good : (m : Plan) → Good (net_of m.layout)
plan_good = net.plan_good

pub plan_link : (m : Plan) (c p e : ℕ) → (net_of m.layout).next c p ≡ Link e → e < m.layout.links
plan_link m c p e q = ((plan_good m).rises c p e q).0

-- what a read of the table told, turned round
pub told : (m : Plan) (c p : ℕ) (x : Entry) → x ≡ (net_of m.layout).next c p → (net_of m.layout).next c p ≡ x
told m c p x q = sym q
