use Rattle.std.proofs.Common.{ℕ, ◌+◌, sym, subst}
use Rattle.net.specs.Layout.{net_of}
use Rattle.net.specs.Net.{Leads}
use Rattle.machine.proofs.Road.{at_place}
use Rattle.table.proofs.laws.each_at_its_place.Goals as goal

pub returns : goal.returns
returns c = λ n cs m l p vs o k e d q.
    at_place (net_of l) p.serves.good vs o k e
    (subst (λ (i : ℕ). Leads (net_of l) k.block.place (i + k.block.door)) (sym p.laid.links) (p.serves.leads k.block.door k.block.place d q))
