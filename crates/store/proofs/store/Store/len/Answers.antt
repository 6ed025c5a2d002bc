use Rattle.std.proofs.Common.{sym}
use Rattle.store.proofs.Fits.{items_count}
use Rattle.store.proofs.store.Store.len.Goals as goal

pub returns : goal.returns
returns c = sym (items_count c.args.self.now)
