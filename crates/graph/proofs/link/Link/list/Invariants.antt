use Rattle.std.proofs.Common.{◌≡◌, take, vec_items}
use Rattle.graph.specs.Cables.{links_of}
use Rattle.graph.proofs.link.Link.list.Given as goal

abbrev pub invariant-loop-cable : goal.invariant-loop-cable
invariant-loop-cable l = vec_items l.links ≡ links_of (take l.cable-index l.cables)
