-- The graph over which the code goes layer by layer. Assumes nothing.
use Rattle.std.specs.Prelude.{vec_len}
use Rattle.graph.specs.declared.layers.Layers.{Layers}
use Rattle.graph.specs.Graph.{Graph, graph_with}

-- as many switches as sets, and the links
abbrev pub over : Layers → Graph
over y = graph_with (vec_len y.sets) y.links.now
