use Rattle.std.proofs.Common.{◌≡◌, ◌++◌, string_bytes}
use Rattle.std.specs.Option.{IsSome}
use Rattle.std.specs.List.{flat_map}
use Rattle.text.specs.Texts.{shown}
use Rattle.text.proofs.pieces.write_each.Given as goal

abbrev pub invariant-loop-thing : goal.invariant-loop-thing
invariant-loop-thing g l =
    (goal.iterator-loop-thing g).can_next l.thing-iterator × (goal.iterator-loop-thing g).is_finite l.thing-iterator
    × (((x : _) → IsSome (g.I.Item.Display.output x)) → string_bytes l.text ≡ string_bytes l.initial.text ++ flat_map (shown g.I.Item.Display.output) l.yielded)
