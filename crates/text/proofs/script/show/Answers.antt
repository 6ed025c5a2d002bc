use Rattle.std.proofs.Common.{ℕ, ◌++◌, string_bytes, codes, ap, ◌∙◌}
use Rattle.report.specs.Lines.{show_line}
use Rattle.text.specs.Texts.{below}
use Rattle.text.specs.Plays.{store_one, waiting_one}
use Rattle.round.specs.Running.{net_in, state_in}
use Rattle.text.proofs.Eachs.{three}
use Rattle.text.proofs.script.show.Goals as goal

pub returns : goal.returns
returns c =
    let g = c.args.running.now in
    let s = string_bytes c.args.text.now in
    three s (string_bytes c.writeln.new.self) (string_bytes c.stores.new.text) (string_bytes c.waiting.new.text)
    (show_line (state_in g).round ++ codes "\n") (below (store_one g) (net_in g).links) (below (waiting_one g) (net_in g).doors)
    (c.in_ok-writeln.ensures.bytes ∙ ap (λ (n : ℕ). s ++ (show_line n ++ codes "\n")) c.rounds.ensures)
    c.in_ok-stores.ensures
    c.in_ok-waiting.ensures
