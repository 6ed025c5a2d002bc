-- Each turn of a loop of a round is one step of the machine. Assumes nothing.
use Rattle.std.proofs.Common.{◌≡◌, ℕ, ◌+◌, ◌<◌, List, [], ◌∷◌, ◌++◌, length, get_or, take, sym, refl, ap, ◌∙◌, add-one, arith}
use Rattle.std.proofs.ByRecursion.{All-get_or}
use Rattle.std.proofs.lemmas.List.{take_more}
use Rattle.net.specs.Net.{Net}
use Rattle.net.specs.Order.{serving}
use Rattle.machine.specs.Round.{State, all_handed, handed_over, serve, all_served}
use Rattle.machine.proofs.Steps.{order_below}

pub link_served : (z : Net) (i : ℕ) → i < length (serving z) → get_or (serving z) i 0 < z.links
link_served z i h = All-get_or (λ e. e < z.links) (serving z) i 0 h (order_below z.rank z.links z.links (omega arith))

pub hand_more : (z : Net) (c : ℕ) (s : State) → handed_over z c (all_handed z c s) ≡ all_handed z (c + 1) s
unfolding all_handed
hand_more z c s = ap (λ (n : ℕ). all_handed z n s) (sym (add-one c))

serve_push : (z : Net) (es : List ℕ) (e : ℕ) (s : State) → all_served z (es ++ (e ∷ [])) s ≡ serve z e (all_served z es s)
unfolding all_served
serve_push z [] e s = refl
serve_push z (d ∷ es) e s = serve_push z es e (serve z d s)

pub serve_more : (z : Net) (es : List ℕ) (i : ℕ) (s : State) → i < length es → serve z (get_or es i 0) (all_served z (take i es) s) ≡ all_served z (take (i + 1) es) s
serve_more z es i s h = sym (ap (λ (us : List ℕ). all_served z us s) (take_more es i 0 h) ∙ serve_push z (take i es) (get_or es i 0) s)
