-- One link more in the order of serving, as the code goes through them.
use Rattle.std.proofs.Common.{◌≡◌, ℕ, ◌+◌, ◌<◌, ◌≤◌, List, [], All, sym, refl, ap, ◌∙◌, subst, add-one, arith}
use Rattle.std.specs.List.{insert}
use Rattle.std.proofs.lemmas.List.Elements.{All-from_get_or}
use Rattle.net.specs.Order.{insert_by, order, Serves}
use Rattle.net.specs.Position.{position}
use Rattle.net.proofs.Positions.{insert_at}
use Rattle.net.proofs.Ranked.{in_order_of_rank}

pub order_none : (r : ℕ → ℕ) → [] ≡ order r 0
unfolding order
order_none r = refl

-- the code read `seen`, which is what it holds, and put n in at p
pub order_more : (r : ℕ → ℕ) (n p : ℕ) (seen es more : List ℕ) → es ≡ order r n → seen ≡ es → p ≡ position r n seen → more ≡ insert es p n → more ≡ order r (n + 1)
unfolding order
order_more r n p seen es more e s q m =
    let o : p ≡ position r n es = q ∙ ap (position r n) s in
    let a : insert es p n ≡ insert es (position r n es) n = ap (λ (i : ℕ). insert es i n) o in
    let b : insert_by r n es ≡ insert_by r n (order r n) = ap (insert_by r n) e in
    rw add-one (m ∙ a ∙ sym (insert_at r n es) ∙ b)

pub order_serves : (r : ℕ → ℕ) (n : ℕ) (es : List ℕ) → es ≡ order r n → Serves r n es
order_serves r n es e = subst (λ (xs : List ℕ). Serves r n xs) (sym e) (in_order_of_rank r n)

-- every link in the order has a rank, where there are m ranks
pub order_known : (r : ℕ → ℕ) (n m : ℕ) (es : List ℕ) → es ≡ order r n → n ≤ m → All (λ k. k < m) es
order_known r n m es e h = All-from_get_or (λ k. k < m) es 0 (λ k l. let s = order_serves r n es e in let z = s.size in let w = s.within k (omega arith) in omega arith)
