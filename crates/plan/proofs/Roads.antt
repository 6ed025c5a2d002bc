-- Walking the table link by link. Assumes nothing.
use Rattle.std.proofs.Common.{◌≡◌, ℕ, List, [], ◌∷◌, ◌++◌, sym, ap, ◌∙◌, subst, append_assoc}
use Rattle.net.specs.declared.Entry.TheVariants.{Here, Link}
use Rattle.net.specs.Net.{Net}
use Rattle.waits.specs.Laws.{Road, arrived, over}
use Rattle.std.proofs.lemmas.List.{append-nil}

-- the links in xs lead from channel c to channel a
abbrev pub Led : Net → ℕ → ℕ → ℕ → List ℕ → Type 0
Led z p c a xs = (es : List ℕ) → Road z p a es → Road z p c (xs ++ es)

pub led_on : (z : Net) (p c a e : ℕ) (xs ys : List ℕ) → z.next a p ≡ Link e → ys ≡ xs ++ (e ∷ []) → Led z p c a xs → Led z p c e ys
led_on z p c a e xs ys q s l es r =
    subst (λ (zs : List ℕ). Road z p c zs) (sym (ap (λ (us : List ℕ). us ++ es) s ∙ append_assoc xs (e ∷ []) es)) (l (e ∷ es) (over q r))

pub led_there : (z : Net) (p c a : ℕ) (xs : List ℕ) → z.next a p ≡ Here → Led z p c a xs → Road z p c xs
led_there z p c a xs q l = subst (λ (zs : List ℕ). Road z p c zs) (append-nil xs) (l [] (arrived q))
