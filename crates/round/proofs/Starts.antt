-- The lists of a new fabric. Assumes nothing.
use Rattle.std.proofs.Common.{◌≡◌, ℕ, zero, suc, ◌+◌, ◌<◌, ◌≤◌, cond, ltb, ◌⊎◌, List, [], ◌∷◌, ◌++◌, map, get_or, replicate, Option, sym, refl, ap, ◌∙◌, inl, inr, arith}
use mathlib.Core.Path.{fun_ext}
use Rattle.std.proofs.lemmas.List.{append-nil, get_or_past, get_or-replicate, length-replicate, replicate-append-replicate}
use Rattle.std.proofs.lemmas.Bool.{cases_lt, cond-true, cond-false, lt-ltb, le-ltb}
use Rattle.std.proofs.lemmas.Iterator.{YieldsList, YieldsList-from_map_by, items_from_drains, maps}
use Rattle.std.specs.Fn.{Called}
use Rattle.std.specs.Iterator.{DrainsIf}
use Rattle.std.specs.Iterator.Adapters.{map_source, map_callee}
use Rattle.std.specs.List.{range_with_len}
use denote.Param.Members.{Mut}
use Rattle.net.specs.declared.Block.{Block}
use Rattle.net.specs.declared.Came.{Came}
use Rattle.net.specs.Net.{Net}
use Rattle.machine.specs.Round.{State, start}
use Rattle.round.specs.Fabric.{listed}
use Rattle.round.specs.Link.{queue_of, free_of, turn_of}
use Rattle.round.specs.declared.link.Link.{Link}
use Rattle.round.proofs.States.{same_made}

same_for_each : {A : Type 0} (k n : ℕ) (a : A) → map (λ _. a) (range_with_len k n) ≡ replicate n a
same_for_each k zero a = refl
same_for_each k (suc n) a = ap (λ xs. a ∷ xs) (same_for_each (k + 1) n a)

-- what a closure makes for each number below n, where w reads the same of all
pub made_for_each : {S A B F : Type 0} {steps : S → Option ℕ → S → Type 0} {v : ℕ → ℕ} {s : _} {g : Mut F (ℕ × Unit {0}) A} {f : F} (n : ℕ) (w : A → B) (b : B) →
    YieldsList steps v (map_source s) (range_with_len 0 n) → map_callee s ≡ f → ((x : ℕ) (y : A) (q : F) → Called g f (x, tt) y q → (q ≡ f) × (w y ≡ b)) →
    (xs us : List A) → DrainsIf (maps steps g) (Unit {0}) s xs → us ≡ xs → map w us ≡ replicate n b
made_for_each {g = g} n w b y c h xs us d e =
    ap (map w) e ∙ items_from_drains xs d (YieldsList-from_map_by g w (λ _. b) y c h) ∙ same_for_each 0 n b

nothing_there : {A : Type 0} (m n : ℕ) (a : A) → ◌≡◌ {A = ℕ → A} (λ c. get_or (replicate m a ++ replicate n a) c a) (λ c. a)
nothing_there m n a = fun_ext (λ c. ap (λ us. get_or us c a) (replicate-append-replicate m n a) ∙ go c (cases_lt c (m + n)))
  where
    go : (c : ℕ) → (c < m + n) ⊎ (m + n ≤ c) → get_or (replicate (m + n) a) c a ≡ a
    go c (inl h) = get_or-replicate (m + n) c a a h
    go c (inr h) = get_or_past (replicate (m + n) a) c a (let l = length-replicate (m + n) a in omega arith)

up_to : (n m : ℕ) → ◌≡◌ {A = ℕ → ℕ} (λ c. get_or (replicate n m) c 0) (λ c. cond (ltb c n) m 0)
up_to n m = fun_ext (λ c. go c (cases_lt c n))
  where
    go : (c : ℕ) → (c < n) ⊎ (n ≤ c) → get_or (replicate n m) c 0 ≡ cond (ltb c n) m 0
    go c (inl h) = get_or-replicate n c m 0 h ∙ sym (cond-true (ltb c n) m 0 (lt-ltb c n h))
    go c (inr h) = get_or_past (replicate n m) c 0 (let l = length-replicate n m in omega arith) ∙ sym (cond-false (ltb c n) m 0 (le-ltb c n h))

zeros : (n : ℕ) → ◌≡◌ {A = ℕ → ℕ} (λ c. get_or (replicate n 0) c 0) (λ c. 0)
zeros n = ap {B = ℕ → ℕ} (λ (us : List ℕ) (c : ℕ). get_or us c 0) (sym (append-nil (replicate n 0))) ∙ nothing_there n 0 0

abbrev read : List (List Block) → List ℕ → List ℕ → List Came → State
read qs fs ts cs = record { queue = λ c. get_or qs c []; free = λ c. get_or fs c 0; turn = λ c. get_or ts c 0; came = cs; round = 0 }

pub new_state : (z : Net) (ls : List Link) (ds : List (List Block)) (cs : List Came) → map queue_of ls ≡ replicate z.links [] → map free_of ls ≡ replicate z.links z.store →
    map turn_of ls ≡ replicate z.links 0 → ds ≡ replicate z.doors [] → cs ≡ [] → listed ls ds cs 0 ≡ start z
new_state z ls ds cs q f t d c =
    let a : map queue_of ls ++ ds ≡ replicate z.links [] ++ replicate z.doors [] = cc in
    let b : listed ls ds cs 0 ≡ read (replicate z.links [] ++ replicate z.doors []) (replicate z.links z.store) (replicate z.links 0) [] =
    ap (λ (w : List (List Block)). read w (map free_of ls) (map turn_of ls) cs) a ∙
    ap (λ (w : List ℕ). read (replicate z.links [] ++ replicate z.doors []) w (map turn_of ls) cs) f ∙
    ap (λ (w : List ℕ). read (replicate z.links [] ++ replicate z.doors []) (replicate z.links z.store) w cs) t ∙
    ap (read (replicate z.links [] ++ replicate z.doors []) (replicate z.links z.store) (replicate z.links 0)) c in
    b ∙ same_made [] 0 (nothing_there z.links z.doors []) (up_to z.links z.store) (zeros z.links)
