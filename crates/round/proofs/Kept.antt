-- What the scripts that came to a state say of it. Assumes nothing.
use Rattle.std.proofs.Common.{◌≡◌, ◌<◌, Bool, true, false, cond, List, [], ◌∷◌, ◌++◌, sym, refl, ap, ◌∙◌, subst, ⊎_elim}
use mathlib.Core.List.Memᴰ
use mathlib.Core.Logic.{∥∥₁_map}
use Rattle.net.specs.declared.Block.{Block}
use Rattle.net.specs.declared.plan.Plan.{Plan}
use Rattle.net.specs.Layout.{net_of}
use Rattle.net.specs.Net.{Net}
use Rattle.machine.specs.Promise.{Past, Kept}
use Rattle.machine.specs.Round.{State, Event, Enter, Round, Orderly, start, play, step}
use Rattle.machine.proofs.Whole.{whole}
use Rattle.net.proofs.Outside.{plan_good}
use Rattle.round.specs.Fabric.{net_at, state_of}
use Rattle.round.specs.declared.fabric.Fabric.{Fabric}

pub kept : (f : Fabric) → ∥ Past (net_at f) (state_of f) ∥₁ → Kept (net_at f) (state_of f)
kept f p = (p, λ vs o e. whole (net_at f) (plan_good f.plan) vs o)

at_start : (z : Net) (s : State) → s ≡ start z → Past z s
unfolding play
at_start z s e = ([], (λ b m. absurd (Memᴰ.not-nil m)), e)

pub started : (f : Fabric) → state_of f ≡ start (net_at f) → ∥ Past (net_at f) (state_of f) ∥₁
started f e = ∣ at_start (net_at f) (state_of f) e ∣₁

pub kept_at_start : (f : Fabric) → state_of f ≡ start (net_at f) → Kept (net_at f) (state_of f)
kept_at_start f e = kept f (started f e)

one_more : (z : Net) (vs : List Event) (v : Event) (s : State) → play z (vs ++ (v ∷ [])) s ≡ step z v (play z vs s)
unfolding play
one_more z [] v s = refl
one_more z (w ∷ vs) v s = one_more z vs v (step z w s)

-- what lets in a block does so at a door and for a place that are there
abbrev pub EntersWell : Net → Event → Type 0
EntersWell z v = (b : Block) → v ≡ Enter b → (b.door < z.doors) × (b.place < z.places)

orderly_more : (z : Net) (vs : List Event) (v : Event) → Orderly z vs → EntersWell z v → Orderly z (vs ++ (v ∷ []))
orderly_more z vs v o h b m = ⊎_elim (λ i. o b i) (λ i. h b (sym (Memᴰ.eq_of_singleton i))) (Memᴰ.append_cases vs m)

more : (z : Net) (v : Event) (s t : State) (r : Bool) → EntersWell z v → t ≡ cond r (step z v s) s → Past z s → Past z t
more z v s t true h e w = (w.0 ++ (v ∷ []), orderly_more z w.0 v w.1 h, e ∙ ap (step z v) w.2 ∙ sym (one_more z w.0 v (start z)))
more z v s t false h e w = (w.0, w.1, e ∙ w.2)

-- an event happened, or was refused
pub past_on : (f g : Fabric) (v : Event) (r : Bool) → EntersWell (net_at f) v → g.plan ≡ f.plan → state_of g ≡ cond r (step (net_at f) v (state_of f)) (state_of f) →
    ∥ Past (net_at f) (state_of f) ∥₁ → ∥ Past (net_at g) (state_of g) ∥₁
past_on f g v r h q e p =
    subst (λ (k : Plan). ∥ Past (net_of k.layout) (state_of g) ∥₁) (sym q) (∥∥₁_map p (λ w. more (net_at f) v (state_of f) (state_of g) r h e w))

pub round_enters_none : (z : Net) → EntersWell z Round
round_enters_none z b e = cc

pub this_enters : (z : Net) (a : Block) → a.door < z.doors → a.place < z.places → EntersWell z (Enter a)
this_enters z a d p b e = let x : a ≡ b = cc in subst (λ (k : Block). (k.door < z.doors) × (k.place < z.places)) x (d, p)
