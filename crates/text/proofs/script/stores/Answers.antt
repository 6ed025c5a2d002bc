use Rattle.std.proofs.Common.{◌≡◌, ℕ, List, ◌++◌, string_bytes, refl, ap, ◌∙◌, arith}
use Rattle.net.specs.declared.Block.{Block}
use Rattle.net.specs.declared.plan.Plan.{Plan}
use Rattle.round.specs.Running.{net_in, state_in}
use Rattle.store.specs.Store.{items}
use Rattle.text.specs.Plays.{store_one, store_text}
use Rattle.text.proofs.Eachs.{below_ends, below_starts, below_grows}
use Rattle.text.proofs.script.stores.Goals as goal

store_same : (e a a' b b' : ℕ) (bs bs' : List Block) → a ≡ a' → b ≡ b' → bs ≡ bs' → store_text e a b bs ≡ store_text e a' b' bs'
store_same e a a' b b' bs bs' p q r =
    ap (λ (x : ℕ). store_text e x b bs) p ∙ ap (λ (x : ℕ). store_text e a' x bs) q ∙ ap (λ (x : List Block). store_text e a' b' x) r

pub loop-e-init : goal.loop-e-init
loop-e-init c = below_starts (store_one c.args.running.now) (string_bytes c.args.text.now) (string_bytes c.args.text.now) refl

pub loop-e-preserved : goal.loop-e-preserved
loop-e-preserved c =
    let g = c.args.running.now in
    let s = string_bytes c.loop-e.text in
    let e = c.loop-e.e in
    let v = c.unwrap.result in
    let h = rw c.unwrap.ensures at c.link.ensures in
    below_grows (store_one g) (string_bytes c.args.text.now) s (string_bytes c.store.new.text) e c.loop-e.invariant
    (c.in_ok-store.ensures ∙ ap (λ (u : List ℕ). s ++ u) (store_same e v.free ((state_in g).free e) v.turn ((state_in g).turn e) (items v.store.now) ((state_in g).queue e) h.2 h.3 h.1))

pub returns : goal.returns
returns c =
    let l : c.plan.result.now.layout.links ≡ (net_in c.args.running.now).links = ap (λ (p : Plan). p.layout.links) c.plan.ensures in
    below_ends (store_one c.args.running.now) (string_bytes c.args.text.now) (string_bytes c.loop-e.text) c.loop-e.e (net_in c.args.running.now).links (omega arith) c.loop-e.invariant
