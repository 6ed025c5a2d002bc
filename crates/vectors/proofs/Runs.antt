-- What the end of a script, or its fault, tells of the whole. Assumes nothing.
use Rattle.std.proofs.Common.{◌≡◌, ℕ, ◌≤◌, List, length, drop, Some, Result, sym, ap, ◌∙◌, subst, inl, inr}
use mathlib.Core.Logic.{∥∥₁_map}
use Rattle.std.specs.Result.{IfOk}
use Rattle.std.proofs.lemmas.Result.{IfOk-weaker}
use Rattle.plan.specs.Built.{Refuses}
use Rattle.play.specs.Games.{stopped}
use Rattle.play.specs.Kept.{Course}
use Rattle.play.specs.Played.{IsSamePlay, OnCourse, Stops}
use Rattle.play.specs.Standing.{net_of_game, position_of}
use Rattle.play.specs.declared.play.Play.{Play}
use Rattle.play.specs.declared.stop.Stop.{Stop}
use Rattle.play.specs.declared.stop.Stop.TheVariants.{Script}
use Rattle.wire.specs.declared.fault.WireError.{WireError}
use Rattle.wire.specs.declared.fault.WireError.TheVariants.{Memory, Refused as «refused»}
use Rattle.wire.specs.Script.{thing_read}
use Rattle.vectors.specs.Answers.{Tells}
use Rattle.vectors.specs.Digests.{digest_of, digested}
use Rattle.vectors.specs.Programs.{Played}
use Rattle.vectors.specs.declared.answer.Answer.{Answer}
use Rattle.vectors.specs.declared.answer.End.TheVariants.{Well}
use Rattle.vectors.specs.declared.fnv.Digest.{Digest}

course_of : (p q : Play) → IsSamePlay p q → Course q.cables.now q.script.now (net_of_game q.game) q.at (position_of q.game) → Course p.cables.now p.script.now (net_of_game q.game) q.at (position_of q.game)
course_of p q s w =
    subst (λ (cs : List ℕ). Course cs p.script.now (net_of_game q.game) q.at (position_of q.game)) s.cables
    (subst (λ (bs : List ℕ). Course q.cables.now bs (net_of_game q.game) q.at (position_of q.game)) s.script w)

pub ends_well : (p q : Play) → IsSamePlay p q → OnCourse q → length q.script.now ≤ q.at → Played p.cables.now p.script.now Well
ends_well p q s k l =
    ∥∥₁_map k (λ w. (net_of_game q.game, q.at, position_of q.game, course_of p q s w, subst (λ (bs : List ℕ). length bs ≤ q.at) s.script l))

pub script_stops : {D E : Type 0} (p q : Play) (y : Stop D) (e : WireError) (d : Digest) (r : Result Answer E) → y ≡ Script e → IsSamePlay p q → OnCourse q → Stops q y → IfOk r (Tells e d) →
    IfOk r (λ a. Played p.cables.now p.script.now a.end)
script_stops p q y («refused» x) d r i s k t' h = let t = subst (Stops q) i t' in IfOk-weaker r _ _ (λ a u. subst (Played p.cables.now p.script.now) (sym u.0) (inr (∥∥₁_map k (λ w.
    (net_of_game q.game, q.at, position_of q.game, course_of p q s w, subst (λ (bs : List ℕ). stopped (net_of_game q.game) (position_of q.game) q.at (thing_read q.at (drop q.at bs)) ≡ Some x) s.script t.1))))) h
script_stops p q y Memory d r i s k t h = IfOk-weaker r _ _ (λ a u. absurd u) h

pub cables_stop : {E : Type 0} (cs bs : List ℕ) (e : WireError) (d : Digest) (r : Result Answer E) → Refuses cs e → IfOk r (Tells e d) → IfOk r (λ a. Played cs bs a.end)
cables_stop cs bs («refused» x) d r q h = IfOk-weaker r _ _ (λ a u. subst (Played cs bs) (sym u.0) (inl q)) h
cables_stop cs bs Memory d r q h = IfOk-weaker r _ _ (λ a u. absurd u) h

-- the digest of a text that was taken in one piece
pub in_one_piece : (d n : ℕ) (piece bs text : List ℕ) → d ≡ digested n piece → n ≡ 0xcbf2_9ce4_8422_2325 → piece ≡ bs → bs ≡ text → d ≡ digest_of text
in_one_piece d n piece bs text e f g h = e ∙ ap (λ (m : ℕ). digested m piece) f ∙ ap digest_of (g ∙ h)
