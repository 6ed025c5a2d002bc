-- The road that a table walks is the only one, and the wait of a pair is the one that its line says. Assumes nothing.
use Rattle.std.proofs.Common.{◌≡◌, ℕ, zero, suc, ◌+◌, ◌*◌, ◌<◌, Bool, cond, ◌&&◌, ltb, List, ◌∷◌, length, get_or, vec_len, Some, None, Option, sym, refl, ap, ◌∙◌, subst, arith, lt-ltb}
use Rattle.std.proofs.lemmas.Bool.{and_from}
use Rattle.net.specs.declared.Entry.TheVariants.{Here, Link}
use Rattle.net.specs.Layout.{net_of}
use Rattle.net.specs.Net.{Net}
use Rattle.net.specs.declared.plan.Plan.{Plan}
use Rattle.machine.specs.Waits.{patience, wait}
use Rattle.plan.specs.declared.hall.Hall.{Hall}
use Rattle.waits.specs.Laws.{Road, arrived, over, stores}
use Rattle.waits.proofs.Fuel.{wait_law}
use Rattle.waits.proofs.Plans.{plan_good, plan_link}
use Rattle.text.specs.Laid.{Way, wait_along}

pub one_road : (z : Net) {p c : ℕ} {es fs : List ℕ} → Road z p c es → Road z p c fs → es ≡ fs
one_road z (arrived h) (arrived k) = refl
one_road z (arrived h) (over {e = e} k r) = let n : Here ≡ Link e = sym h ∙ k in let x : ◌≡◌ {A = ℕ} 0 1 = cc in absurd (omega arith)
one_road z (over {e = e} h r) (arrived k) = let n : Here ≡ Link e = sym k ∙ h in let x : ◌≡◌ {A = ℕ} 0 1 = cc in absurd (omega arith)
one_road z {p} (over {e = e} {es = es} h r) (over {e = f} {es = gs} k q) =
    let n : Link e ≡ Link f = sym h ∙ k in
    let m : e ≡ f = cc in
    ap (λ (x : ℕ). x ∷ es) m ∙ ap (λ (xs : List ℕ). f ∷ xs) (one_road z r (subst (λ (x : ℕ). Road z p x gs) (sym m) q))

-- the links of a road are links of its net, and end somewhere
pub road_links : (m : Plan) {p c : ℕ} {es : List ℕ} → Road (net_of m.layout) p c es → (i : ℕ) → i < length es → get_or es i 0 < vec_len m.layout.ends
road_links m (arrived h) i l = absurd (omega arith)
road_links m {p} {c} (over {e = e} h r) zero l = let k = plan_link m c p e h in let n = m.sized.ends in omega arith
road_links m (over {e = e} {es = es} h r) (suc i) l = road_links m r i (omega arith)

-- what the bounds tell of a pair is the sum along its road
pub wait_is : (h : Hall) (d p m : ℕ) (es : List ℕ) (r : Option ℕ) → d < h.bounds.plan.layout.doors → p < h.bounds.plan.layout.places → Way h d p es →
    r ≡ cond (ltb d h.bounds.plan.layout.doors && ltb p h.bounds.plan.layout.places) (Some (wait (net_of h.bounds.plan.layout) 0 (h.bounds.plan.layout.links + d) p)) None →
    r ≡ Some m → m ≡ wait_along h d es
wait_is h d p m es r ld lp w q u =
    let l = h.bounds.plan.layout in
    let z = net_of l in
    let c = l.links + d in
    let a = and_from (ltb d l.doors) (ltb p l.places) (lt-ltb d l.doors ld) (lt-ltb p l.places lp) in
    let i = h.bounds.complete.right c (omega arith) in
    let s : (0 + 1) * patience z c + stores z es ≡ wait_along h d es = ap (λ (x : ℕ). x + stores z es) (let o : (0 + 1) * patience z c ≡ patience z c = omega arith in o ∙ sym i) in
    let t : Some m ≡ Some (wait z 0 c p) = sym u ∙ q ∙ ap (λ (b : Bool). cond b (Some (wait z 0 c p)) None) a in
    let v : m ≡ wait z 0 c p = cc in
    v ∙ (wait_law z (plan_good h.bounds.plan) c p).1 0 es w ∙ s
