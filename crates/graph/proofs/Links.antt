-- The links of a list of cables: there are two for each, both between switches that are there, and one goes back where the other came from. Assumes nothing.
use Rattle.std.proofs.Common.{◌≡◌, ℕ, zero, suc, ◌+◌, ◌-◌, ◌*◌, ◌%◌, ◌<◌, ◌≤◌, eqb, List, [], ◌∷◌, map, length, get_or, sym, refl, ap, subst, ⊎_elim, arith}
use Rattle.std.proofs.lemmas.Bool.{cases_eq, cases_lt, cond-true, cond-false, eq-eqb, ne_eqb}
use Rattle.std.proofs.Math.ListN.{get_or-map, length-map}
use Rattle.net.specs.declared.Cable.{Cable}
use Rattle.graph.specs.declared.link.Link.{Link}
use Rattle.graph.specs.Graph.{TwoWay, Ends, partner, graph_with, no_link}
use Rattle.graph.specs.Cables.{graph_of, links_of}
use Rattle.graph.specs.Layers.{Linked}
use Rattle.graph.specs.Refusal.{Fine, no_cable}

-- an index of the list of links is the graph's
pub from_at : (ls : List Link) (k : ℕ) → get_or (map (λ l. l.from) ls) k 0 ≡ (get_or ls k no_link).from
from_at ls k = get_or-map (λ (l : Link). l.from) ls k no_link

pub to_at : (ls : List Link) (k : ℕ) → get_or (map (λ l. l.to) ls) k 0 ≡ (get_or ls k no_link).to
to_at ls k = get_or-map (λ (l : Link). l.to) ls k no_link

pub link_from : (n : ℕ) (ls : List Link) → Ends (graph_with n ls) → (k : ℕ) → k < length ls → (get_or ls k no_link).from < n
link_from n ls e k l = let a = from_at ls k in let b = e.from k (rw (length-map {A = Link}) l) in omega arith

pub link_to : (n : ℕ) (ls : List Link) → Ends (graph_with n ls) → (k : ℕ) → k < length ls → (get_or ls k no_link).to < n
link_to n ls e k l = let a = to_at ls k in let b = e.to k (rw (length-map {A = Link}) l) in omega arith

abbrev froms : List Cable → List ℕ
froms cs = map (λ l. l.from) (links_of cs)

abbrev tos : List Cable → List ℕ
tos cs = map (λ l. l.to) (links_of cs)

pub graph_links : (n : ℕ) (cs : List Cable) → graph_with n (links_of cs) ≡ graph_of n cs
graph_links n cs = refl

length_froms : (cs : List Cable) → length (froms cs) ≡ 2 * length cs
length_froms [] = refl
length_froms (c ∷ cs) = let h = length_froms cs in omega arith

-- what holds of both links of every cable holds of every link
each_link : (P : ℕ → ℕ → Type 0) (cs : List Cable) → ((i : ℕ) → i < length cs → P (get_or cs i no_cable).a (get_or cs i no_cable).b × P (get_or cs i no_cable).b (get_or cs i no_cable).a) →
    (k : ℕ) → k < length (froms cs) → P (get_or (froms cs) k 0) (get_or (tos cs) k 0)
each_link P [] h k l = absurd (omega arith)
each_link P (c ∷ cs) h zero l = (h 0 (omega arith)).0
each_link P (c ∷ cs) h (suc zero) l = (h 0 (omega arith)).1
each_link P (c ∷ cs) h (suc (suc k)) l = each_link P cs (λ i o. h (suc i) (omega arith)) k (omega arith)

ends_of : (n : ℕ) (cs : List Cable) → Fine n cs → Ends (graph_of n cs)
ends_of n cs f =
    record {
      from = each_link (λ x y. x < n) cs (λ i l. ((f.sound i l).from, (f.sound i l).to));
      to = each_link (λ x y. y < n) cs (λ i l. ((f.sound i l).to, (f.sound i l).from));
    }

apart_of : (n : ℕ) (cs : List Cable) → Fine n cs → (k : ℕ) → k < length (froms cs) → get_or (froms cs) k 0 ≡ get_or (tos cs) k 0 → ⊥
apart_of n cs f = each_link (λ x y. x ≡ y → ⊥) cs (λ i l. ((f.sound i l).apart, λ e. (f.sound i l).apart (sym e)))

-- the partner of a link of the later cables
later_partner : (k : ℕ) → partner (suc (suc k)) ≡ suc (suc (partner k))
later_partner k = ⊎_elim even odd (cases_eq (k % 2) 0)
  where
    even : k % 2 ≡ 0 → partner (suc (suc k)) ≡ suc (suc (partner k))
    even e =
        let d : suc (suc k) % 2 ≡ 0 = omega arith in
        let a = cond-true (eqb (suc (suc k) % 2) 0) (suc (suc k) + 1) (suc (suc k) - 1) (eq-eqb (suc (suc k) % 2) 0 d) in
        let b = cond-true (eqb (k % 2) 0) (k + 1) (k - 1) (eq-eqb (k % 2) 0 e) in
        omega arith

    odd : (k % 2 ≡ 0 → ⊥) → partner (suc (suc k)) ≡ suc (suc (partner k))
    odd e =
        let d : suc (suc k) % 2 ≡ 0 → ⊥ = λ q. e (omega arith) in
        let a = cond-false (eqb (suc (suc k) % 2) 0) (suc (suc k) + 1) (suc (suc k) - 1) (ne_eqb (suc (suc k) % 2) 0 d) in
        let b = cond-false (eqb (k % 2) 0) (k + 1) (k - 1) (ne_eqb (k % 2) 0 e) in
        let p : 1 ≤ k = ⊎_elim (λ (l : k < 1). absurd (e (let z : k ≡ 0 = omega arith in ap (λ (v : ℕ). v % 2) z))) (λ l. l) (cases_lt k 1) in
        omega arith

pub two_way : (n : ℕ) (cs : List Cable) → TwoWay (graph_of n cs)
two_way n [] k l = absurd (omega arith)
two_way n (c ∷ cs) zero l = (omega arith, refl, refl)
two_way n (c ∷ cs) (suc zero) l = (omega arith, refl, refl)
two_way n (c ∷ cs) (suc (suc k)) l = subst
    (λ (j : ℕ). (j < length (froms (c ∷ cs))) × (get_or (froms (c ∷ cs)) j 0 ≡ get_or (tos cs) k 0) × (get_or (tos (c ∷ cs)) j 0 ≡ get_or (froms cs) k 0))
    (sym (later_partner k)) (let r = two_way n cs k (omega arith) in let o = r.0 in (omega arith, r.1, r.2))

pub linked_of : (n : ℕ) (cs : List Cable) (ls : List Link) → Fine n cs → ls ≡ links_of cs → Linked (graph_with n ls)
linked_of n cs ls f q =
    let l = length_froms cs in
    let s = f.sizes.short in
    subst Linked (sym (ap (graph_with n) q))
    (record { some = f.sizes.some; few = f.sizes.few; short = omega arith; ends = ends_of n cs f; apart = apart_of n cs f; two = two_way n cs })
