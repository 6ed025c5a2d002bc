-- Why an accepted list of cables has a tree, a plan and bounds, and what its refusals say. Assumes nothing.
use Rattle.std.proofs.Common.{◌≡◌, ℕ, ◌+◌, ◌<◌, ◌≤◌, Bool, true, false, cond, ltb, ◌⊎◌, List, length, Ok, Err, vec_items, sym, ap, ◌∙◌, subst, inl, inr, ⊎_elim, arith}
use Rattle.std.proofs.lemmas.Bool.{both_ways, cases_Bool, cases_lt, or_from, or_left, or_right, cond-true, cond-false, lt-ltb, le-ltb, le-leb, lt-leb}
use Rattle.net.specs.declared.layout.Layout.{Layout}
use Rattle.net.specs.declared.plan.Plan.{Plan}
use Rattle.net.specs.Layout.{net_of}
use Rattle.net.specs.Net.{Net, Leads, channels}
use Rattle.machine.specs.Waits.{patience, wait}
use Rattle.roads.specs.Numbers.{some}
use Rattle.roads.proofs.Below.{least_is, some_from, some_one}
use Rattle.roads.proofs.Roads.{one_so_short}
use Rattle.graph.specs.Graph.{Graph, graph_with}
use Rattle.graph.specs.declared.cabling.Cabling.{Cabling}
use Rattle.graph.specs.declared.link.Link.{Link}
use Rattle.graph.proofs.Links.{graph_links}
use Rattle.graph.specs.Refusal.{Accepts, graph_of_cabling}
use Rattle.graph.specs.Tree.{Joined, Lost, at, distance, plain}
use Rattle.tree.specs.declared.planted.Tree.{Tree}
use Rattle.tree.specs.Made.{Planted}
use Rattle.table.specs.Laid.{net_for}
use Rattle.table.specs.Promised.{LaidOut, graph_in}
use Rattle.table.proofs.Served.{laid_net}
use Rattle.tree.proofs.Growing.{sound_in}
use Rattle.waits.specs.Working.{Exceeds, Within, longest}
use Rattle.wire.specs.declared.fault.Fault.TheVariants.{Apart, TooLong}
use Rattle.wire.specs.declared.fault.Refusal.{Refusal}
use Rattle.wire.specs.declared.fault.WireError.{WireError}
use Rattle.wire.specs.declared.fault.WireError.TheVariants.{Refused, Memory}
use Rattle.wire.specs.Faults.{refusal}
use Rattle.wire.specs.Cables.{Cables, Proper, cables_read}
use Rattle.plan.specs.Halls.{graph_for, judged, lost, hall_net, read_hall, then_judged, too_long}
use Rattle.plan.specs.Built.{Drawn, Grown, Late, Refuses, Serving, Severed}

-- the lowest switch that cannot be reached is the one that is told
pub lost_is : (g : Graph) (s : ℕ) → Lost g s → s ≡ lost g
lost_is g s l = least_is _ g.n s (record {
  fits = let b = l.below in omega arith;
  passes = λ b. le-leb g.n (distance g 0 s) (far (cases_lt (distance g 0 s) g.n));
  none = λ t b. lt-leb g.n (distance g 0 t) (l.lower t b);
})
  where
    far : (distance g 0 s < g.n) ⊎ (g.n ≤ distance g 0 s) → g.n ≤ distance g 0 s
    far (inl h) = let r = one_so_short (plain g) (at s) g.n 0 h in absurd (l.lost r.0 r.1)
    far (inr h) = h

-- where all are joined, none is lost
pub joined_none : (g : Graph) → 0 < g.n → Joined g → lost g ≡ g.n
joined_none g n j = sym (least_is _ g.n g.n (record {
  fits = omega arith;
  passes = λ b. absurd (omega arith);
  none = λ t b. lt-leb g.n (distance g 0 t) (j 0 t n b);
}))

none_some : (f : ℕ → Bool) (n : ℕ) → ((k : ℕ) → k < n → f k ≡ false) → some f n ≡ false
none_some f n h = ⊎_elim
    (λ (e : some f n ≡ true). let w = some_one f n e in absurd (both_ways (f w.0) (h w.0 w.1) w.2))
    (λ e. e) (cases_Bool (some f n))

-- a bound that is too long is found
pub exceeds_long : (z : Net) → Exceeds z → too_long z ≡ true
unfolding too_long
exceeds_long z (inl (c, t)) = or_left _ _ (some_from (λ k. ltb longest (patience z k)) (channels z) c t.channel (lt-ltb longest (patience z c) t.long))
exceeds_long z (inr (d, p, t)) = or_right _ _
    (some_from (λ k. some (λ q. ltb longest (wait z 0 (z.links + k) q)) z.places) z.doors d t.door
    (some_from (λ q. ltb longest (wait z 0 (z.links + d) q)) z.places p t.place (lt-ltb longest (wait z 0 (z.links + d) p) t.long)))

-- and where none is, none is found
pub within_short : (z : Net) → Within z → too_long z ≡ false
unfolding too_long
within_short z w = or_from _ _
    (none_some (λ k. ltb longest (patience z k)) (channels z) (λ c l. le-ltb longest (patience z c) (w.short c l)))
    (none_some (λ k. some (λ q. ltb longest (wait z 0 (z.links + k) q)) z.places) z.doors
    (λ d l. none_some (λ q. ltb longest (wait z 0 (z.links + d) q)) z.places (λ p k. le-ltb longest (wait z 0 (z.links + d) p) (w.soon d l p k))))

module _ (bs : List ℕ) (c : Cables) (p : Proper c) (q : cables_read bs ≡ Ok c) where
  read_is : read_hall bs ≡ judged (length bs) c
  read_is = ap (then_judged (length bs)) q

  apart_is : (s : ℕ) → Lost (graph_for c) s → read_hall bs ≡ Err (refusal (Apart s) (length bs))
  apart_is s l =
      let e = lost_is (graph_for c) s l in
      read_is
      ∙ cond-true (ltb (lost (graph_for c)) c.switches) _ _ (lt-ltb (lost (graph_for c)) c.switches (let b = l.below in omega arith))
      ∙ ap (λ (x : ℕ). Err (refusal (Apart x) (length bs))) (sym e)

  -- all are joined: it is left whether a bound is too long
  joined_is : Joined (graph_for c) → read_hall bs ≡ cond (too_long (hall_net c)) (Err (refusal TooLong (length bs))) (Ok c)
  joined_is j =
      let e = joined_none (graph_for c) p.some j in
      read_is ∙ cond-false (ltb (lost (graph_for c)) c.switches) _ _ (le-ltb (lost (graph_for c)) c.switches (omega arith))

  long_is : Joined (graph_for c) → Exceeds (hall_net c) → read_hall bs ≡ Err (refusal TooLong (length bs))
  long_is j x = joined_is j ∙ cond-true (too_long (hall_net c)) _ _ (exceeds_long (hall_net c) x)

  pub accepted_is : Joined (graph_for c) → Within (hall_net c) → read_hall bs ≡ Ok c
  accepted_is j w = joined_is j ∙ cond-false (too_long (hall_net c)) _ _ (within_short (hall_net c) w)

  pub severed_is : (e : WireError) → Severed (graph_for c) (length bs) e → Refuses bs e
  severed_is (Refused x) (s, l, r) = apart_is s l ∙ ap (λ (y : Refusal). Err y) (sym r)
  severed_is Memory u = tt

-- the tree that was planted of an accepted list, with its own root
pub grown : (c : Cables) (g : Cabling) (t : Tree) → Accepts c.switches c.cables g → Planted g g.root t → Grown c t
grown c g t a p = record {
  joined = a.joined;
  graph =
      ap graph_of_cabling p.cabling
      ∙ (ap (λ (n : ℕ). graph_with n (vec_items g.links)) a.switches
      ∙ (ap (λ (ls : List Link). graph_with c.switches ls) a.links ∙ graph_links c.switches c.cables));
  root = p.root ∙ a.root;
}

-- the plan that was drawn of a grown tree is of the prescribed net
pub drawn_net : (c : Cables) (t : Tree) (p : Plan) → Grown c t → Drawn t c.room p → net_of p.layout ≡ hall_net c
drawn_net c t p g d =
    d.net ∙ ap (λ (h : Graph). net_for h t.root c.room) g.graph ∙ ap (λ (r : ℕ). net_for (graph_for c) r c.room) g.root

module _ (bs : List ℕ) (c : Cables) (p : Proper c) (q : cables_read bs ≡ Ok c) where
  pub late_is : Joined (graph_for c) → (e : WireError) → Late (hall_net c) (length bs) e → Refuses bs e
  late_is j (Refused x) (w, r) = long_is bs c p q j w ∙ ap (λ (y : Refusal). Err y) (sym r)
  late_is j Memory u = tt

-- a layout that is laid out of a tree serves, and so does the plan of it
pub drawn : (t : Tree) (m : ℕ) (l : Layout) (p : Plan) → LaidOut t m l → p.layout ≡ l → Drawn t m p
drawn t m l p o e = record {
  net = ap net_of e ∙ laid_net (graph_in t) (sound_in t.cabling) t.root t.inside m l o.laid;
  serves = subst (λ (k : Layout). Serving (net_of k)) (sym e) (record {
    good = o.serves.good;
    leads = λ s q ls lq.
        let d = o.laid.doors in
        let n = o.laid.places in
        subst (λ (i : ℕ). Leads (net_of l) q (i + s)) (sym o.laid.links) (o.serves.leads s q (omega arith) (omega arith));
  });
}
