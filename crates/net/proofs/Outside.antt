-- Outside of its rows and columns a table says here, and so rises. Assumes nothing.
use Rattle.std.proofs.Common.{◌≡◌, ℕ, ◌+◌, ◌*◌, ◌<◌, ◌≤◌, true, ◌&&◌, ltb, length, get_or, vec_items, vec_len, refl, ap, subst, mul-le-mul_right, arith}
use Rattle.std.proofs.lemmas.List.{get_or_past}
use Rattle.std.proofs.lemmas.Bool.{cond-false, cond_both, le-ltb, ltb-true, and_parts}
use Rattle.net.specs.declared.Entry.{Entry}
use Rattle.net.specs.declared.Entry.TheVariants.{Here}
use Rattle.net.specs.Net.{Good}
use Rattle.net.specs.declared.layout.Layout.{Layout}
use Rattle.net.specs.declared.plan.Plan.{Plan}
use Rattle.net.specs.Layout.{Sized, AllRise, entry_at, rises_to, rises_at, net_of}

pub past_row : (l : Layout) (c p : ℕ) → l.places ≤ p → rises_at l c p ≡ true
past_row l c p h =
    ap (rises_to l c) (cond-false (ltb p l.places) (get_or (vec_items l.table) (c * l.places + p) Here) Here (le-ltb p l.places h))

-- the rows stop at the last channel
pub past_table : (l : Layout) → Sized l → (c p : ℕ) → l.links + l.doors ≤ c → entry_at (vec_items l.table) l.places c p ≡ Here
past_table l z c p h =
    let n : vec_len l.table ≡ length (vec_items l.table) = l.table.ok.0 in
    let t = z.table in
    let m : (l.links + l.doors) * l.places ≤ c * l.places = mul-le-mul_right l.places h in
    cond_both (ltb p l.places) (get_or (vec_items l.table) (c * l.places + p) Here) Here (λ (x : Entry). x ≡ Here)
    (λ b. get_or_past (vec_items l.table) (c * l.places + p) Here (omega arith)) (λ b. refl)

pub past_channels : (l : Layout) → Sized l → (c p : ℕ) → l.links + l.doors ≤ c → rises_at l c p ≡ true
past_channels l z c p h = ap (rises_to l c) (past_table l z c p h)

-- a layout of right sizes whose ranks rise is a good net
pub good : (l : Layout) → 0 < l.room → AllRise l → Good (net_of l)
good l some r = record { some = some; rises = λ c p e q. up c e (subst (λ (x : Entry). rises_to l c x ≡ true) q (r c p)) }
  where
    up : (c e : ℕ) → (ltb e l.links && ltb (get_or (vec_items l.ranks) c 0) (get_or (vec_items l.ranks) e 0)) ≡ true →
        (e < l.links) × (get_or (vec_items l.ranks) c 0 < get_or (vec_items l.ranks) e 0)
    up c e t =
        let b = and_parts (ltb e l.links) (ltb (get_or (vec_items l.ranks) c 0) (get_or (vec_items l.ranks) e 0)) t in
        (ltb-true e l.links b.0, ltb-true (get_or (vec_items l.ranks) c 0) (get_or (vec_items l.ranks) e 0) b.1)

pub plan_good : (p : Plan) → Good (net_of p.layout)
plan_good p = good p.layout p.sized.some p.rising
