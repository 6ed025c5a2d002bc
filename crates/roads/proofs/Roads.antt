-- The laws of shortest roads, over any states. Assumes nothing.
use Rattle.std.proofs.Common.{◌≡◌, ℕ, zero, suc, pred, ◌<◌, ◌≤◌, Bool, true, false, ◌&&◌, ◌||◌, ◌⊎◌, List, [], ◌∷◌, length, sym, refl, ap, ◌∙◌, subst, inl, inr, ⊎_elim, arith}
use Rattle.std.proofs.lemmas.Bool.{cases_Bool, cases_lt, both_ways, or_cases, or_from, or_left, or_right, and_parts, and_from}
use Rattle.roads.specs.Numbers.{some, Least}
use Rattle.roads.specs.Roads.{Moves, Road, there, along, within, shortest, first}
use Rattle.roads.specs.Laws.{ShortestRoads}
use Rattle.roads.proofs.Below.{least_law, least_is, least_passes, least_first, some_from, some_one}

-- link k leads on from x to where a road of at most n links begins
abbrev pub goes : {S : Type 0} → Moves S → (S → Bool) → ℕ → S → ℕ → Bool
goes m goal n x k = let r = within m goal n (m.after x k) in m.may x k && r

module _ {S : Type 0} (m : Moves S) (goal : S → Bool) where
  pub goal_within : (n : ℕ) (x : S) → goal x ≡ true → within m goal n x ≡ true
  unfolding within
  goal_within zero x e = e
  goal_within (suc n) x e = or_left (goal x) (some (goes m goal n x) m.links) e

  pub goes_within : (n : ℕ) (x : S) (k : ℕ) → k < m.links → goes m goal n x k ≡ true → within m goal (suc n) x ≡ true
  unfolding within
  goes_within n x k l e = or_right (goal x) (some (goes m goal n x) m.links) (some_from (goes m goal n x) m.links k l e)

  -- a way to be within n + 1: at the goal, or on by a link
  pub within_cases : (n : ℕ) (x : S) → within m goal (suc n) x ≡ true →
      (goal x ≡ true) ⊎ ((k : ℕ) × (k < m.links) × (goes m goal n x k ≡ true))
  unfolding within
  within_cases n x e = ⊎_elim (λ (g : goal x ≡ true). inl g) (λ g. inr (some_one (goes m goal n x) m.links g))
      (or_cases (goal x) (some (goes m goal n x) m.links) e)

  pub within_zero : (x : S) → within m goal 0 x ≡ goal x
  unfolding within
  within_zero x = refl

  pub road_within : (n : ℕ) (x : S) (ks : List ℕ) → Road m goal x ks → length ks ≤ n → within m goal n x ≡ true
  road_within n x _ (there e) l = goal_within n x e
  road_within zero x _ (along k<l e r) l = absurd (omega arith)
  road_within (suc n) x _ (along {k = k} {ks = ks} k<l e r) l =
      goes_within n x k k<l (and_from (m.may x k) (within m goal n (m.after x k)) e (road_within n (m.after x k) ks r (omega arith)))

  pub within_road : (n : ℕ) (x : S) → within m goal n x ≡ true → (ks : List ℕ) × Road m goal x ks × (length ks ≤ n)
  within_road zero x e = ([], there (subst (λ (b : Bool). b ≡ true) (within_zero x) e), omega arith)
  within_road (suc n) x e = go (λ y t. within_road n y t) (within_cases n x e)
    where
      go : ((y : S) → within m goal n y ≡ true → (ks : List ℕ) × Road m goal y ks × (length ks ≤ n)) →
          (goal x ≡ true) ⊎ ((k : ℕ) × (k < m.links) × (goes m goal n x k ≡ true)) →
          (ks : List ℕ) × Road m goal x ks × (length ks ≤ suc n)
      go f (inl g) = ([], there g, omega arith)
      go f (inr (k, l, g)) =
          let p = and_parts (m.may x k) (within m goal n (m.after x k)) g in
          let r = f (m.after x k) p.1 in
          let h = r.2 in
          (k ∷ r.0, along l p.0 r.1, omega arith)

  pub within_more : (n j : ℕ) (x : S) → n ≤ j → within m goal n x ≡ true → within m goal j x ≡ true
  within_more n j x l e = let r = within_road n x e in let h = r.2 in road_within j x r.0 r.1 (omega arith)

  -- one layer more, as code makes it
  pub within_layer : (n : ℕ) (x : S) → within m goal (suc n) x ≡ (within m goal n x || some (goes m goal n x) m.links)
  within_layer n x = ⊎_elim up down (cases_Bool (within m goal (suc n) x))
    where
      up : within m goal (suc n) x ≡ true → within m goal (suc n) x ≡ (within m goal n x || some (goes m goal n x) m.links)
      up e = e ∙ sym (⊎_elim
          (λ (g : goal x ≡ true). or_left (within m goal n x) (some (goes m goal n x) m.links) (goal_within n x g))
          (λ g. or_right (within m goal n x) (some (goes m goal n x) m.links) (some_from (goes m goal n x) m.links g.0 g.1 g.2))
          (within_cases n x e))

      quiet : within m goal (suc n) x ≡ false → some (goes m goal n x) m.links ≡ false
      quiet e = ⊎_elim
          (λ (t : some (goes m goal n x) m.links ≡ true). let o = some_one (goes m goal n x) m.links t in absurd (both_ways (within m goal (suc n) x) e (goes_within n x o.0 o.1 o.2)))
          (λ t. t) (cases_Bool (some (goes m goal n x) m.links))

      still : within m goal (suc n) x ≡ false → within m goal n x ≡ false
      still e = ⊎_elim
          (λ (t : within m goal n x ≡ true). absurd (both_ways (within m goal (suc n) x) e (within_more n (suc n) x (omega arith) t)))
          (λ t. t) (cases_Bool (within m goal n x))

      down : within m goal (suc n) x ≡ false → within m goal (suc n) x ≡ (within m goal n x || some (goes m goal n x) m.links)
      down e = e ∙ sym (or_from (within m goal n x) (some (goes m goal n x) m.links) (still e) (quiet e))

  -- the shortest is within n just when some road has at most n links
  pub shortest_le : (most n : ℕ) (x : S) → within m goal n x ≡ true → shortest m goal most x ≤ n
  unfolding shortest
  shortest_le most n x e = least_first (λ i. within m goal i x) most n e

  pub shortest_within : (most n : ℕ) (x : S) → shortest m goal most x < most → shortest m goal most x ≤ n → within m goal n x ≡ true
  unfolding shortest
  shortest_within most n x l h = within_more (shortest m goal most x) n x h (least_passes (λ i. within m goal i x) most l)

  pub shortest_is : (most r : ℕ) (x : S) → Least (λ i. within m goal i x) most r → r ≡ shortest m goal most x
  unfolding shortest
  shortest_is most r x h = least_is (λ i. within m goal i x) most r h

  pub none_shorter : (most : ℕ) (x : S) (ks : List ℕ) → Road m goal x ks → shortest m goal most x ≤ length ks
  none_shorter most x ks r = shortest_le most (length ks) x (road_within (length ks) x ks r (omega arith))

  pub one_so_short : (most : ℕ) (x : S) → shortest m goal most x < most → (ks : List ℕ) × Road m goal x ks × (length ks ≡ shortest m goal most x)
  one_so_short most x l =
      let r = within_road (shortest m goal most x) x (shortest_within most (shortest m goal most x) x l (omega arith)) in
      let h = r.2 in
      let g = none_shorter most x r.0 r.1 in
      (r.0, r.1, omega arith)

  -- at the goal it is 0, elsewhere not
  pub shortest_goal : (most : ℕ) (x : S) → goal x ≡ true → shortest m goal most x ≡ 0
  shortest_goal most x e = let h = shortest_le most 0 x (goal_within 0 x e) in omega arith

  pub shortest_away : (most : ℕ) (x : S) → goal x ≡ false → shortest m goal most x < most → 0 < shortest m goal most x
  shortest_away most x e l = ⊎_elim (λ (h : 0 < shortest m goal most x). h)
      (λ h. absurd (both_ways (goal x) e (sym (within_zero x) ∙ shortest_within most 0 x l h)))
      (cases_lt 0 (shortest m goal most x))

  pub first_law : (most : ℕ) (x : S) → Least (goes m goal (pred (shortest m goal most x)) x) m.links (first m goal most x)
  unfolding first
  first_law most x = least_law (goes m goal (pred (shortest m goal most x)) x) m.links

  -- the first link of a shortest road, and how far it still is after it
  pub first_is : (most : ℕ) (x : S) → shortest m goal most x < most → goal x ≡ false →
      (first m goal most x < m.links) × (m.may x (first m goal most x) ≡ true) ×
      (suc (shortest m goal most (m.after x (first m goal most x))) ≡ shortest m goal most x)
  first_is most x l e = (k<l, p.0, omega (arith, pos, after_le, after_ge))
    where
      pos : shortest m goal most x ≡ suc (pred (shortest m goal most x))
      pos = let a = shortest_away most x e l in omega arith

      a_road : (i : ℕ) × (i < m.links) × (goes m goal (pred (shortest m goal most x)) x i ≡ true)
      a_road = ⊎_elim (λ (g : goal x ≡ true). absurd (both_ways (goal x) e g)) (λ g. g)
          (within_cases (pred (shortest m goal most x)) x (shortest_within most (suc (pred (shortest m goal most x))) x l (omega (arith, pos))))

      k<l : first m goal most x < m.links
      k<l =
          let f = first_law most x in
          ⊎_elim (λ (h : first m goal most x < m.links). h)
          (λ h. absurd (both_ways (goes m goal (pred (shortest m goal most x)) x a_road.0) (f.none a_road.0 (let q = a_road.1 in omega arith)) a_road.2))
          (cases_lt (first m goal most x) m.links)

      p : (m.may x (first m goal most x) ≡ true) × (within m goal (pred (shortest m goal most x)) (m.after x (first m goal most x)) ≡ true)
      p = and_parts (m.may x (first m goal most x)) (within m goal (pred (shortest m goal most x)) (m.after x (first m goal most x))) ((first_law most x).passes k<l)

      after_le : shortest m goal most (m.after x (first m goal most x)) ≤ pred (shortest m goal most x)
      after_le = shortest_le most (pred (shortest m goal most x)) (m.after x (first m goal most x)) p.1

      after_ge : pred (shortest m goal most x) ≤ shortest m goal most (m.after x (first m goal most x))
      after_ge =
          let b = after_le in
          let q = pos in
          let r = one_so_short most (m.after x (first m goal most x)) (omega arith) in
          let h = r.2 in
          let s = none_shorter most x (first m goal most x ∷ r.0) (along k<l p.0 r.1) in
          omega arith

  pub first_lowest : (most : ℕ) (x : S) (k : ℕ) (ks : List ℕ) → Road m goal x (k ∷ ks) →
      length (k ∷ ks) ≡ shortest m goal most x → shortest m goal most x < most → first m goal most x ≤ k
  unfolding first
  first_lowest most x k ks (along k<l e r) q l =
      least_first (goes m goal (pred (shortest m goal most x)) x) m.links k
      (and_from (m.may x k) (within m goal (pred (shortest m goal most x)) (m.after x k)) e
      (road_within (pred (shortest m goal most x)) (m.after x k) ks r (omega arith)))

  -- what code finds as it goes layer by layer: x is not within n, and k is the lowest link that leads to within n
  pub first_found : (most n : ℕ) (x : S) (k : ℕ) → suc n < most → k < m.links → within m goal n x ≡ false →
      ((i : ℕ) → i < k → goes m goal n x i ≡ false) → goes m goal n x k ≡ true →
      (goal x ≡ false) × (shortest m goal most x ≡ suc n) × (k ≡ first m goal most x)
  unfolding first
  first_found most n x k l k<l e lower here = (away, dist, where_is)
    where
      away : goal x ≡ false
      away = ⊎_elim (λ (g : goal x ≡ true). absurd (both_ways (within m goal n x) e (goal_within n x g))) (λ g. g) (cases_Bool (goal x))

      dist : shortest m goal most x ≡ suc n
      dist =
          let a = shortest_le most (suc n) x (goes_within n x k k<l here) in
          ⊎_elim (λ (h : shortest m goal most x < suc n). absurd (both_ways (within m goal n x) e (shortest_within most n x (omega arith) (omega arith))))
          (λ h. omega arith) (cases_lt (shortest m goal most x) (suc n))

      where_is : k ≡ first m goal most x
      where_is =
          let q : pred (shortest m goal most x) ≡ n = ap pred dist in
          least_is (goes m goal (pred (shortest m goal most x)) x) m.links k
          (subst (λ (j : ℕ). Least (goes m goal j x) m.links k) (sym q) (record { fits = omega arith; passes = λ _. here; none = lower }))

pub shortest_roads : (S : Type 0) → ShortestRoads S
shortest_roads S = record { none_shorter = none_shorter; one_so_short = one_so_short; first_is = first_is; first_lowest = first_lowest }
