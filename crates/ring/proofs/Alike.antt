-- Relations that say the same have the same rings, and the same one is the smallest. Assumes nothing.
use Rattle.std.proofs.Common.{ℕ, List, [], ◌∷◌}
use Rattle.ring.specs.Ring.{Along, Ring, NoRing, Smallest}

along_like : (H G : ℕ → ℕ → Type 0) → ((x y : ℕ) → H x y → G x y) → (x : ℕ) (es : List ℕ) (y : ℕ) → Along H x es y → Along G x es y
along_like H G f x [] y a = f x y a
along_like H G f x (e ∷ es) y a = (f x e a.0, along_like H G f e es y a.1)

pub ring_like : (H G : ℕ → ℕ → Type 0) → ((x y : ℕ) → H x y → G x y) → (cs : List ℕ) → Ring H cs → Ring G cs
ring_like H G f [] r = r
ring_like H G f (c ∷ cs) r = (along_like H G f c cs c r.0, r.1)

module _ (H G : ℕ → ℕ → Type 0) (to : (x y : ℕ) → H x y → G x y) (back : (x y : ℕ) → G x y → H x y) where
  pub no_ring_like : NoRing H → NoRing G
  no_ring_like f cs r = f cs (ring_like G H back cs r)

  pub smallest_like : (cs : List ℕ) → Smallest H cs → Smallest G cs
  smallest_like cs s =
      record {
        ring = ring_like H G to cs s.ring;
        lowest = s.lowest;
        fewest = λ ds r. s.fewest ds (ring_like G H back ds r);
        first = λ ds r l z. s.first ds (ring_like G H back ds r) l z;
      }
