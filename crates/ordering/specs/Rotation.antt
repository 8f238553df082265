-- The rotation that brings the first m places of [0,k) behind the others.
use Rattle.std.specs.Prelude.{◌≡◌, ℕ, ◌+◌, ◌-◌, ◌≤◌, ◌<◌}
use Rattle.std.proofs.Common.{◌∙◌, ap, arith}
use Rattle.std.proofs.Math.Decide.{dec_lt}
use Rattle.algebra.specs.Choice.{below, below_inside, below_outside}
use Rattle.algebra.specs.Ring.{Ring}
use Rattle.algebra.specs.Shapes.{Permutes}
use Rattle.basis.specs.Frame.{Frame, FrameWithin, Change}
use Rattle.ordering.specs.Reordering.{Reordered, reordered_change}

-- m, m+1, .., k-1, 0, 1, .., m-1, k, ..
pub rotation : ℕ → ℕ → ℕ → ℕ
rotation m k i = below (k - m) i (i + m) (below k i (i - (k - m)) i)

pub rotation_low : (m k i : ℕ) → i < k - m → rotation m k i ≡ i + m
unfolding rotation
rotation_low m k i h = below_inside (k - m) i _ _ h

pub rotation_middle : (m k i : ℕ) → k - m ≤ i → i < k → rotation m k i ≡ i - (k - m)
unfolding rotation
rotation_middle m k i h g = below_outside (k - m) i _ _ h ∙ below_inside k i _ _ g

pub rotation_high : (m k i : ℕ) → k ≤ i → rotation m k i ≡ i
unfolding rotation
rotation_high m k i h = below_outside (k - m) i _ _ (omega arith) ∙ below_outside k i _ _ h

pub rotation_below : (m k i : ℕ) → m ≤ k → i < k → rotation m k i < k
rotation_below m k i h g = elim (dec_lt i (k - m)) [ yes a ↦ omega (arith, rotation_low m k i a) | no a ↦ omega (arith, rotation_middle m k i (omega arith) g) ]

rotation_forth : (m k i : ℕ) → m ≤ k → rotation m k (rotation (k - m) k i) ≡ i
rotation_forth m k i h = elim (dec_lt i k) [
  | yes g ↦ elim (dec_lt i m) [
    | yes a ↦ ap (rotation m k) (rotation_low (k - m) k i (omega arith)) ∙ rotation_middle m k (i + (k - m)) (omega arith) (omega arith) ∙ omega arith
    | no a ↦ (let e : rotation (k - m) k i ≡ i - m = rotation_middle (k - m) k i (omega arith) g ∙ omega arith in ap (rotation m k) e ∙ rotation_low m k (i - m) (omega arith) ∙ omega arith)
  ]
  | no g ↦ ap (rotation m k) (rotation_high (k - m) k i (omega arith)) ∙ rotation_high m k i (omega arith)
]

rotation_back : (m k i : ℕ) → m ≤ k → rotation (k - m) k (rotation m k i) ≡ i
rotation_back m k i h = (let e : m ≡ k - (k - m) = omega arith in ap (λ (x : ℕ). rotation (k - m) k (rotation x k i)) e ∙ rotation_forth (k - m) k i (omega arith))

-- nothing moves where m is k
pub rotation_none : (k i : ℕ) → rotation k k i ≡ i
rotation_none k i = elim (dec_lt i k) [ yes l ↦ rotation_middle k k i (omega arith) l ∙ omega arith | no l ↦ rotation_high k k i (omega arith) ]

pub rotation_inside : (n m k i : ℕ) → m ≤ k → k ≤ n → i < n → rotation m k i < n
rotation_inside n m k i h g l = elim (dec_lt i k) [ yes a ↦ omega (arith, rotation_below m k i h a) | no a ↦ omega (arith, rotation_high m k i (omega arith)) ]

rotation_permutes : (n m k : ℕ) → m ≤ k → k ≤ n → Permutes n (rotation m k) (rotation (k - m) k)
rotation_permutes n m k h g = record {
  below = λ i l. rotation_inside n m k i h g l;
  back_below = λ i l. rotation_inside n (k - m) k i (omega arith) g l;
  back = λ i l. rotation_back m k i h;
  forth = λ i l. rotation_forth m k i h;
}

-- the rotation of the part [0,h) of a window [0,k)
pub rotated_change : {R : Type 0} (K : Ring R) (n m h k : ℕ) (X Y : Frame K) → m ≤ h → h ≤ k → k ≤ n → FrameWithin K n X → FrameWithin K n Y → Reordered K n (rotation m h) X Y → Change K n k X Y
rotated_change K n m h k X Y l g a x y r = reordered_change K n k (rotation m h) (rotation (h - m) h) (rotation_permutes n m h l (omega arith)) a
    (stays m l) (λ i q. rotation_high m h i (omega arith)) (stays (h - m) (omega arith)) (λ i q. rotation_high (h - m) h i (omega arith)) X Y x y r
  where
    stays : (m : ℕ) → m ≤ h → (i : ℕ) → i < k → rotation m h i < k
    stays m l i q = rotation_inside k m h i l g q
