-- Changes of basis by E + u vᵀ, where 1 + v · u has an inverse d, so that E - d u vᵀ is the inverse.
use Rattle.std.specs.Prelude.{◌≡◌, ℕ, ◌≤◌}
use Rattle.std.proofs.Common.{◌∙◌, ap, arith}
use Rattle.algebra.specs.Ring.{Ring, zero_times, minus_zero}
use Rattle.algebra.specs.Matrix.{Matrix, Vector, Upto, matrix_plus, product, product_within, combine, inner}
use Rattle.algebra.specs.Elementary.{outer, elementary, elementary_within, elementary_unit_inverse}
use Rattle.basis.specs.Entries.{plus_zero_times, plus_times_zero, elementary_product_at}
use Rattle.basis.specs.Frame.{Frame, FrameWithin, Inside, Change, change_by}

module _ {R : Type 0} (K : Ring R) where
  open K use {plus as ◌⊕◌, times as ◌⊗◌, minus as ⊖◌, zero as 𝟘, one as 𝟙}

  infixl 60 ◌⊕◌
  infixl 70 ◌⊗◌
  infix 80 ⊖◌
  -- - d u
  abbrev pub taken : Vector K → R → Vector K
  taken u d i = ⊖ (u i ⊗ d)

  pub record Sheared (n : ℕ) (u v : Vector K) (X Y : Frame K) : Type 0 where
    pub by : R
    pub unit : (𝟙 ⊕ inner K n v u) ⊗ by ≡ 𝟙
    pub B : Y.B ≡ product K n (elementary K n (taken u by) v) (product K n X.B (elementary K n u v))
    pub T : Y.T ≡ product K n X.T (elementary K n u v)
    pub I : Y.I ≡ product K n (elementary K n (taken u by) v) X.I

  -- the two halves of such a change: E + u vᵀ behind B and T, and in front of B and the inverse of T
  pub record OnColumns (n : ℕ) (u v : Vector K) (X Y : Frame K) : Type 0 where
    pub B : Y.B ≡ product K n X.B (elementary K n u v)
    pub T : Y.T ≡ product K n X.T (elementary K n u v)
    pub I : Y.I ≡ X.I

  pub record OnRows (n : ℕ) (u v : Vector K) (X Y : Frame K) : Type 0 where
    pub B : Y.B ≡ product K n (elementary K n u v) X.B
    pub T : Y.T ≡ X.T
    pub I : Y.I ≡ product K n (elementary K n u v) X.I

  pub sheared_by : (n : ℕ) (u v : Vector K) (d : R) {X Y Z : Frame K} → (𝟙 ⊕ inner K n v u) ⊗ d ≡ 𝟙 → OnColumns n u v X Y → OnRows n (taken u d) v Y Z → Sheared n u v X Z
  sheared_by n u v d e c r = record { by = d; unit = e; B = r.B ∙ ap (product K n _) c.B; T = r.T ∙ c.T; I = r.I ∙ ap (product K n _) c.I }

  pub taken_zero : (u : Vector K) (d : R) (i : ℕ) → u i ≡ 𝟘 → taken u d i ≡ 𝟘
  taken_zero u d i e = ap (λ x. ⊖ (x ⊗ d)) e ∙ ap ⊖◌ (zero_times K d) ∙ minus_zero K

  elementary_inside : (n k : ℕ) (u v : Vector K) → Upto K k u → Upto K k v → Inside K n k (elementary K n u v)
  unfolding elementary matrix_plus outer
  elementary_inside n k u v a b = record { rows = λ i j l. plus_zero_times K _ _ _ (a i l); columns = λ i j l. plus_times_zero K _ _ _ (b j l) }

  module _ (n k : ℕ) (u v : Vector K) (X Y : Frame K) (l : k ≤ n) (x : FrameWithin K n X) (a : Upto K k u) (b : Upto K k v) (s : Sheared n u v X Y) where
    longer : (w : Vector K) → Upto K k w → Upto K n w
    longer w h i g = h i (omega arith)

    pub sheared_change : Change K n k X Y
    sheared_change = change_by K n k X Y (elementary K n u v) (elementary K n (taken u s.by) v) l x
        (elementary_unit_inverse K n u v s.by (longer u a) (longer v b) s.unit)
        (elementary_inside n k u v a b) (elementary_inside n k (taken u s.by) v (λ i g. taken_zero u s.by i (a i g)) b) s.B s.T s.I

    pub sheared_at : (i j : ℕ) → Y.B i j ≡ product K n X.B (elementary K n u v) i j ⊕ taken u s.by i ⊗ combine K n v (product K n X.B (elementary K n u v)) j
    sheared_at i j = ap (λ (M : Matrix K). M i j) s.B
        ∙ elementary_product_at K n _ (taken u s.by) v (product_within K n X.B _ x.B (elementary_within K n u v (longer u a) (longer v b))) i j
