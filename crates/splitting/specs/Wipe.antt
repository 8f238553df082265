-- Row a + 1 is freed from column m on: its entries times e_a are taken from the basis vectors e_t, m ≤ t < k. Where column a is e_(a+1), only
-- rows a and a + 1 change, and no column before m.
use Rattle.std.specs.Prelude.{◌≡◌, ◌≢◌, ℕ, suc, ◌≤◌, ◌<◌}
use Rattle.std.proofs.Common.{◌∙◌, ap₂, arith}
use Rattle.std.proofs.Math.Path.{ap}
use Rattle.std.proofs.Math.Decide.{dec_lt}
use Rattle.algebra.specs.Ring.{Ring, one_times, times_zero, zero_times, plus_minus}
use Rattle.algebra.specs.Sum.{delta, delta_same, delta_other}
use Rattle.algebra.specs.Matrix.{Matrix, Vector, Upto, product}
use Rattle.algebra.specs.Elementary.{elementary}
use Rattle.basis.specs.Entries.{plus_zero_times, plus_times_zero, apply_delta, combine_none, product_elementary_at}
use Rattle.basis.specs.Frame.{Frame, FrameWithin, Window, Change}
use Rattle.basis.specs.Shear.{taken_zero, Sheared, sheared_change, sheared_at}
use Rattle.splitting.specs.Shapes.{CompanionColumns}

module _ {R : Type 0} (K : Ring R) where
  open K use {plus as ◌⊕◌, times as ◌⊗◌, minus as ⊖◌, zero as 𝟘}

  infixl 60 ◌⊕◌
  infixl 70 ◌⊗◌
  infix 80 ⊖◌
  module _ (n k m a : ℕ) (v : Vector K) (X Y : Frame K) (l : suc a < m) (mk : m ≤ k) (kn : k ≤ n) (x : FrameWithin K n X)
      (v_low : (t : ℕ) → t < m → v t ≡ 𝟘) (v_high : (t : ℕ) → m ≤ t → t < k → v t ≡ ⊖ (X.B (suc a) t)) (v_upto : Upto K k v)
      (c : CompanionColumns K m X.B) (s : Sheared K n (delta K a) v X Y) where
    unit_upto : Upto K k (delta K a)
    unit_upto i g = delta_other K a i (omega arith)

    pub wipe_change : Change K n k X Y
    wipe_change = sheared_change K n k (delta K a) v X Y kn x unit_upto v_upto s

    -- B M: the entries of v go to row a + 1
    C : Matrix K
    C = product K n X.B (elementary K n (delta K a) v)

    C_at : (i t : ℕ) → C i t ≡ X.B i t ⊕ delta K (suc a) i ⊗ v t
    unfolding C
    C_at i t = product_elementary_at K n X.B (delta K a) v x.B i t ∙ ap (λ y. X.B i t ⊕ y ⊗ v t) (ap (λ (w : Vector K). w i) (apply_delta K n X.B a (omega arith)) ∙ c.unit i a l)

    entry : (i t : ℕ) → a ≢ i → Y.B i t ≡ C i t
    unfolding C
    entry i t g = sheared_at K n k (delta K a) v X Y kn x unit_upto v_upto s i t ∙ plus_zero_times K _ _ _ (taken_zero K (delta K a) s.by i (delta_other K a i g))

    pub wipe_columns : (i t : ℕ) → t < m → Y.B i t ≡ X.B i t
    unfolding C
    wipe_columns i t h = sheared_at K n k (delta K a) v X Y kn x unit_upto v_upto s i t
        ∙ plus_times_zero K _ _ _ (combine_none K n v C t (λ q g. elim (dec_lt q m) [
          | yes y ↦ ap (λ z. z ⊗ C q t) (v_low q y) ∙ zero_times K _
          | no y ↦ ap (λ z. v q ⊗ z) (low q ∙ c.low q t (omega arith) h) ∙ times_zero K _
        ]))
        ∙ low i
      where
        low : (i : ℕ) → C i t ≡ X.B i t
        low i = C_at i t ∙ plus_times_zero K _ _ _ (v_low t h)

    pub wipe_rows : (i t : ℕ) → a ≢ i → suc a ≢ i → Y.B i t ≡ X.B i t
    wipe_rows i t g h = entry i t g ∙ C_at i t ∙ plus_zero_times K _ _ _ (delta_other K (suc a) i h)

    pub wipe_zero : Window K k X.B → (t : ℕ) → m ≤ t → Y.B (suc a) t ≡ 𝟘
    wipe_zero w t h = elim (dec_lt t k) [
      | yes g ↦ entry (suc a) t (λ e. omega arith) ∙ C_at (suc a) t ∙ ap₂ (λ y z. X.B (suc a) t ⊕ y ⊗ z) (delta_same K (suc a)) (v_high t h g)
          ∙ ap (λ y. X.B (suc a) t ⊕ y) (one_times K _) ∙ plus_minus K _
      | no g ↦ (wipe_change.window w).right (suc a) t (omega arith) (omega arith)
    ]
