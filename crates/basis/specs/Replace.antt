-- One basis vector e_s is replaced by w, whose entry at s has an inverse. What becomes of the matrix, entry by entry.
use Rattle.std.specs.Prelude.{◌≡◌, ◌≢◌, ℕ, ◌≤◌, ◌<◌}
use Rattle.std.proofs.Math.Path.{refl, ap}
use Rattle.std.proofs.Common.{sym, ◌∙◌, ap₂, arith}
use Rattle.algebra.specs.Ring.{Ring, plus_minus}
use Rattle.algebra.specs.Solver.{◌:+◌, ◌:*◌, :-◌, :1, solve₃}
use Rattle.algebra.specs.Sum.{sum, sum_equal, sum_of_plus, sum_of_minus, delta, delta_same, delta_other, sum_of_delta}
use Rattle.algebra.specs.Matrix.{Matrix, Vector, Within, Upto, product, apply, inner}
use Rattle.algebra.specs.Elementary.{elementary}
use Rattle.basis.specs.Entries.{plus_zero_times, plus_times_zero, combine_delta, inner_delta, product_elementary_at}
use Rattle.basis.specs.Frame.{Frame, FrameWithin, Change}
use Rattle.basis.specs.Shear.{taken, taken_zero, Sheared, sheared_change, sheared_at}

module _ {R : Type 0} (K : Ring R) where
  open K use {plus as ◌⊕◌, times as ◌⊗◌, minus as ⊖◌, zero as 𝟘, one as 𝟙}

  infixl 60 ◌⊕◌
  infixl 70 ◌⊗◌
  infix 80 ⊖◌
  -- what is added to e_s
  unfoldable pub added : ℕ → Vector K → Vector K
  added s w i = w i ⊕ ⊖ (delta K s i)

  abbrev pub Replaced : ℕ → ℕ → Vector K → Frame K → Frame K → Type 0
  Replaced n s w X Y = Sheared K n (added s w) (delta K s) X Y

  pub delta_upto : (k s : ℕ) → s < k → Upto K k (delta K s)
  delta_upto k s l i g = delta_other K s i (omega arith)

  -- nothing is added in a row where w is e_s
  added_zero : (s : ℕ) (w : Vector K) (i : ℕ) → w i ≡ delta K s i → added s w i ≡ 𝟘
  unfolding added
  added_zero s w i h = ap (λ x. x ⊕ ⊖ (delta K s i)) h ∙ plus_minus K _

  pub added_upto : (k s : ℕ) (w : Vector K) → s < k → Upto K k w → Upto K k (added s w)
  added_upto k s w l h i g = added_zero s w i (h i g ∙ sym (delta_other K s i (omega arith)))

  -- 1 + e_s · (w - e_s) = w_s
  pub pivot_is : (n s : ℕ) (w : Vector K) → s < n → 𝟙 ⊕ inner K n (delta K s) (added s w) ≡ w s
  unfolding added
  pivot_is n s w l = ap (λ x. 𝟙 ⊕ x) (inner_delta K n s (added s w) l ∙ ap (λ x. w s ⊕ ⊖ x) (delta_same K s)) ∙ solve₃ K (λ a b c. :1 :+ (a :+ :- :1)) (λ a b c. a) refl (w s) 𝟘 𝟘

  -- A M: column s becomes A w
  apply_added : (n s : ℕ) (w : Vector K) (A : Matrix K) → s < n → (i : ℕ) → apply K n A (added s w) i ≡ apply K n A w i ⊕ ⊖ (A i s)
  unfolding apply added
  apply_added n s w A l i =
      sum_equal K _ (λ k. A i k ⊗ w k ⊕ ⊖ (delta K s k ⊗ A i k)) n (λ k g. solve₃ K (λ b w e. b :* (w :+ :- e)) (λ b w e. b :* w :+ :- (e :* b)) refl (A i k) (w k) (delta K s k))
      ∙ sum_of_plus K _ _ n ∙ ap (λ x. sum K (λ k. A i k ⊗ w k) n ⊕ x) (sum_of_minus K _ n ∙ ap ⊖◌ (sum_of_delta K s (A i) n l))

  pub column_other : (n s : ℕ) (w : Vector K) (A : Matrix K) → Within K n A → (i j : ℕ) → s ≢ j → product K n A (elementary K n (added s w) (delta K s)) i j ≡ A i j
  column_other n s w A a i j h = product_elementary_at K n A (added s w) (delta K s) a i j ∙ plus_times_zero K _ _ _ (delta_other K s j h)

  pub column_same : (n s : ℕ) (w : Vector K) (A : Matrix K) → s < n → Within K n A → (i : ℕ) → product K n A (elementary K n (added s w) (delta K s)) i s ≡ apply K n A w i
  column_same n s w A l a i = product_elementary_at K n A (added s w) (delta K s) a i s ∙ ap₂ (λ x y. A i s ⊕ x ⊗ y) (apply_added n s w A l i) (delta_same K s)
      ∙ solve₃ K (λ a b c. a :+ (b :+ :- a) :* :1) (λ a b c. b) refl (A i s) (apply K n A w i) 𝟘

  module _ (n s : ℕ) (w : Vector K) (X Y : Frame K) (l : s < n) (h : Upto K n w) (x : FrameWithin K n X) (m : Replaced n s w X Y) where
    entry : (i j : ℕ) → Y.B i j ≡ product K n X.B (elementary K n (added s w) (delta K s)) i j ⊕ taken K (added s w) m.by i ⊗ product K n X.B (elementary K n (added s w) (delta K s)) s j
    entry i j = sheared_at K n n (added s w) (delta K s) X Y (omega arith) x (added_upto n s w l h) (delta_upto n s l) m i j
        ∙ ap (λ y. product K n X.B (elementary K n (added s w) (delta K s)) i j ⊕ taken K (added s w) m.by i ⊗ y) (combine_delta K n s _ j l)

    pub pivot_unit : w s ⊗ m.by ≡ 𝟙
    pivot_unit = sym (ap (λ y. y ⊗ m.by) (pivot_is n s w l)) ∙ m.unit

    -- outside column s
    pub replaced_other : (i j : ℕ) → s ≢ j → Y.B i j ≡ X.B i j ⊕ taken K (added s w) m.by i ⊗ X.B s j
    replaced_other i j e = entry i j ∙ ap₂ (λ y z. y ⊕ taken K (added s w) m.by i ⊗ z) (column_other n s w X.B x.B i j e) (column_other n s w X.B x.B s j e)

    -- in a row where w is e_s only column s changes, and elsewhere where row s is zero nothing does
    pub replaced_row : (i j : ℕ) → w i ≡ delta K s i → s ≢ j → Y.B i j ≡ X.B i j
    replaced_row i j d e = replaced_other i j e ∙ plus_zero_times K _ _ _ (taken_zero K (added s w) m.by i (added_zero s w i d))

    pub replaced_column : (i j : ℕ) → X.B s j ≡ 𝟘 → s ≢ j → Y.B i j ≡ X.B i j
    replaced_column i j d e = replaced_other i j e ∙ plus_times_zero K _ _ _ d

    pub replaced_row_same : (i : ℕ) → w i ≡ delta K s i → Y.B i s ≡ apply K n X.B w i
    replaced_row_same i d = entry i s ∙ plus_zero_times K _ _ _ (taken_zero K (added s w) m.by i (added_zero s w i d)) ∙ column_same n s w X.B l x.B i

    pub replaced_T : (i j : ℕ) → s ≢ j → Y.T i j ≡ X.T i j
    replaced_T i j e = ap (λ (M : Matrix K). M i j) m.T ∙ column_other n s w X.T x.T i j e

    pub replaced_T_same : (i : ℕ) → Y.T i s ≡ apply K n X.T w i
    replaced_T_same i = ap (λ (M : Matrix K). M i s) m.T ∙ column_same n s w X.T l x.T i

  pub replaced_change : (n k s : ℕ) (w : Vector K) (X Y : Frame K) → s < k → k ≤ n → Upto K k w → FrameWithin K n X → Replaced n s w X Y → Change K n k X Y
  replaced_change n k s w X Y l g h x m = sheared_change K n k (added s w) (delta K s) X Y g x (added_upto k s w l h) (delta_upto k s l) m
