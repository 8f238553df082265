-- A matrix and a basis it is written in: B, T and the inverse of T, with A T = T B for the matrix A in question. Changes of the
-- basis within a window [0,k), that is by matrices that are E outside its first k rows and columns.
use Rattle.std.specs.Prelude.{◌≡◌, refl, ◌≢◌, ℕ, ◌+◌, ◌-◌, ◌≤◌, ◌<◌}
use Rattle.std.proofs.Common.{sym, ◌∙◌, arith}
use Rattle.std.proofs.Math.Path.{ap}
use Rattle.std.proofs.Math.Decide.{dec_lt}
use Rattle.algebra.specs.Ring.{Ring, plus_zero, times_commutative, times_zero, zero_times}
use Rattle.algebra.specs.Sum.{sum, sum_equal, sum_split, sum_of_zeros, delta, delta_other, delta_symmetric, sum_of_delta}
use Rattle.algebra.specs.Matrix.{Matrix, Vector, Within, identity, identity_inside, identity_within, product, product_at, product_within, product_identity, identity_product, product_associative}
use Rattle.algebra.specs.Inverse.{Inverse, Basis, basis_step}

module _ {R : Type 0} (K : Ring R) where
  open K use {plus as ◌⊕◌, times as ◌⊗◌, zero as 𝟘}

  infixl 60 ◌⊕◌
  infixl 70 ◌⊗◌
  pub record Frame : Type 0 where
    pub B : Matrix K
    pub T : Matrix K
    pub I : Matrix K

  abbrev pub column : Matrix K → ℕ → Vector K
  column A j i = A i j

  -- A in the basis of a frame
  abbrev pub In : ℕ → Matrix K → Frame → Type 0
  In n A X = Basis K n A X.B X.T X.I

  pub record FrameWithin (n : ℕ) (X : Frame) : Type 0 where
    pub B : Within K n X.B
    pub T : Within K n X.T
    pub I : Within K n X.I

  -- block diagonal at k
  pub record Window (k : ℕ) (B : Matrix K) : Type 0 where
    pub right : (i j : ℕ) → i < k → k ≤ j → B i j ≡ 𝟘
    pub down : (i j : ℕ) → k ≤ i → j < k → B i j ≡ 𝟘

  -- E from row k and column k on
  pub record Inside (n k : ℕ) (M : Matrix K) : Type 0 where
    pub rows : (i j : ℕ) → k ≤ i → M i j ≡ identity K n i j
    pub columns : (i j : ℕ) → k ≤ j → M i j ≡ identity K n i j

  -- Y is X in another basis, of which the first k vectors are combinations of the first k before, and the others are those before
  pub record Change (n k : ℕ) (X Y : Frame) : Type 0 where
    pub basis : (A : Matrix K) → In n A X → In n A Y
    pub window : Window k X.B → Window k Y.B
    pub rest : (i j : ℕ) → k ≤ i → k ≤ j → Y.B i j ≡ X.B i j
    pub by : Matrix K
    pub span : (i j : ℕ) → j < k → Y.T i j ≡ product K k X.T by i j

  pub change_none : (n k : ℕ) (X : Frame) → Change n k X X
  change_none n k X = record {
    basis = λ A h. h;
    window = λ h. h;
    rest = λ i j a b. refl;
    by = delta K;
    span = λ i j l. sym (product_at K k X.T (delta K) i j ∙ sum_equal K _ (λ q. delta K j q ⊗ X.T i q) k (λ q g. times_commutative K _ _ ∙ ap (λ x. x ⊗ X.T i q) (delta_symmetric K q j)) ∙ sum_of_delta K j (X.T i) k l);
  }

  pub change_then : (n k : ℕ) {X Y Z : Frame} → Change n k X Y → Change n k Y Z → Change n k X Z
  change_then n k {X} {Y} {Z} f g = record {
    basis = λ A h. g.basis A (f.basis A h);
    window = λ h. g.window (f.window h);
    rest = λ i j a b. g.rest i j a b ∙ f.rest i j a b;
    by = product K k f.by g.by;
    span = λ i j l. g.span i j l ∙ product_at K k Y.T g.by i j ∙ sum_equal K _ _ k (λ q h. ap (λ x. x ⊗ g.by q j) (f.span i q h))
        ∙ sym (product_at K k (product K k X.T f.by) g.by i j) ∙ ap (λ (M : Matrix K). M i j) (product_associative K k X.T f.by g.by);
  }

  identity_off : (n i j : ℕ) → i ≢ j → identity K n i j ≡ 𝟘
  identity_off n i j h = elim (dec_lt i n) [ yes l ↦ identity_inside K n i j l ∙ delta_other K i j h | no l ↦ (identity_within K n).rows i j (omega arith) ]

  -- the basis T M, with J the inverse of M, where M and J are E outside the window
  module _ (n k : ℕ) (X Y : Frame) (M J : Matrix K) (l : k ≤ n) (x : FrameWithin n X) (inverse : Inverse K n M J) (m : Inside n k M) (j : Inside n k J)
      (B_is : Y.B ≡ product K n J (product K n X.B M)) (T_is : Y.T ≡ product K n X.T M) (I_is : Y.I ≡ product K n J X.I) where
    -- in the columns of the product from k on nothing happens, and in its rows from k on
    columns_kept : (A : Matrix K) → Within K n A → (i t : ℕ) → k ≤ t → product K n A M i t ≡ A i t
    columns_kept A a i t g = product_at K n A M i t ∙ sum_equal K _ _ n (λ q h. ap (λ y. A i q ⊗ y) (m.columns q t g))
        ∙ sym (product_at K n A (identity K n) i t) ∙ ap (λ (C : Matrix K). C i t) (product_identity K n A a)

    rows_kept : (A : Matrix K) → Within K n A → (i t : ℕ) → k ≤ i → product K n J A i t ≡ A i t
    rows_kept A a i t g = product_at K n J A i t ∙ sum_equal K _ _ n (λ q h. ap (λ y. y ⊗ A q t) (j.rows i q g))
        ∙ sym (product_at K n (identity K n) A i t) ∙ ap (λ (C : Matrix K). C i t) (identity_product K n A a)

    BM : Matrix K
    BM = product K n X.B M

    BM_within : Within K n BM
    unfolding BM
    BM_within = product_within K n X.B M x.B inverse.within

    B_at : (i t : ℕ) → Y.B i t ≡ product K n J BM i t
    unfolding BM
    B_at i t = ap (λ (C : Matrix K). C i t) B_is

    right_at : Window k X.B → (i t : ℕ) → i < k → k ≤ t → Y.B i t ≡ 𝟘
    unfolding BM
    right_at w i t a b = B_at i t ∙ product_at K n J BM i t ∙ sum_of_zeros K _ n (λ q h. elim (dec_lt q k) [
      | yes g ↦ ap (λ y. J i q ⊗ y) (columns_kept X.B x.B q t b ∙ w.right q t g b) ∙ times_zero K _
      | no g ↦ ap (λ y. y ⊗ BM q t) (j.columns i q (omega arith) ∙ identity_off n i q (λ e. omega arith)) ∙ zero_times K _
    ])

    down_at : Window k X.B → (i t : ℕ) → k ≤ i → t < k → Y.B i t ≡ 𝟘
    unfolding BM
    down_at w i t a b = B_at i t ∙ rows_kept BM BM_within i t a ∙ product_at K n X.B M i t ∙ sum_of_zeros K _ n (λ q h. elim (dec_lt q k) [
      | yes g ↦ ap (λ y. y ⊗ M q t) (w.down i q a g) ∙ zero_times K _
      | no g ↦ ap (λ y. X.B i q ⊗ y) (m.rows q t (omega arith) ∙ identity_off n q t (λ e. omega arith)) ∙ times_zero K _
    ])

    span_at : (i t : ℕ) → t < k → Y.T i t ≡ product K k X.T M i t
    span_at i t g = ap (λ (C : Matrix K). C i t) T_is ∙ product_at K n X.T M i t ∙ ap (sum K (λ q. X.T i q ⊗ M q t)) (omega arith)
        ∙ sum_split K (λ q. X.T i q ⊗ M q t) k (n - k)
        ∙ ap (λ y. sum K (λ q. X.T i q ⊗ M q t) k ⊕ y) (sum_of_zeros K _ (n - k) (λ q h. ap (λ y. X.T i (k + q) ⊗ y) (m.rows (k + q) t (omega arith) ∙ identity_off n (k + q) t (λ e. omega arith)) ∙ times_zero K _))
        ∙ plus_zero K _ ∙ sym (product_at K k X.T M i t)

    pub change_by : Change n k X Y
    unfolding BM
    change_by = record {
      basis = λ A h. rw (B_is, T_is, I_is) (basis_step K n A X.B X.T X.I M J h inverse);
      window = λ w. record { right = right_at w; down = down_at w };
      rest = λ i t a b. B_at i t ∙ rows_kept BM BM_within i t a ∙ columns_kept X.B x.B i t b;
      by = M;
      span = span_at;
    }
