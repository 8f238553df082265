-- Elimination by row operations over any ring: S A = M with S invertible, and the first columns of M are those of E. Once all of
-- them are, S is the inverse of A; a column with only zeros from the diagonal on shows that A has no inverse.
use Rattle.std.specs.Prelude.{◌≡◌, refl, ◌≢◌, ℕ, suc, ◌≤◌, ◌<◌}
use Rattle.std.proofs.Common.{sym, ◌∙◌, ap₂, arith}
use Rattle.std.proofs.Math.Path.{ap}
use Rattle.std.proofs.Math.Decide.{ℕ_discrete, dec_lt}
use Rattle.algebra.specs.Ring.{Ring, plus_zero, times_one, times_zero, zero_times, times_commutative}
use Rattle.algebra.specs.Solver.{◌:+◌, ◌:*◌, :-◌, :1, solve₃, solve₄}
use Rattle.algebra.specs.Sum.{sum_equal, sum_of_zeros, delta, delta_same, delta_other, delta_symmetric, sum_of_delta}
use Rattle.algebra.specs.Matrix.{Matrix, Within, Upto, matrix_equal, matrix_plus, identity, identity_inside, identity_within, combine, inner, product, product_at, product_associative, identity_product}
use Rattle.algebra.specs.Inverse.{Inverse, identity_inverse, inverse_of_product, inverse_unique, cancel_left}
use Rattle.algebra.specs.Elementary.{outer, elementary, elementary_within, elementary_product, elementary_unit_inverse}

module _ {R : Type 0} (K : Ring R) (n : ℕ) where
  open K use {plus as ◌⊕◌, times as ◌⊗◌, minus as ⊖◌, zero as 𝟘, one as 𝟙}

  infixl 60 ◌⊕◌
  infixl 70 ◌⊗◌
  infix 80 ⊖◌
  abbrev ◌·◌ : Matrix K → Matrix K → Matrix K
  ◌·◌ = product K n

  infixl 70 ◌·◌
  abbrev E : Matrix K
  E = identity K n

  -- E + c e_i e_kᵀ: from the left it adds c times row k to row i
  unfoldable pub row_addition : ℕ → R → ℕ → Matrix K
  row_addition i c k = elementary K n (λ t. c ⊗ delta K i t) (delta K k)

  multiple_upto : (i : ℕ) (c : R) → i < n → Upto K n (λ t. c ⊗ delta K i t)
  multiple_upto i c l t h = ap (λ x. c ⊗ x) (delta_other K i t (omega arith)) ∙ times_zero K c

  pub row_addition_within : (i : ℕ) (c : R) (k : ℕ) → i < n → k < n → Within K n (row_addition i c k)
  unfolding row_addition
  row_addition_within i c k l g = elementary_within K n _ _ (multiple_upto i c l) (λ t h. delta_other K k t (omega arith))

  row_addition_at : (i : ℕ) (c : R) (k : ℕ) (M : Matrix K) → k < n → Within K n M → (t h : ℕ) → (row_addition i c k · M) t h ≡ M t h ⊕ c ⊗ delta K i t ⊗ M k h
  unfolding row_addition matrix_plus outer combine
  row_addition_at i c k M l m t h =
      ap (λ (N : Matrix K). N t h) (elementary_product K n M (λ t. c ⊗ delta K i t) (delta K k) m)
      ∙ ap (λ x. M t h ⊕ c ⊗ delta K i t ⊗ x) (sum_of_delta K k (λ s. M s h) n l)

  pub row_addition_same : (i : ℕ) (c : R) (k : ℕ) (M : Matrix K) → k < n → Within K n M → (h : ℕ) → (row_addition i c k · M) i h ≡ M i h ⊕ c ⊗ M k h
  row_addition_same i c k M l m h = row_addition_at i c k M l m i h ∙ ap (λ x. M i h ⊕ x ⊗ M k h) (ap (λ x. c ⊗ x) (delta_same K i) ∙ times_one K c)

  pub row_addition_other : (i : ℕ) (c : R) (k : ℕ) (M : Matrix K) → k < n → Within K n M → (t h : ℕ) → t ≢ i → (row_addition i c k · M) t h ≡ M t h
  row_addition_other i c k M l m t h o =
      row_addition_at i c k M l m t h
      ∙ ap (λ x. M t h ⊕ x ⊗ M k h) (ap (λ x. c ⊗ x) (delta_other K i t (λ e. o (sym e))) ∙ times_zero K c)
      ∙ ap (λ x. M t h ⊕ x) (zero_times K (M k h)) ∙ plus_zero K (M t h)

  abbrev pub HasInverse : Matrix K → Type 0
  HasInverse M = (I : Matrix K) × Inverse K n M I

  pub row_addition_invertible : (i : ℕ) (c : R) (k : ℕ) (d : R) → i < n → k < n → (𝟙 ⊕ c ⊗ delta K i k) ⊗ d ≡ 𝟙 → HasInverse (row_addition i c k)
  unfolding row_addition inner
  row_addition_invertible i c k d l g e = (
    _,
    elementary_unit_inverse K n (λ t. c ⊗ delta K i t) (delta K k) d (multiple_upto i c l) (λ t h. delta_other K k t (omega arith))
        (ap (λ x. (𝟙 ⊕ x) ⊗ d) (sum_of_delta K k (λ t. c ⊗ delta K i t) n g) ∙ e),
  )

  -- S A = M, S can be undone, and the first j columns of M are those of E
  pub record Eliminated (j : ℕ) (A M S : Matrix K) : Type 0 where
    pub moves : S · A ≡ M
    pub invertible : HasInverse S
    pub columns : (i h : ℕ) → i < n → h < j → M i h ≡ delta K i h

  pub eliminated_start : (A : Matrix K) → Within K n A → Eliminated 0 A A E
  eliminated_start A a = record { moves = identity_product K n A a; invertible = (E, identity_inverse K n); columns = λ i h l g. absurd (omega arith) }

  -- a row operation by a row from j on
  pub eliminated_step : (j i : ℕ) (c : R) (k : ℕ) (d : R) (A M S : Matrix K) → i < n → k < n → j ≤ k → Within K n M → (𝟙 ⊕ c ⊗ delta K i k) ⊗ d ≡ 𝟙
      → Eliminated j A M S → Eliminated j A (row_addition i c k · M) (row_addition i c k · S)
  eliminated_step j i c k d A M S l g q m e s =
      let P = row_addition_invertible i c k d l g e in
      record {
        moves = product_associative K n (row_addition i c k) S A ∙ ap (λ x. row_addition i c k · x) s.moves;
        invertible = (_, inverse_of_product K n (row_addition i c k) P.0 S s.invertible.0 P.1 s.invertible.1);
        columns = λ t h a b. elim (ℕ_discrete t i) [
          | yes o ↦ rw o (row_addition_same i c k M g m h ∙ ap (λ x. M i h ⊕ c ⊗ x) (s.columns k h g b ∙ delta_other K k h (omega arith)) ∙ ap (λ x. M i h ⊕ x) (times_zero K c) ∙ plus_zero K (M i h) ∙ s.columns i h l b)
          | no o ↦ row_addition_other i c k M g m t h o ∙ s.columns t h a b
        ];
      }

  -- one column more
  pub eliminated_column : (j : ℕ) (A M S : Matrix K) → ((i : ℕ) → i < n → M i j ≡ delta K i j) → Eliminated j A M S → Eliminated (suc j) A M S
  eliminated_column j A M S e s = record {
    moves = s.moves;
    invertible = s.invertible;
    columns = λ i h l g. elim (ℕ_discrete h j) [ yes o ↦ rw o (e i l) | no o ↦ s.columns i h l (omega arith) ];
  }

  -- all columns: S is the inverse of A
  pub eliminated_end : (A M S : Matrix K) → Within K n A → Within K n M → Eliminated n A M S → Inverse K n A S
  eliminated_end A M S a m s =
      let left : S · A ≡ E = s.moves ∙ matrix_equal K n M E m (identity_within K n) (λ i h l g. s.columns i h l g ∙ sym (identity_inside K n i h l)) in
      let I = s.invertible in
      let same : A ≡ I.0 = inverse_unique K n S A I.0 a I.1.inverse_within left I.1.left in
      record { within = a; inverse_within = I.1.within; right = ap (λ x. x · S) same ∙ I.1.left; left = left }

  -- where the first j columns of M are those of E, so are those of a left inverse
  left_inverse_column : (j : ℕ) (M Y : Matrix K) → ((i h : ℕ) → i < n → h < j → M i h ≡ delta K i h) → Y · M ≡ E → (i h : ℕ) → i < n → h < n → h < j → Y i h ≡ delta K i h
  left_inverse_column j M Y m y i h l g q =
      sym (sum_equal K _ (λ t. delta K h t ⊗ Y i t) n (λ t u. ap (λ x. Y i t ⊗ x) (m t h u q ∙ delta_symmetric K t h) ∙ times_commutative K _ _) ∙ sum_of_delta K h (Y i) n g)
      ∙ sym (product_at K n Y M i h) ∙ ap (λ (N : Matrix K). N i h) y ∙ identity_inside K n i h l

  -- where column j has only zeros from row j on, A has no left inverse
  pub eliminated_none : (j : ℕ) (A M S : Matrix K) → 𝟙 ≢ 𝟘 → j < n → Within K n A → ((i : ℕ) → j ≤ i → i < n → M i j ≡ 𝟘) → Eliminated j A M S → (X : Matrix K) → ¬ (X · A ≡ E)
  eliminated_none j A M S u l a z s X x =
      let I = s.invertible in
      let Y = X · I.0 in
      let y : Y · M ≡ E = product_associative K n X I.0 M ∙ ap (λ N. X · (I.0 · N)) (sym s.moves) ∙ ap (λ N. X · N) (cancel_left K n I.0 S A a I.1.left) ∙ x in
      u (sym (delta_same K j) ∙ sym (identity_inside K n j j l) ∙ sym (ap (λ (N : Matrix K). N j j) y) ∙ product_at K n Y M j j
      ∙ sum_of_zeros K _ n (λ t g. elim (dec_lt t j) [
        | yes h ↦ ap (λ v. v ⊗ M t j) (left_inverse_column j M Y s.columns y j t l g h ∙ delta_other K j t (omega arith)) ∙ zero_times K _
        | no h ↦ ap (λ v. Y j t ⊗ v) (z t (omega arith) g) ∙ times_zero K _
      ]))

  -- the entry (i, j) is that of E, and the other rows are as they were
  pub record Placed (i j : ℕ) (M N : Matrix K) : Type 0 where
    pub entry : N i j ≡ delta K i j
    pub others : (t h : ℕ) → t ≢ i → N t h ≡ M t h

  -- how many times row k has to be added to row i, where d is the reciprocal of row k's entry in column j
  abbrev pub place_factor : ℕ → ℕ → R → Matrix K → R
  place_factor i j d M = (⊖ M i j ⊕ delta K i j) ⊗ d

  pub placed : (i j k : ℕ) (d : R) (M : Matrix K) → k < n → Within K n M → M k j ⊗ d ≡ 𝟙 → Placed i j M (row_addition i (place_factor i j d M) k · M)
  placed i j k d M l m e = record {
    entry = row_addition_same i (place_factor i j d M) k M l m j
        ∙ solve₄ K (λ x o d y. x :+ (:- x :+ o) :* d :* y) (λ x o d y. x :+ (:- x :+ o) :* (y :* d)) refl (M i j) (delta K i j) d (M k j)
        ∙ ap (λ z. M i j ⊕ (⊖ M i j ⊕ delta K i j) ⊗ z) e
        ∙ solve₃ K (λ x o z. x :+ (:- x :+ o) :* :1) (λ x o z. o) refl (M i j) (delta K i j) d;
    others = λ t h o. row_addition_other i (place_factor i j d M) k M l m t h o;
  }

  -- such an operation can be undone: a row is only multiplied where its own entry (j, j) becomes one
  pub place_unit : (i j k : ℕ) (d : R) (M : Matrix K) → (i ≡ k → i ≡ j) → M k j ⊗ d ≡ 𝟙 → (e : R) × ((𝟙 ⊕ place_factor i j d M ⊗ delta K i k) ⊗ e ≡ 𝟙)
  place_unit i j k d M o e = elim (ℕ_discrete i k) [
    | yes q ↦ (
      M k j,
      ap₂ (λ x y. (𝟙 ⊕ (⊖ M i j ⊕ x) ⊗ d ⊗ y) ⊗ M k j) (ap (delta K i) (sym (o q)) ∙ delta_same K i) (ap (delta K i) (sym q) ∙ delta_same K i)
          ∙ ap (λ (t : ℕ). (𝟙 ⊕ (⊖ M t j ⊕ 𝟙) ⊗ d ⊗ 𝟙) ⊗ M k j) q
          ∙ solve₃ K (λ x d z. (:1 :+ (:- x :+ :1) :* d :* :1) :* x) (λ x d z. x :+ :- (x :* d) :* x :+ x :* d) refl (M k j) d d
          ∙ ap (λ z. M k j ⊕ ⊖ z ⊗ M k j ⊕ z) e
          ∙ solve₃ K (λ x d z. x :+ :- :1 :* x :+ :1) (λ x d z. :1) refl (M k j) d d,
    )
    | no q ↦ (𝟙, times_one K _ ∙ ap (λ x. 𝟙 ⊕ place_factor i j d M ⊗ x) (delta_other K i k q) ∙ ap (λ x. 𝟙 ⊕ x) (times_zero K _) ∙ plus_zero K 𝟙)
  ]
