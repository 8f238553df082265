-- The matrix E + u vᵀ, its product with a matrix from either side, and when two of them undo each other. Over any ring.
use Rattle.std.specs.Prelude.{◌≡◌, ℕ}
use Rattle.std.proofs.Math.Path.{refl, sym, ap, ap₂, fun_ext}
use Rattle.std.proofs.Common.{◌∙◌}
use Rattle.algebra.specs.Ring.{Ring, plus_associative, times_associative, times_zero, zero_times, plus_zero, plus_minus, times_minus, minus_zero}
use Rattle.algebra.specs.Solver.{◌:+◌, ◌:*◌, :-◌, :1, solve₃, solve₄}
use Rattle.algebra.specs.Sum.{sum, sum_equal, sum_of_plus, sum_of_minus, sum_times_left, sum_times_right}
use Rattle.algebra.specs.Matrix.{Matrix, Vector, Within, Upto, identity, identity_within, identity_apply, matrix_plus, matrix_plus_within, product, product_plus, plus_product, product_identity, identity_product, apply, combine, inner}
use Rattle.algebra.specs.Inverse.{Inverse}

module _ {R : Type 0} (K : Ring R) where
  open K use {plus as ◌⊕◌, times as ◌⊗◌, minus as ⊖◌, zero as 𝟘, one as 𝟙}

  infixl 60 ◌⊕◌
  infixl 70 ◌⊗◌
  infix 80 ⊖◌
  -- u vᵀ
  unfoldable pub outer : Vector K → Vector K → Matrix K
  outer u v i j = u i ⊗ v j

  -- E + u vᵀ
  unfoldable pub elementary : ℕ → Vector K → Vector K → Matrix K
  elementary n u v = matrix_plus K (identity K n) (outer u v)

  pub outer_within : (n : ℕ) (u v : Vector K) → Upto K n u → Upto K n v → Within K n (outer u v)
  unfolding outer
  outer_within n u v a b = record {
    rows = λ i j l. ap (λ x. x ⊗ v j) (a i l) ∙ zero_times K _;
    columns = λ i j l. ap (λ x. u i ⊗ x) (b j l) ∙ times_zero K _;
  }

  pub elementary_within : (n : ℕ) (u v : Vector K) → Upto K n u → Upto K n v → Within K n (elementary n u v)
  unfolding elementary
  elementary_within n u v a b = matrix_plus_within K n _ _ (identity_within K n) (outer_within n u v a b)

  product_outer : (n : ℕ) (A : Matrix K) (u v : Vector K) → product K n A (outer u v) ≡ outer (apply K n A u) v
  unfolding product outer apply
  product_outer n A u v = fun_ext (λ i. fun_ext (λ j. ap (λ f. sum K f n) (fun_ext (λ k. sym (times_associative K _ _ _))) ∙ sum_times_right K (λ k. A i k ⊗ u k) (v j) n))

  outer_product : (n : ℕ) (A : Matrix K) (u v : Vector K) → product K n (outer u v) A ≡ outer u (combine K n v A)
  unfolding product outer combine
  outer_product n A u v = fun_ext (λ i. fun_ext (λ j. ap (λ f. sum K f n) (fun_ext (λ k. times_associative K _ _ _)) ∙ sum_times_left K (u i) (λ k. v k ⊗ A k j) n))

  -- A (E + u vᵀ) = A + (A u) vᵀ, a column operation
  pub product_elementary : (n : ℕ) (A : Matrix K) (u v : Vector K) → Within K n A → product K n A (elementary n u v) ≡ matrix_plus K A (outer (apply K n A u) v)
  unfolding elementary
  product_elementary n A u v a = product_plus K n A (identity K n) (outer u v) ∙ ap₂ (matrix_plus K) (product_identity K n A a) (product_outer n A u v)

  -- (E + u vᵀ) A = A + u (v A), a row operation
  pub elementary_product : (n : ℕ) (A : Matrix K) (u v : Vector K) → Within K n A → product K n (elementary n u v) A ≡ matrix_plus K A (outer u (combine K n v A))
  unfolding elementary
  elementary_product n A u v a = plus_product K n (identity K n) (outer u v) A ∙ ap₂ (matrix_plus K) (identity_product K n A a) (outer_product n A u v)

  -- (E + u vᵀ) w = w + u (v · w)
  pub elementary_apply : (n : ℕ) (u v w : Vector K) → Upto K n w → (i : ℕ) → apply K n (elementary n u v) w i ≡ w i ⊕ u i ⊗ inner K n v w
  unfolding apply elementary matrix_plus outer inner
  elementary_apply n u v w h i =
      sum_equal K _ (λ k. identity K n i k ⊗ w k ⊕ u i ⊗ (v k ⊗ w k)) n (λ k l. solve₄ K (λ a b c d. (a :+ b :* c) :* d) (λ a b c d. a :* d :+ b :* (c :* d)) refl (identity K n i k) (u i) (v k) (w k))
      ∙ sum_of_plus K _ _ n
      ∙ ap₂ ◌⊕◌ (ap (λ (y : Vector K). y i) (identity_apply K n w h)) (sum_times_left K (u i) (λ k. v k ⊗ w k) n)

  -- E + w vᵀ undoes E + u vᵀ
  abbrev pub Undoes : ℕ → Vector K → Vector K → Vector K → Type 0
  Undoes n v u w = (i : ℕ) → u i ⊕ w i ⊕ u i ⊗ inner K n v w ≡ 𝟘

  undone_entry : (n : ℕ) (u w v : Vector K) → Upto K n w → Undoes n v u w → (i j : ℕ) → matrix_plus K (elementary n u v) (outer (apply K n (elementary n u v) w) v) i j ≡ identity K n i j
  unfolding matrix_plus outer elementary
  undone_entry n u w v b e i j =
      ap (λ x. identity K n i j ⊕ u i ⊗ v j ⊕ x ⊗ v j) (elementary_apply n u v w b i)
      ∙ plus_associative K _ _ _
      ∙ ap (λ x. identity K n i j ⊕ x) (
      solve₄ K (λ u w d v. u :* v :+ (w :+ u :* d) :* v) (λ u w d v. (u :+ w :+ u :* d) :* v) refl (u i) (w i) (inner K n v w) (v j)
      ∙ ap (λ x. x ⊗ v j) (e i) ∙ zero_times K (v j))
      ∙ plus_zero K _

  undone : (n : ℕ) (u w v : Vector K) → Upto K n u → Upto K n w → Upto K n v → Undoes n v u w → product K n (elementary n u v) (elementary n w v) ≡ identity K n
  undone n u w v a b c e = product_elementary n (elementary n u v) w v (elementary_within n u v a c) ∙ fun_ext (λ i. fun_ext (undone_entry n u w v b e i))

  pub elementary_inverse : (n : ℕ) (u w v : Vector K) → Upto K n u → Upto K n w → Upto K n v → Undoes n v u w → Undoes n v w u → Inverse K n (elementary n u v) (elementary n w v)
  elementary_inverse n u w v a b c g h = record {
    within = elementary_within n u v a c;
    inverse_within = elementary_within n w v b c;
    right = undone n u w v a b c g;
    left = undone n w u v b a c h;
  }

  inner_minus_scale : (n : ℕ) (u v : Vector K) (d : R) → inner K n v (λ i. ⊖ (u i ⊗ d)) ≡ ⊖ (inner K n v u ⊗ d)
  unfolding inner
  inner_minus_scale n u v d =
      sum_equal K _ (λ k. ⊖ (v k ⊗ u k ⊗ d)) n (λ k l. times_minus K _ _ ∙ ap ⊖◌ (sym (times_associative K _ _ _)))
      ∙ sum_of_minus K _ n ∙ ap ⊖◌ (sum_times_right K (λ k. v k ⊗ u k) d n)

  unit_cancels : (u s d : R) → (𝟙 ⊕ s) ⊗ d ≡ 𝟙 → u ⊗ (𝟙 ⊕ ⊖ ((𝟙 ⊕ s) ⊗ d)) ≡ 𝟘
  unit_cancels u s d e = ap (λ x. u ⊗ (𝟙 ⊕ ⊖ x)) e ∙ ap (λ x. u ⊗ x) (plus_minus K 𝟙) ∙ times_zero K u

  -- where 1 + v · u has the inverse d, E + u vᵀ has the inverse E - d u vᵀ
  pub elementary_unit_inverse : (n : ℕ) (u v : Vector K) (d : R) → Upto K n u → Upto K n v → (𝟙 ⊕ inner K n v u) ⊗ d ≡ 𝟙 → Inverse K n (elementary n u v) (elementary n (λ i. ⊖ (u i ⊗ d)) v)
  elementary_unit_inverse n u v d a b e =
      elementary_inverse n u (λ i. ⊖ (u i ⊗ d)) v a (λ i l. ap (λ x. ⊖ (x ⊗ d)) (a i l) ∙ ap ⊖◌ (zero_times K d) ∙ minus_zero K) b
      (λ i. ap (λ x. u i ⊕ ⊖ (u i ⊗ d) ⊕ u i ⊗ x) (inner_minus_scale n u v d)
      ∙ solve₃ K (λ u s d. u :+ :- (u :* d) :+ u :* :- (s :* d)) (λ u s d. u :* (:1 :+ :- ((:1 :+ s) :* d))) refl (u i) (inner K n v u) d
      ∙ unit_cancels (u i) (inner K n v u) d e)
      (λ i. solve₃ K (λ u s d. :- (u :* d) :+ u :+ :- (u :* d) :* s) (λ u s d. u :* (:1 :+ :- ((:1 :+ s) :* d))) refl (u i) (inner K n v u) d
      ∙ unit_cancels (u i) (inner K n v u) d e)
