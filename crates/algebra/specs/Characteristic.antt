-- The matrix X E - A over the polynomials, for a matrix A over any ring; similar matrices have similar ones.
use Rattle.std.specs.Prelude.{◌≡◌, ℕ, zero, suc}
use Rattle.std.proofs.Math.Path.{sym, ap, ap₂, fun_ext}
use Rattle.std.proofs.Common.{◌∙◌}
use Rattle.std.proofs.Math.Decide.{ℕ_discrete}
use Rattle.algebra.specs.Ring.{Ring, times_zero, minus_zero}
use Rattle.algebra.specs.Sum.{sum, sum_nil, sum_suc, delta, delta_same, delta_other}
use Rattle.algebra.specs.Matrix.{Matrix, Within, matrix_equal, identity, identity_inside, identity_within, matrix_plus, matrix_plus_within, matrix_minus, scale, product, product_plus, plus_product, product_scale, scale_product, product_minus, minus_product, product_identity, identity_product}
use Rattle.algebra.specs.Inverse.{Inverse}
use Rattle.algebra.specs.Polynomial.{Polynomial, polynomials, scalar, scalar_zero, scalar_one, scalar_plus, scalar_times, X}

module _ {R : Type 0} (K : Ring R) where
  abbrev L : Ring (Polynomial K)
  L = polynomials K

  -- A with constant polynomials for its entries
  unfoldable pub scalars : Matrix K → Matrix L
  scalars A i j = scalar K (A i j)

  pub scalars_within : (n : ℕ) (A : Matrix K) → Within K n A → Within L n (scalars A)
  unfolding scalars
  scalars_within n A a = record {
    rows = λ i j l. ap (scalar K) (a.rows i j l) ∙ scalar_zero K;
    columns = λ i j l. ap (scalar K) (a.columns i j l) ∙ scalar_zero K;
  }

  scalar_sum : (f : ℕ → R) (n : ℕ) → scalar K (sum K f n) ≡ sum L (λ i. scalar K (f i)) n
  scalar_sum f zero = ap (scalar K) (sum_nil K f) ∙ scalar_zero K ∙ sym (sum_nil L _)
  scalar_sum f (suc n) = ap (scalar K) (sum_suc K f n) ∙ scalar_plus K _ _ ∙ ap (λ x. L.plus x (scalar K (f n))) (scalar_sum f n) ∙ sym (sum_suc L _ n)

  pub scalars_product : (n : ℕ) (A B : Matrix K) → scalars (product K n A B) ≡ product L n (scalars A) (scalars B)
  unfolding scalars product
  scalars_product n A B = fun_ext (λ i. fun_ext (λ j. scalar_sum _ n ∙ ap (λ f. sum L f n) (fun_ext (λ k. scalar_times K _ _))))

  scalar_delta : (i j : ℕ) → scalar K (delta K i j) ≡ delta L i j
  scalar_delta i j = elim (ℕ_discrete i j) [
    | yes e ↦ ap (λ (x : ℕ). scalar K (delta K x j)) e ∙ ap (scalar K) (delta_same K j) ∙ scalar_one K ∙ sym (ap (λ (x : ℕ). delta L x j) e ∙ delta_same L j)
    | no h ↦ ap (scalar K) (delta_other K i j h) ∙ scalar_zero K ∙ sym (delta_other L i j h)
  ]

  pub scalars_identity : (n : ℕ) → scalars (identity K n) ≡ identity L n
  unfolding scalars
  scalars_identity n = matrix_equal L n _ _ (scalars_within n (identity K n) (identity_within K n)) (identity_within L n)
      (λ i j l g. ap (scalar K) (identity_inside K n i j l) ∙ scalar_delta i j ∙ sym (identity_inside L n i j l))

  pub scalars_inverse : (n : ℕ) (M I : Matrix K) → Inverse K n M I → Inverse L n (scalars M) (scalars I)
  scalars_inverse n M I h = record {
    within = scalars_within n M h.within;
    inverse_within = scalars_within n I h.inverse_within;
    right = sym (scalars_product n M I) ∙ ap scalars h.right ∙ scalars_identity n;
    left = sym (scalars_product n I M) ∙ ap scalars h.left ∙ scalars_identity n;
  }

  -- X E - A
  unfoldable pub characteristic : ℕ → Matrix K → Matrix L
  characteristic n A = matrix_plus L (scale L (X K) (identity L n)) (matrix_minus L (scalars A))

  pub characteristic_within : (n : ℕ) (A : Matrix K) → Within K n A → Within L n (characteristic n A)
  unfolding characteristic scale matrix_minus
  characteristic_within n A a = matrix_plus_within L n _ _
      (record { rows = λ i j l. ap (L.times (X K)) ((identity_within L n).rows i j l) ∙ times_zero L _; columns = λ i j l. ap (L.times (X K)) ((identity_within L n).columns i j l) ∙ times_zero L _ })
      (record { rows = λ i j l. ap L.minus ((scalars_within n A a).rows i j l) ∙ minus_zero L; columns = λ i j l. ap L.minus ((scalars_within n A a).columns i j l) ∙ minus_zero L })

  -- A T = T B gives (X E - A) T = T (X E - B)
  pub characteristic_similar : (n : ℕ) (A B T : Matrix K) → Within K n T → product K n A T ≡ product K n T B → product L n (characteristic n A) (scalars T) ≡ product L n (scalars T) (characteristic n B)
  unfolding characteristic
  characteristic_similar n A B T t e =
      let s : Within L n (scalars T) = scalars_within n T t in
      plus_product L n _ _ (scalars T)
      ∙ ap₂ (matrix_plus L)
      (scale_product L n (X K) (identity L n) (scalars T) ∙ ap (scale L (X K)) (identity_product L n (scalars T) s ∙ sym (product_identity L n (scalars T) s)) ∙ sym (product_scale L n (X K) (scalars T) (identity L n)))
      (minus_product L n (scalars A) (scalars T) ∙ ap (matrix_minus L) (sym (scalars_product n A T) ∙ ap scalars e ∙ scalars_product n T B) ∙ sym (product_minus L n (scalars T) (scalars B)))
      ∙ sym (product_plus L n (scalars T) _ _)
