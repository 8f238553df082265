-- Entries of sums and products in which all terms but one, or all of them, vanish.
use Rattle.std.specs.Prelude.{◌≡◌, ◌≢◌, ℕ, ◌<◌}
use Rattle.std.proofs.Common.{sym, ◌∙◌, subst}
use Rattle.std.proofs.Math.Path.{ap, fun_ext}
use Rattle.std.proofs.Math.Decide.{ℕ_discrete}
use Rattle.algebra.specs.Ring.{Ring, plus_zero, one_times, times_commutative, times_zero, zero_times}
use Rattle.algebra.specs.Sum.{sum, sum_equal, sum_of_zeros, delta, delta_same, delta_other, sum_of_delta}
use Rattle.algebra.specs.Matrix.{Matrix, Vector, Within, matrix_plus, product, apply, combine, inner}
use Rattle.algebra.specs.Elementary.{outer, elementary, product_elementary, elementary_product}

module _ {R : Type 0} (K : Ring R) where
  open K use {plus as ◌⊕◌, times as ◌⊗◌, zero as 𝟘, one as 𝟙}

  infixl 60 ◌⊕◌
  infixl 70 ◌⊗◌
  pub plus_zero_times : (a x y : R) → x ≡ 𝟘 → a ⊕ x ⊗ y ≡ a
  plus_zero_times a x y h = ap (λ z. a ⊕ z ⊗ y) h ∙ ap (λ z. a ⊕ z) (zero_times K y) ∙ plus_zero K a

  pub plus_times_zero : (a x y : R) → y ≡ 𝟘 → a ⊕ x ⊗ y ≡ a
  plus_times_zero a x y h = ap (λ z. a ⊕ x ⊗ z) h ∙ ap (λ z. a ⊕ z) (times_zero K x) ∙ plus_zero K a

  pub sum_single : (f : ℕ → R) (n s : ℕ) → s < n → ((q : ℕ) → q < n → s ≢ q → f q ≡ 𝟘) → sum K f n ≡ f s
  sum_single f n s l h = sum_equal K f (λ q. delta K s q ⊗ f q) n (λ q g. elim (ℕ_discrete s q) [
    | yes e ↦ sym (ap (λ x. x ⊗ f q) (subst (λ (y : ℕ). delta K s y ≡ 𝟙) e (delta_same K s)) ∙ one_times K _)
    | no e ↦ h q g e ∙ sym (ap (λ x. x ⊗ f q) (delta_other K s q e) ∙ zero_times K _)
  ]) ∙ sum_of_delta K s f n l

  pub apply_single : (n s : ℕ) (A : Matrix K) (w : Vector K) (i : ℕ) → s < n → ((q : ℕ) → q < n → s ≢ q → A i q ⊗ w q ≡ 𝟘) → apply K n A w i ≡ A i s ⊗ w s
  unfolding apply
  apply_single n s A w i l h = sum_single (λ q. A i q ⊗ w q) n s l h

  pub apply_delta : (n : ℕ) (A : Matrix K) (s : ℕ) → s < n → apply K n A (delta K s) ≡ (λ i. A i s)
  unfolding apply
  apply_delta n A s l = fun_ext (λ i. sum_equal K _ (λ k. delta K s k ⊗ A i k) n (λ k g. times_commutative K _ _) ∙ sum_of_delta K s (A i) n l)

  pub combine_none : (n : ℕ) (v : Vector K) (A : Matrix K) (j : ℕ) → ((q : ℕ) → q < n → v q ⊗ A q j ≡ 𝟘) → combine K n v A j ≡ 𝟘
  unfolding combine
  combine_none n v A j h = sum_of_zeros K _ n h

  pub combine_delta : (n s : ℕ) (A : Matrix K) (j : ℕ) → s < n → combine K n (delta K s) A j ≡ A s j
  unfolding combine
  combine_delta n s A j l = sum_of_delta K s (λ k. A k j) n l

  pub inner_delta : (n s : ℕ) (u : Vector K) → s < n → inner K n (delta K s) u ≡ u s
  unfolding inner
  inner_delta n s u l = sum_of_delta K s u n l

  pub inner_none : (n : ℕ) (v u : Vector K) → ((q : ℕ) → q < n → v q ⊗ u q ≡ 𝟘) → inner K n v u ≡ 𝟘
  unfolding inner
  inner_none n v u h = sum_of_zeros K _ n h

  -- entries of A (E + u vᵀ) and of (E + u vᵀ) A
  pub product_elementary_at : (n : ℕ) (A : Matrix K) (u v : Vector K) → Within K n A → (i j : ℕ) → product K n A (elementary K n u v) i j ≡ A i j ⊕ apply K n A u i ⊗ v j
  unfolding matrix_plus outer
  product_elementary_at n A u v a i j = ap (λ (M : Matrix K). M i j) (product_elementary K n A u v a)

  pub elementary_product_at : (n : ℕ) (A : Matrix K) (u v : Vector K) → Within K n A → (i j : ℕ) → product K n (elementary K n u v) A i j ≡ A i j ⊕ u i ⊗ combine K n v A j
  unfolding matrix_plus outer
  elementary_product_at n A u v a i j = ap (λ (M : Matrix K). M i j) (elementary_product K n A u v a)
