-- Transposed, diagonal and permutation matrices of order n over any ring, and how they multiply.
use Rattle.std.specs.Prelude.{◌≡◌, ℕ, ◌<◌}
use Rattle.std.proofs.Math.Path.{sym, ap, fun_ext}
use Rattle.std.proofs.Common.{◌∙◌}
use Rattle.std.proofs.Math.Decide.{ℕ_discrete}
use Rattle.algebra.specs.Ring.{Ring, times_commutative, times_associative}
use Rattle.algebra.specs.Sum.{sum, sum_equal, delta, delta_same, delta_other, delta_symmetric, sum_of_delta}
use Rattle.algebra.specs.Matrix.{Matrix, Within, restrict, restrict_inside, restrict_within, matrix_equal, identity, identity_inside, identity_within, product, product_at, product_within}
use Rattle.algebra.specs.Inverse.{Inverse}

module _ {R : Type 0} (K : Ring R) where
  open K use {plus as ◌⊕◌, times as ◌⊗◌, minus as ⊖◌, zero as 𝟘, one as 𝟙}

  infixl 60 ◌⊕◌
  infixl 70 ◌⊗◌
  infix 80 ⊖◌
  unfoldable pub transpose : Matrix K → Matrix K
  transpose A i j = A j i

  pub transpose_within : (n : ℕ) (A : Matrix K) → Within K n A → Within K n (transpose A)
  unfolding transpose
  transpose_within n A a = record { rows = λ i j l. a.columns j i l; columns = λ i j l. a.rows j i l }

  pub transpose_product : (n : ℕ) (A B : Matrix K) → transpose (product K n A B) ≡ product K n (transpose B) (transpose A)
  unfolding transpose product
  transpose_product n A B = fun_ext (λ i. fun_ext (λ j. ap (λ f. sum K f n) (fun_ext (λ k. times_commutative K _ _))))

  pub transpose_identity : (n : ℕ) → transpose (identity K n) ≡ identity K n
  unfolding transpose
  transpose_identity n = matrix_equal K n _ _ (transpose_within n (identity K n) (identity_within K n)) (identity_within K n)
      (λ i j l g. identity_inside K n j i g ∙ delta_symmetric K j i ∙ sym (identity_inside K n i j l))

  pub transpose_inverse : (n : ℕ) (M I : Matrix K) → Inverse K n M I → Inverse K n (transpose M) (transpose I)
  transpose_inverse n M I h = record {
    within = transpose_within n M h.within;
    inverse_within = transpose_within n I h.inverse_within;
    right = sym (transpose_product n I M) ∙ ap transpose h.left ∙ transpose_identity n;
    left = sym (transpose_product n M I) ∙ ap transpose h.right ∙ transpose_identity n;
  }

  -- d 0, .., d (n-1) on the diagonal
  pub diagonal : ℕ → (ℕ → R) → Matrix K
  diagonal n d = restrict K n (λ i j. delta K i j ⊗ d i)

  pub diagonal_within : (n : ℕ) (d : ℕ → R) → Within K n (diagonal n d)
  unfolding diagonal
  diagonal_within n d = restrict_within K n _

  pub diagonal_inside : (n : ℕ) (d : ℕ → R) (i j : ℕ) → i < n → j < n → diagonal n d i j ≡ delta K i j ⊗ d i
  unfolding diagonal
  diagonal_inside n d i j l g = restrict_inside K n _ i j l g

  -- a sum against one place
  pub sum_at : (f : ℕ → R) (n j : ℕ) → j < n → sum K (λ k. f k ⊗ delta K k j) n ≡ f j
  sum_at f n j l = sum_equal K _ (λ k. delta K j k ⊗ f k) n (λ k g. times_commutative K _ _ ∙ ap (λ x. x ⊗ f k) (delta_symmetric K k j)) ∙ sum_of_delta K j f n l

  pub product_diagonal : (n : ℕ) (A : Matrix K) (d : ℕ → R) (i j : ℕ) → j < n → product K n A (diagonal n d) i j ≡ A i j ⊗ d j
  product_diagonal n A d i j g = product_at K n A (diagonal n d) i j
      ∙ sum_equal K _ (λ k. A i k ⊗ d k ⊗ delta K k j) n (λ k l. ap (λ x. A i k ⊗ x) (diagonal_inside n d k j l g ∙ times_commutative K _ _) ∙ sym (times_associative K _ _ _))
      ∙ sum_at (λ k. A i k ⊗ d k) n j g

  pub diagonal_product : (n : ℕ) (d : ℕ → R) (A : Matrix K) (i j : ℕ) → i < n → product K n (diagonal n d) A i j ≡ d i ⊗ A i j
  diagonal_product n d A i j l = product_at K n (diagonal n d) A i j
      ∙ sum_equal K _ (λ k. delta K i k ⊗ (d i ⊗ A k j)) n (λ k g. ap (λ x. x ⊗ A k j) (diagonal_inside n d i k l g) ∙ times_associative K _ _ _)
      ∙ sum_of_delta K i (λ k. d i ⊗ A k j) n l

  -- the matrix that sends e_j to e_(σ j)
  pub permutation : ℕ → (ℕ → ℕ) → Matrix K
  permutation n σ = restrict K n (λ i j. delta K i (σ j))

  pub permutation_within : (n : ℕ) (σ : ℕ → ℕ) → Within K n (permutation n σ)
  unfolding permutation
  permutation_within n σ = restrict_within K n _

  pub permutation_inside : (n : ℕ) (σ : ℕ → ℕ) (i j : ℕ) → i < n → j < n → permutation n σ i j ≡ delta K i (σ j)
  unfolding permutation
  permutation_inside n σ i j l g = restrict_inside K n _ i j l g

-- σ and τ are inverse to each other on the indices below n
pub record Permutes (n : ℕ) (σ τ : ℕ → ℕ) : Type 0 where
  pub below : (i : ℕ) → i < n → σ i < n
  pub back_below : (i : ℕ) → i < n → τ i < n
  pub back : (i : ℕ) → i < n → τ (σ i) ≡ i
  pub forth : (i : ℕ) → i < n → σ (τ i) ≡ i

pub permutes_back : (n : ℕ) (σ τ : ℕ → ℕ) → Permutes n σ τ → Permutes n τ σ
permutes_back n σ τ h = record { below = h.back_below; back_below = h.below; back = h.forth; forth = h.back }

module _ {R : Type 0} (K : Ring R) (n : ℕ) (σ τ : ℕ → ℕ) (S : Permutes n σ τ) where
  open K use {plus as ◌⊕◌, times as ◌⊗◌, zero as 𝟘}

  infixl 70 ◌⊗◌
  -- σ j = i exactly where j = τ i
  pub delta_permuted : (i j : ℕ) → i < n → j < n → delta K i (σ j) ≡ delta K (τ i) j
  delta_permuted i j l g = elim (ℕ_discrete i (σ j)) [
    | yes e ↦ ap (λ (x : ℕ). delta K x (σ j)) e ∙ delta_same K (σ j) ∙ sym (ap (λ (x : ℕ). delta K x j) (ap τ e ∙ S.back j g) ∙ delta_same K j)
    | no h ↦ delta_other K i (σ j) h ∙ sym (delta_other K (τ i) j (λ e. h (sym (S.forth i l) ∙ ap σ e)))
  ]

  -- A P: the columns in another order
  pub product_permutation : (A : Matrix K) (i j : ℕ) → j < n → product K n A (permutation K n σ) i j ≡ A i (σ j)
  product_permutation A i j g = product_at K n A (permutation K n σ) i j
      ∙ sum_equal K _ (λ k. delta K (σ j) k ⊗ A i k) n (λ k l. ap (λ x. A i k ⊗ x) (permutation_inside K n σ k j l g ∙ delta_symmetric K k (σ j)) ∙ times_commutative K _ _)
      ∙ sum_of_delta K (σ j) (A i) n (S.below j g)

  -- P A: the rows in another order
  pub permutation_product : (A : Matrix K) (i j : ℕ) → i < n → product K n (permutation K n σ) A i j ≡ A (τ i) j
  permutation_product A i j l = product_at K n (permutation K n σ) A i j
      ∙ sum_equal K _ (λ k. delta K (τ i) k ⊗ A k j) n (λ k g. ap (λ x. x ⊗ A k j) (permutation_inside K n σ i k l g ∙ delta_permuted i k l g))
      ∙ sum_of_delta K (τ i) (λ k. A k j) n (S.back_below i l)

  permutation_right : product K n (permutation K n σ) (permutation K n τ) ≡ identity K n
  permutation_right = matrix_equal K n _ _ (product_within K n _ _ (permutation_within K n σ) (permutation_within K n τ)) (identity_within K n) (λ i j l g.
      permutation_product (permutation K n τ) i j l ∙ permutation_inside K n τ (τ i) j (S.back_below i l) g
      ∙ turned i j l g ∙ sym (identity_inside K n i j l))
    where
      turned : (i j : ℕ) → i < n → j < n → delta K (τ i) (τ j) ≡ delta K i j
      turned i j l g = sym (delta_permuted i (τ j) l (S.back_below j g)) ∙ ap (delta K i) (S.forth j g)

pub permutation_inverse : {R : Type 0} (K : Ring R) (n : ℕ) (σ τ : ℕ → ℕ) → Permutes n σ τ → Inverse K n (permutation K n σ) (permutation K n τ)
permutation_inverse K n σ τ S = record {
  within = permutation_within K n σ;
  inverse_within = permutation_within K n τ;
  right = permutation_right K n σ τ S;
  left = permutation_right K n τ σ (permutes_back n σ τ S);
}
