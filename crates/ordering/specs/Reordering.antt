-- The basis in another order: what a permutation of the basis vectors of a window does to a frame.
use Rattle.std.specs.Prelude.{◌≡◌, ℕ, ◌≤◌, ◌<◌}
use Rattle.std.proofs.Math.Path.{sym}
use Rattle.std.proofs.Common.{◌∙◌, ap, arith}
use Rattle.std.proofs.Math.Decide.{dec_lt}
use Rattle.algebra.specs.Ring.{Ring}
use Rattle.algebra.specs.Sum.{delta, delta_other}
use Rattle.algebra.specs.Matrix.{Matrix, matrix_equal, identity, identity_inside, identity_within, product, product_within}
use Rattle.algebra.specs.Shapes.{permutation, permutation_inside, permutation_within, Permutes, permutes_back, product_permutation, permutation_product, permutation_inverse}
use Rattle.basis.specs.Frame.{Frame, FrameWithin, Inside, Change, change_by}

module _ {R : Type 0} (K : Ring R) where
  -- B, T and the inverse in the order σ
  pub record Reordered (n : ℕ) (σ : ℕ → ℕ) (X Y : Frame K) : Type 0 where
    pub B : (i j : ℕ) → i < n → j < n → Y.B i j ≡ X.B (σ i) (σ j)
    pub T : (i j : ℕ) → i < n → j < n → Y.T i j ≡ X.T i (σ j)
    pub I : (i j : ℕ) → i < n → j < n → Y.I i j ≡ X.I (σ i) j

  module _ (n k : ℕ) (σ τ : ℕ → ℕ) (P : Permutes n σ τ) (kn : k ≤ n) (inside : (i : ℕ) → i < k → σ i < k) (fixed : (i : ℕ) → k ≤ i → σ i ≡ i) where
    entry : (i j : ℕ) → delta K i (σ j) ≡ delta K i j → permutation K n σ i j ≡ identity K n i j
    entry i j e = elim (dec_lt i n) [
      | yes l ↦ elim (dec_lt j n) [
        | yes g ↦ permutation_inside K n σ i j l g ∙ e ∙ sym (identity_inside K n i j l)
        | no g ↦ (permutation_within K n σ).columns i j (omega arith) ∙ sym ((identity_within K n).columns i j (omega arith))
      ]
      | no l ↦ (permutation_within K n σ).rows i j (omega arith) ∙ sym ((identity_within K n).rows i j (omega arith))
    ]

    permutation_inside_window : Inside K n k (permutation K n σ)
    permutation_inside_window = record {
      rows = λ i j l. entry i j (elim (dec_lt j k) [
        | yes g ↦ delta_other K i (σ j) (λ e. omega (arith, inside j g, e)) ∙ sym (delta_other K i j (λ e. omega arith))
        | no g ↦ ap (delta K i) (fixed j (omega arith))
      ]);
      columns = λ i j l. entry i j (ap (delta K i) (fixed j l));
    }

  module _ (n k : ℕ) (σ τ : ℕ → ℕ) (P : Permutes n σ τ) (kn : k ≤ n) (inside : (i : ℕ) → i < k → σ i < k) (fixed : (i : ℕ) → k ≤ i → σ i ≡ i)
      (back_inside : (i : ℕ) → i < k → τ i < k) (back_fixed : (i : ℕ) → k ≤ i → τ i ≡ i) (X Y : Frame K) (x : FrameWithin K n X) (y : FrameWithin K n Y) (r : Reordered n σ X Y) where
    M : Matrix K
    M = permutation K n σ

    J : Matrix K
    J = permutation K n τ

    pub reordered_change : Change K n k X Y
    unfolding M J
    reordered_change = change_by K n k X Y M J kn x (permutation_inverse K n σ τ P)
        (permutation_inside_window n k σ τ P kn inside fixed) (permutation_inside_window n k τ σ (permutes_back n σ τ P) kn back_inside back_fixed)
        (matrix_equal K n _ _ y.B (product_within K n J _ (permutation_within K n τ) (product_within K n _ M x.B (permutation_within K n σ))) (λ i j l g.
        r.B i j l g ∙ sym (permutation_product K n τ σ (permutes_back n σ τ P) (product K n X.B M) i j l ∙ product_permutation K n σ τ P X.B (σ i) j g)))
        (matrix_equal K n _ _ y.T (product_within K n _ M x.T (permutation_within K n σ)) (λ i j l g. r.T i j l g ∙ sym (product_permutation K n σ τ P X.T i j g)))
        (matrix_equal K n _ _ y.I (product_within K n J _ (permutation_within K n τ) x.I) (λ i j l g. r.I i j l g ∙ sym (permutation_product K n τ σ (permutes_back n σ τ P) X.I i j l)))
