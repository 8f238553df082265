-- Similarity, A T = T B with T invertible, backwards and in two steps; its first step, A to A, is basis_start.
use Rattle.std.proofs.Common.{sym, ◌∙◌, ap}
use Rattle.std.specs.Prelude.{ℕ}
use Rattle.algebra.specs.Ring.{Ring}
use Rattle.algebra.specs.Matrix.{Matrix, Within, product, product_associative, product_within}
use Rattle.algebra.specs.Inverse.{Basis, inverse_symmetric, inverse_of_product, cancel_left, cancel_right}

module _ {R : Type 0} (K : Ring R) (n : ℕ) where
  abbrev ◌·◌ : Matrix K → Matrix K → Matrix K
  ◌·◌ = product K n

  infixl 70 ◌·◌
  pub basis_back : (A B T I : Matrix K) → Within K n A → Basis K n A B T I → Basis K n B A I T
  basis_back A B T I a s =
      let Bi : Within K n (B · I) = product_within K n B I s.within s.inverse.inverse_within in
      record {
        within = a;
        inverse = inverse_symmetric K n T I s.inverse;
        moves = sym (cancel_left K n I T (B · I) Bi s.inverse.left)
            ∙ ap (λ x. I · x) (sym (product_associative K n T B I) ∙ ap (λ x. x · I) (sym s.moves) ∙ cancel_right K n A T I a s.inverse.right);
      }

  pub basis_compose : (A B C T I S J : Matrix K) → Basis K n A B T I → Basis K n B C S J → Basis K n A C (T · S) (J · I)
  basis_compose A B C T I S J s t = record {
    within = t.within;
    inverse = inverse_of_product K n T I S J s.inverse t.inverse;
    moves = sym (product_associative K n A T S) ∙ ap (λ x. x · S) s.moves ∙ product_associative K n T B S
        ∙ ap (λ x. T · x) t.moves ∙ sym (product_associative K n T S C);
  }
