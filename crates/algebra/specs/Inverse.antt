-- Inverse matrices of order n over any ring, their uniqueness and their products; and changes of basis: A T = T B with T invertible.
use Rattle.std.specs.Prelude.{◌≡◌, ℕ}
use Rattle.std.proofs.Common.{sym, ◌∙◌, ap}
use Rattle.algebra.specs.Ring.{Ring}
use Rattle.algebra.specs.Matrix.{Matrix, Vector, Within, Upto, identity, identity_within, product, product_associative, product_within, identity_product, product_identity, apply, apply_product, identity_apply}

module _ {R : Type 0} (K : Ring R) (n : ℕ) where
  abbrev ◌·◌ : Matrix K → Matrix K → Matrix K
  ◌·◌ = product K n

  infixl 70 ◌·◌
  abbrev E : Matrix K
  E = identity K n

  -- M I = E = I M, both of order n
  pub record Inverse (M I : Matrix K) : Type 0 where
    pub within : Within K n M
    pub inverse_within : Within K n I
    pub right : M · I ≡ E
    pub left : I · M ≡ E

  pub inverse_symmetric : (M I : Matrix K) → Inverse M I → Inverse I M
  inverse_symmetric M I h = record { within = h.inverse_within; inverse_within = h.within; right = h.left; left = h.right }

  pub identity_inverse : Inverse E E
  identity_inverse = record {
    within = identity_within K n;
    inverse_within = identity_within K n;
    right = identity_product K n E (identity_within K n);
    left = identity_product K n E (identity_within K n);
  }

  -- I (M A) = A where I M = E
  pub cancel_left : (I M A : Matrix K) → Within K n A → I · M ≡ E → I · (M · A) ≡ A
  cancel_left I M A a h = sym (product_associative K n I M A) ∙ ap (λ x. x · A) h ∙ identity_product K n A a

  -- (A M) I = A where M I = E
  pub cancel_right : (A M I : Matrix K) → Within K n A → M · I ≡ E → A · M · I ≡ A
  cancel_right A M I a h = product_associative K n A M I ∙ ap (λ x. A · x) h ∙ product_identity K n A a

  -- a right inverse and a left inverse are the same matrix
  pub inverse_unique : (M I J : Matrix K) → Within K n I → Within K n J → M · I ≡ E → J · M ≡ E → I ≡ J
  inverse_unique M I J a b r l = sym (cancel_left J M I a l) ∙ ap (λ x. J · x) r ∙ product_identity K n J b

  -- the inverse of a product is the product of the inverses in the other order
  pub inverse_of_product : (M I N J : Matrix K) → Inverse M I → Inverse N J → Inverse (M · N) (J · I)
  inverse_of_product M I N J h k = record {
    within = product_within K n M N h.within k.within;
    inverse_within = product_within K n J I k.inverse_within h.inverse_within;
    right = product_associative K n M N (J · I) ∙ ap (λ x. M · x) (cancel_left N J I h.inverse_within k.right) ∙ h.right;
    left = product_associative K n J I (M · N) ∙ ap (λ x. J · x) (cancel_left I M N k.within h.left) ∙ k.left;
  }

  -- I (M u) = u
  pub inverse_apply : (M I : Matrix K) (u : Vector K) → Inverse M I → Upto K n u → apply K n I (apply K n M u) ≡ u
  inverse_apply M I u h a = sym (apply_product K n I M u) ∙ ap (λ x. apply K n x u) h.left ∙ identity_apply K n u a

  -- A T = T B, and T is invertible: B is A in the basis of T's columns
  pub record Basis (A B T I : Matrix K) : Type 0 where
    pub within : Within K n B
    pub inverse : Inverse T I
    pub moves : A · T ≡ T · B

  pub basis_start : (A : Matrix K) → Within K n A → Basis A A E E
  basis_start A a = record { within = a; inverse = identity_inverse; moves = product_identity K n A a ∙ sym (identity_product K n A a) }

  -- the one law of a step: the basis T M, in which B becomes M⁻¹ B M
  pub basis_step : (A B T I M J : Matrix K) → Basis A B T I → Inverse M J → Basis A (J · (B · M)) (T · M) (J · I)
  basis_step A B T I M J s m =
      let b : Within K n (B · M) = product_within K n B M s.within m.within in
      record {
        within = product_within K n J (B · M) m.inverse_within b;
        inverse = inverse_of_product T I M J s.inverse m;
        moves = sym (product_associative K n A T M) ∙ ap (λ x. x · M) s.moves ∙ product_associative K n T B M
            ∙ ap (λ x. T · x) (sym (cancel_left M J (B · M) b m.right)) ∙ sym (product_associative K n T M (J · (B · M)));
      }
