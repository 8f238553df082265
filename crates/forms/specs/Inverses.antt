-- Products equal to E modulo p are inverses over F_p and over F_p[X], from both sides although one product is given; and changes of
-- basis over F_p.
use Rattle.std.proofs.Common.{sym, ◌∙◌}
use Rattle.std.specs.Prelude.{ℕ}
use Rattle.algebra.specs.Ring.{Ring}
use Rattle.algebra.specs.Matrix.{Matrix}
use Rattle.algebra.specs.Inverse.{Inverse, inverse_symmetric, Basis}
use Rattle.algebra.specs.OneSided.{inverse_of_right}
use Rattle.algebra.specs.Polynomial.{Polynomial, polynomials}
use Rattle.algebra.specs.Euclid.{polynomial_domain}
use Rattle.algebra.specs.Modular.{Residue, modulo, Prime, positive}
use Rattle.algebra.specs.PrimeField.{prime_field, prime_domain}
use Rattle.forms.specs.Matrices.{Entries, PolynomialEntries, unit, polynomial_unit, field_product, polynomial_product}
use Rattle.forms.specs.Words.{FieldEqual, PolynomialEqual}
use Rattle.forms.specs.Rings.{field, field_within, field_of_equal, equal_of_field, field_of_product, field_of_unit, Over, product_over, unit_over, over_equal, equal_over}

module _ (p : ℕ) (prime : Prime p) (n : ℕ) where
  abbrev K : Ring (Residue p)
  K = modulo p

  abbrev L : Ring (Polynomial K)
  L = polynomials K

  module _ (A B : Entries) where
    pub field_inverse : FieldEqual p n (field_product n A B) unit → Inverse K n (field p n A) (field p n B)
    field_inverse h = inverse_of_right K (prime_domain p prime) n _ _ (field_within p n A) (field_within p n B)
        (sym (field_of_product p n A B) ∙ field_of_equal p n _ _ (positive p prime) h ∙ field_of_unit p n)

    pub inverse_field : Inverse K n (field p n A) (field p n B) → FieldEqual p n (field_product n A B) unit
    inverse_field h = equal_of_field p n _ _ (positive p prime) (field_of_product p n A B ∙ h.right ∙ sym (field_of_unit p n))

  -- M and N are P and Q modulo p
  module _ (M N : Matrix L) (P Q : PolynomialEntries) (over : Over p n M P) (over' : Over p n N Q) where
    pub polynomial_inverse : PolynomialEqual p n (polynomial_product n P Q) polynomial_unit → Inverse L n M N
    polynomial_inverse h = inverse_of_right L (polynomial_domain K (prime_field p prime)) n M N over.within over'.within
        (over_equal p n _ _ _ _ (positive p prime) (product_over p n M N P Q over over') (unit_over p n) h)

    pub inverse_polynomial : Inverse L n M N → PolynomialEqual p n (polynomial_product n P Q) polynomial_unit
    inverse_polynomial h = equal_over p n _ _ _ _ (positive p prime) (product_over p n M N P Q over over') (unit_over p n) h.right

  -- A C = C B with C invertible
  pub field_basis : (A B C CI : Entries) → FieldEqual p n (field_product n C CI) unit → FieldEqual p n (field_product n A C) (field_product n C B)
      → Basis K n (field p n A) (field p n B) (field p n C) (field p n CI)
  field_basis A B C CI h e = record {
    within = field_within p n B;
    inverse = field_inverse C CI h;
    moves = sym (field_of_product p n A C) ∙ field_of_equal p n _ _ (positive p prime) e ∙ field_of_product p n C B;
  }

  pub field_left_of_right : (A B : Entries) → FieldEqual p n (field_product n A B) unit → FieldEqual p n (field_product n B A) unit
  field_left_of_right A B h = inverse_field B A (inverse_symmetric K n _ _ (field_inverse A B h))

  pub polynomial_left_of_right : (M N : Matrix L) (P Q : PolynomialEntries) → Over p n M P → Over p n N Q
      → PolynomialEqual p n (polynomial_product n P Q) polynomial_unit → PolynomialEqual p n (polynomial_product n Q P) polynomial_unit
  polynomial_left_of_right M N P Q a b h = inverse_polynomial N M Q P b a (inverse_symmetric L n M N (polynomial_inverse M N P Q a b h))
