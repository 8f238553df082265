-- Rule 6 without its last factor: once Q QI = E, P(XE-A)Q = D is P(XE-A) = D QI.
use Rattle.std.specs.Prelude.{◌≡◌, ◌↔◌, List, ℕ, suc, ◌*◌, ◌≤◌, T}
use Rattle.std.proofs.Common.{sym, ◌∙◌, ap, arith}
use Rattle.algebra.specs.Ring.{Ring}
use Rattle.algebra.specs.Matrix.{Matrix, product}
use Rattle.algebra.specs.Inverse.{Inverse, cancel_right}
use Rattle.algebra.specs.Polynomial.{Polynomial, polynomials}
use Rattle.algebra.specs.Modular.{modulo, Prime, positive}
use Rattle.forms.specs.Matrices.{Entries, PolynomialEntries, polynomial_matrix, diagonal, polynomial_unit, diagonal_matrix, characteristic, polynomial_product}
use Rattle.forms.specs.Rules.{polynomial_equal}
use Rattle.forms.specs.Words.{PolynomialEqual}
use Rattle.forms.specs.Bounds.{ShortEntries, polynomial_matrix_short, characteristic_short, diagonal_matrix_short, product_short, smith_product_short, inverse_product_short, polynomial_unit_short}
use Rattle.forms.specs.Rings.{Over, lift_over, product_over, over_equal, equal_over}
use Rattle.forms.specs.Inverses.{polynomial_inverse}
use Rattle.forms.proofs.RulesMean.{polynomial_equal_means}
use Rattle.polynomials.specs.Rule.{same_answer}

-- over F_p[X], with each matrix as its entries modulo p
module _ (p : ℕ) (prime : Prime p) (n : ℕ) where
  abbrev L : Ring (Polynomial (modulo p))
  L = polynomials (modulo p)

  module _ (B Q I D : Matrix L) (B' Q' I' D' : PolynomialEntries) (b : Over p n B B') (q : Over p n Q Q') (i : Over p n I I') (d : Over p n D D')
      (unit : PolynomialEqual p n (polynomial_product n Q' I') polynomial_unit) where
    inverse : Inverse L n Q I
    inverse = polynomial_inverse p prime n Q I Q' I' q i unit

    last_factor : PolynomialEqual p n (polynomial_product n B' Q') D' ↔ PolynomialEqual p n B' (polynomial_product n D' I')
    last_factor = (
      (λ h. equal_over p n B (product L n D I) B' _ (positive p prime) b (product_over p n D I D' I' d i)
          (sym (cancel_right L n B Q I b.within inverse.right) ∙ ap (λ (M : Matrix L). product L n M I) (over_equal p n (product L n B Q) D _ D' (positive p prime) (product_over p n B Q B' Q' b q) d h))),
      (λ h. equal_over p n (product L n B Q) D _ D' (positive p prime) (product_over p n B Q B' Q' b q) d
          (ap (λ (M : Matrix L). product L n M Q) (over_equal p n B (product L n D I) B' _ (positive p prime) b (product_over p n D I D' I' d i) h) ∙ cancel_right L n D I Q d.within inverse.left)),
    )

  -- rule 6 as the code tests it
  module _ (A : Entries) (P Q I D : List ℕ) where
    abbrev moved : PolynomialEntries
    moved = polynomial_product n (polynomial_matrix n P) (characteristic p A)

    abbrev back : PolynomialEntries
    back = polynomial_product n (diagonal_matrix (diagonal n D)) (polynomial_matrix n I)

    moved_short : ShortEntries (suc n) moved
    moved_short i j k l = product_short n n 2 _ _ (polynomial_matrix_short n P) (characteristic_short p A) i j k (omega arith)

    back_short : ShortEntries (suc (2 * n)) back
    back_short i j k l = product_short n (suc n) n _ _ (diagonal_matrix_short n D) (polynomial_matrix_short n I) i j k (omega arith)

    pub smith_test : 1 ≤ n → T (polynomial_equal p n (polynomial_product n (polynomial_matrix n Q) (polynomial_matrix n I)) polynomial_unit)
        → polynomial_equal p n moved back ≡ polynomial_equal p n (polynomial_product n moved (polynomial_matrix n Q)) (diagonal_matrix (diagonal n D))
    smith_test l unit =
        let unit_means = polynomial_equal_means p n _ _ (inverse_product_short n Q I) (λ i j k m. polynomial_unit_short i j k (omega arith)) in
        let factor = last_factor _ _ _ _ moved (polynomial_matrix n Q) (polynomial_matrix n I) (diagonal_matrix (diagonal n D))
        (lift_over p n (suc n) moved moved_short) (lift_over p n n _ (polynomial_matrix_short n Q)) (lift_over p n n _ (polynomial_matrix_short n I)) (lift_over p n (suc n) _ (diagonal_matrix_short n D)) (unit_means.0 unit) in
        let test = polynomial_equal_means p n moved back (λ i j k m. moved_short i j k (omega arith)) back_short in
        let smith = polynomial_equal_means p n _ _ (smith_product_short p n A P Q) (λ i j k m. diagonal_matrix_short n D i j k (omega arith)) in
        same_answer _ _ (λ t. smith.1 (factor.1 (test.0 t))) (λ t. test.1 (factor.0 (smith.0 t)))
