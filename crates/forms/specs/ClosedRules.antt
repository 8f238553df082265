-- What rules 4 to 6 say of P, Q and their inverses over F_p[X], with the diagonal f.
use Rattle.std.specs.Prelude.{ℕ}
use Rattle.forms.specs.Polynomials.{Coefficients}
use Rattle.forms.specs.Matrices as definitions
use Rattle.forms.specs.Matrices.{Entries, PolynomialEntries, polynomial_unit, diagonal_matrix, polynomial_product}
use Rattle.forms.specs.Words.{PolynomialEqual}

-- P(XE-A)Q = D with the diagonal f, and PI and QI are the inverses of P and of Q
pub record SmithRules (p n : ℕ) (A : Entries) (f : ℕ → Coefficients) (P PI Q QI : PolynomialEntries) : Type 0 where
  pub P_PI : PolynomialEqual p n (polynomial_product n P PI) polynomial_unit
  pub PI_P : PolynomialEqual p n (polynomial_product n PI P) polynomial_unit
  pub Q_QI : PolynomialEqual p n (polynomial_product n Q QI) polynomial_unit
  pub QI_Q : PolynomialEqual p n (polynomial_product n QI Q) polynomial_unit
  pub smith : PolynomialEqual p n (polynomial_product n (polynomial_product n P (definitions.characteristic p A)) Q) (diagonal_matrix f)
