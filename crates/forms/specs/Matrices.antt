-- Matrices of order n, as entries by row and column, read from a payload row by row. An entry is a number or a polynomial; both are
-- taken modulo p, and rows and columns from n on are not looked at.
use Rattle.std.specs.Prelude.{cond, List, ℕ, suc, ◌+◌, ◌*◌, ◌-◌, eqb, ltb}
use Rattle.forms.specs.Numbers.{at, total}
use Rattle.forms.specs.Polynomials.{Coefficients, convolution}

abbrev pub Entries : Type 0
Entries = ℕ → ℕ → ℕ

abbrev pub PolynomialEntries : Type 0
PolynomialEntries = ℕ → ℕ → Coefficients

-- n by n residues
unfoldable pub matrix : ℕ → List ℕ → Entries
matrix n s i j = at s (i * n + j)

-- n by n entries of n coefficients
unfoldable pub polynomial_matrix : ℕ → List ℕ → PolynomialEntries
polynomial_matrix n s i j k = cond (ltb k n) (at s ((i * n + j) * n + k)) 0

-- f1 .. fn as f 0 .. f (n-1), of n + 1 coefficients each
unfoldable pub diagonal : ℕ → List ℕ → ℕ → Coefficients
diagonal n s i k = cond (ltb k (suc n)) (at s (i * suc n + k)) 0

-- E
unfoldable pub unit : Entries
unit i j = cond (eqb i j) 1 0

unfoldable pub polynomial_unit : PolynomialEntries
polynomial_unit i j k = cond (eqb k 0) (unit i j) 0

-- D, with f 0 .. f (n-1) on its diagonal
unfoldable pub diagonal_matrix : (ℕ → Coefficients) → PolynomialEntries
diagonal_matrix f i j k = cond (eqb i j) (f i k) 0

-- XE-A
unfoldable pub characteristic : ℕ → Entries → PolynomialEntries
characteristic p A i j k = cond (eqb k 0) (p - A i j) (cond (eqb k 1) (unit i j) 0)

unfoldable pub field_product : ℕ → Entries → Entries → Entries
field_product n A B i j = total n (λ l. A i l * B l j)

unfoldable pub polynomial_product : ℕ → PolynomialEntries → PolynomialEntries → PolynomialEntries
polynomial_product n P Q i j k = total n (λ l. convolution (P i l) (Q l j) k)
