-- Over the polynomials of a field the Smith form with monic entries is unique.
use Rattle.std.specs.Prelude.{◌≡◌, ℕ, ◌<◌}
use Rattle.algebra.specs.Ring.{Ring}
use Rattle.algebra.specs.Domain.{Field}
use Rattle.algebra.specs.Matrix.{Matrix, Within}
use Rattle.algebra.specs.Smith.{SmithForm, smith_divides}
use Rattle.algebra.specs.Polynomial.{Polynomial, polynomials, Monic}
use Rattle.algebra.specs.Division.{monic_equal}
use Rattle.algebra.specs.Euclid.{polynomial_bezout}

-- d i is monic of degree a i, and e i of degree b i
pub smith_unique : {R : Type 0} (K : Ring R) (F : Field K) (n : ℕ) (G : Matrix (polynomials K)) (d e : ℕ → Polynomial K) (a b : ℕ → ℕ)
    → Within (polynomials K) n G → SmithForm (polynomials K) n G d → SmithForm (polynomials K) n G e
    → ((i : ℕ) → i < n → Monic K (a i) (d i).0) → ((i : ℕ) → i < n → Monic K (b i) (e i).0) → (i : ℕ) → i < n → d i ≡ e i
smith_unique K F n G d e a b g s t x y i l =
    let B = polynomial_bezout K F in
    monic_equal K (d i) (e i) (a i) (b i) (x i l) (y i l) (smith_divides (polynomials K) B n G e d g t s i l) (smith_divides (polynomials K) B n G d e g s t i l)
