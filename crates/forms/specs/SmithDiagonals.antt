-- The diagonal of D over numbers: f 0 .. f (n-1) monic, with residues for coefficients and rising degrees that add up to n. A chain of
-- divisors is one, since the degree of a divisor is not above.
use Rattle.std.specs.Prelude.{◌≡◌, ℕ, suc, ◌+◌, ◌≤◌, ◌<◌}
use Rattle.std.proofs.Common.{sym, ◌∙◌}
use Rattle.std.proofs.Math.Path.{ap, subst}
use native.Mathlib.Omega.{arith}
use Rattle.algebra.specs.Ring.{Ring, times_zero}
use Rattle.algebra.specs.Polynomial.{Polynomial, polynomials, times_series}
use Rattle.algebra.specs.Degree.{Degree, degree_unique, degree_nonzero, degree as degree_of, monic_degree, degree_times}
use Rattle.algebra.specs.Modular.{Residue, Prime, modulo, positive}
use Rattle.algebra.specs.PrimeField.{prime_domain}
use Rattle.forms.specs.Numbers.{total}
use Rattle.forms.specs.Polynomials.{Coefficients, degree}
use Rattle.forms.specs.Words.{PolynomialDivides}
use Rattle.forms.specs.Rings.{polynomial, polynomial_coefficient}
use Rattle.forms.specs.Bounds.{Short, degree_above}
use Rattle.forms.specs.Remainders.{reduces_monic, divides_over}
use Rattle.forms.specs.BlockIndices.{degrees}

pub record SmithDiagonal (p n : ℕ) (f : ℕ → Coefficients) : Type 0 where
  pub low : 0 < n
  pub small : (b k : ℕ) → f b k < p
  pub monic : (b : ℕ) → b < n → f b (degree n (f b)) ≡ 1
  pub above : (b : ℕ) → Short (suc (degree n (f b))) (f b)
  pub rising : (b : ℕ) → suc b < n → degree n (f b) ≤ degree n (f (suc b))
  pub sums : total n (degrees n f) ≡ n

module _ (p n : ℕ) (prime : Prime p) (f : ℕ → Coefficients) (short : (b : ℕ) → Short (suc n) (f b)) (monic : (b : ℕ) → b < n → f b (degree n (f b)) ≡ 1) where
  abbrev K : Ring (Residue p)
  K = modulo p

  abbrev L : Ring (Polynomial K)
  L = polynomials K

  entry : ℕ → Polynomial K
  entry b = polynomial p (suc n) (f b) (short b)

  entry_degree : (b : ℕ) → b < n → Degree K (degree n (f b)) (entry b).0
  unfolding entry
  entry_degree b l = monic_degree K (prime_domain p prime) (degree n (f b)) (entry b).0
      (reduces_monic p (positive p prime) (degree n (f b)) (f b) (entry b) (polynomial_coefficient p (suc n) (f b) (short b)) (monic b l) (degree_above n (f b) (short b)))

  divisor_degree : (b : ℕ) → suc b < n → PolynomialDivides p n (f b) (f (suc b)) → degree n (f b) ≤ degree n (f (suc b))
  unfolding entry
  divisor_degree b l h =
      let D = divides_over p (positive p prime) n (f b) (f (suc b)) (entry b) (entry (suc b)) (polynomial_coefficient p (suc n) (f b) (short b)) (polynomial_coefficient p (suc n) (f (suc b)) (short (suc b))) h in
      let (e, q) = degree_of K (prime_domain p prime) D.by (λ z. degree_nonzero K (entry (suc b)) (degree n (f (suc b)), entry_degree (suc b) l) (D.is ∙ ap (λ x. L.times (entry b) x) z ∙ times_zero L (entry b))) in
      let s : Degree K (degree n (f b) + e) (entry (suc b)).0 = subst (Degree K (degree n (f b) + e)) (sym (ap (λ (x : Polynomial K). x.0) D.is ∙ times_series K (entry b) D.by))
      (degree_times K (prime_domain p prime) (degree n (f b)) e (entry b).0 D.by.0 (entry_degree b (omega arith)) q) in
      let t : degree n (f b) + e ≡ degree n (f (suc b)) = degree_unique K _ _ (entry (suc b)).0 s (entry_degree (suc b) l) in omega arith

  pub chain_diagonal : 0 < n → ((b k : ℕ) → f b k < p) → ((b : ℕ) → suc b < n → PolynomialDivides p n (f b) (f (suc b))) → total n (degrees n f) ≡ n → SmithDiagonal p n f
  chain_diagonal low small chain sums = record {
    low = low;
    small = small;
    monic = monic;
    above = λ b. degree_above n (f b) (short b);
    rising = λ b l. divisor_degree b l (chain b l);
    sums = sums;
  }
