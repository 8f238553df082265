-- The test of a prime passes exactly on the primes up to the limit.
use Rattle.std.specs.Prelude.{◌≡◌, ◌↔◌, Bool, not, ◌&&◌, ℕ, ◌+◌, ◌-◌, ◌%◌, ◌≤◌, ◌<◌, T, eqb, leb}
use Rattle.std.proofs.Common.{◌∙◌, ap, arith, leb→le, le→leb, eqb→eq, T_not}
use Rattle.std.proofs.Math.Dec.{not_T}
use Rattle.algebra.specs.Modular.{Prime}
use Rattle.forms.specs.Numbers.{every, prime, prime_limit}
use Rattle.forms.specs.Tests.{and_parts, and_holds, every_at, every_holds, equal_holds}

-- 2 + d does not divide p
undivided_by : ℕ → ℕ → Bool
undivided_by p d = not (eqb (p % (2 + d)) 0)

pub prime_means : (p : ℕ) → T (prime p) → Prime p
unfolding prime undivided_by
prime_means p t =
    let a = and_parts (leb 2 p && leb p prime_limit) (every (p - 2) (undivided_by p)) t in
    record {
      large = leb→le 2 p (and_parts (leb 2 p) (leb p prime_limit) a.0).0;
      undivided = λ d l m e. T_not (eqb (p % (2 + (d - 2))) 0) (every_at (p - 2) (undivided_by p) a.1 (d - 2) (omega arith))
          (equal_holds _ 0 (ap (λ (x : ℕ). p % x) (back d l) ∙ e));
    }
  where
    back : (d : ℕ) → 1 < d → 2 + (d - 2) ≡ d
    back d l = omega arith

pub prime_limited : (p : ℕ) → T (prime p) → p ≤ prime_limit
unfolding prime
prime_limited p t = leb→le p prime_limit (and_parts (leb 2 p) (leb p prime_limit) (and_parts (leb 2 p && leb p prime_limit) _ t).0).1

pub prime_positive : (p : ℕ) → T (prime p) → 0 < p
prime_positive p t = omega (arith, (prime_means p t).large)

pub prime_exactly : (p : ℕ) → T (prime p) ↔ (Prime p × (p ≤ prime_limit))
unfolding prime undivided_by
prime_exactly p = (
  (λ t. (prime_means p t, prime_limited p t)),
  (λ h. and_holds (leb 2 p && leb p prime_limit) (every (p - 2) (undivided_by p))
      (and_holds (leb 2 p) (leb p prime_limit) (le→leb 2 p h.0.large) (le→leb p prime_limit h.1))
      (every_holds (p - 2) (undivided_by p) (λ d l. not_T (eqb (p % (2 + d)) 0) (λ t. h.0.undivided (2 + d) (omega arith) (omega arith) (eqb→eq (p % (2 + d)) 0 t))))),
)
