-- The coefficients that stand among bytes from a start on: of any bytes, since those past their end count as zero.
use Rattle.std.specs.Prelude.{◌≡◌, cond, List, ℕ, ◌+◌, ◌*◌, ◌≤◌, ◌<◌, ltb}
use Rattle.std.proofs.Common.{ap, arith, lt→ltb, ltb→lt}
use Rattle.std.proofs.Math.Decide.{dec_lt}
use Rattle.forms.specs.Numbers.{at}
use Rattle.forms.specs.Polynomials.{Coefficients}
use Rattle.forms.specs.Matrices.{polynomial_matrix}
use Rattle.forms.specs.Tests.{cond_holds, cond_fails}

-- the n coefficients that stand in s from start on
unfoldable pub coefficients : ℕ → ℕ → List ℕ → Coefficients
coefficients n start s k = cond (ltb k n) (at s (start + k)) 0

pub coefficients_inside : (n start : ℕ) (s : List ℕ) (k : ℕ) → k < n → coefficients n start s k ≡ at s (start + k)
unfolding coefficients
coefficients_inside n start s k l = cond_holds (ltb k n) _ 0 (lt→ltb k n l)

pub coefficients_outside : (n start : ℕ) (s : List ℕ) (k : ℕ) → n ≤ k → coefficients n start s k ≡ 0
unfolding coefficients
coefficients_outside n start s k l = cond_fails (ltb k n) _ 0 (λ t. (let h = ltb→lt k n t in omega arith))

pub coefficients_small : (n start : ℕ) (s : List ℕ) → ((i : ℕ) → at s i ≤ 255) → (k : ℕ) → coefficients n start s k ≤ 255
coefficients_small n start s h k = elim (dec_lt k n) [ yes l ↦ rw (coefficients_inside n start s k l) (h (start + k)) | no l ↦ rw (coefficients_outside n start s k (omega arith)) (omega arith) ]

-- where the entry (i, j) of a matrix of polynomials starts, its coefficients stand
pub entry_from : (n i j : ℕ) (s : List ℕ) (start : ℕ) → start ≡ (i * n + j) * n → coefficients n start s ≡ polynomial_matrix n s i j
unfolding coefficients polynomial_matrix
entry_from n i j s start e = ap (λ (x : ℕ). coefficients n x s) e
