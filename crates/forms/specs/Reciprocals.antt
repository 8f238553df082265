-- The reciprocal: a bad p is refused by 2, then a number at or above p by 4 with place 0; else the residue alone, 0 for 0.
use Rattle.std.specs.Prelude.{◌≡◌, ℕ, ◌*◌, ◌%◌, ◌<◌, ltb, Result, Ok, Err}
use Rattle.forms.specs.Numbers.{prime}
use Rattle.forms.specs.Answers.{Asked, fine, refuse, ◌then◌, ask, refusal_of}
use Rattle.forms.specs.declared.Refusal.{Refusal}

unfoldable pub reciprocal_asked : ℕ → ℕ → Asked
reciprocal_asked p x = ask (prime p) 2 p then ask (ltb x p) 4 0

-- r is the inverse of x modulo p, and 0 for 0
pub record InverseOf (p x r : ℕ) : Type 0 where
  pub small : r < p
  pub of_zero : x ≡ 0 → r ≡ 0
  pub of_other : 0 < x → (x * r) % p ≡ 1

-- what the answer to p and x has to be
pub record Reciprocates (p x : ℕ) (answer : Result ℕ Refusal) : Type 0 where
  pub refused : (number place : ℕ) → reciprocal_asked p x ≡ refuse number place → answer ≡ Err (refusal_of number place)
  pub answered : reciprocal_asked p x ≡ fine → (r : ℕ) × (answer ≡ Ok r) × InverseOf p x r
