-- The degree of a polynomial from its list of coefficients.
use Rattle.std.specs.Prelude.{◌≡◌, refl, ◌≢◌, List, ℕ, zero, suc, ◌-◌, ◌≤◌, ◌<◌, eqb, length, Option, Some, None, MatchOption, unwrap_or}
use Rattle.std.proofs.Common.{sym, ◌∙◌, ap, arith, eqb→eq}
use Rattle.std.proofs.Math.Decide.{dec_lt, ℕ_discrete}
use Rattle.std.proofs.Math.ListN.{get_or-eq_default}
use Rattle.forms.specs.Numbers.{at}
use Rattle.forms.specs.Polynomials.{Coefficients, degree}
use Rattle.forms.specs.Tests.{cond_holds, cond_fails, equal_holds}

-- the degree is the last index with a coefficient that is not zero
degree_at : (n : ℕ) (f : Coefficients) (i : ℕ) → i ≤ n → f i ≢ 0 → ((k : ℕ) → i < k → k ≤ n → f k ≡ 0) → degree n f ≡ i
unfolding degree
degree_at zero f i l o h = omega arith
degree_at (suc n) f i l o h = elim (ℕ_discrete i (suc n)) [
  | yes e ↦ cond_fails (eqb (f (suc n)) 0) _ _ (λ t. o (ap f e ∙ eqb→eq (f (suc n)) 0 t)) ∙ sym e
  | no q ↦ cond_holds (eqb (f (suc n)) 0) _ _ (equal_holds (f (suc n)) 0 (h (suc n) (omega arith) (omega arith))) ∙ degree_at n f i (omega arith) o (λ k a b. h k a (omega arith))
]

degree_zeros : (n : ℕ) (f : Coefficients) → ((k : ℕ) → k ≤ n → f k ≡ 0) → degree n f ≡ 0
unfolding degree
degree_zeros zero f h = refl
degree_zeros (suc n) f h = cond_holds (eqb (f (suc n)) 0) _ _ (equal_holds (f (suc n)) 0 (h (suc n) (omega arith))) ∙ degree_zeros n f (λ k l. h k (omega arith))

-- r is the last index of s with a number that is not zero
abbrev pub LastNonzero : List ℕ → Option ℕ → Type 0
LastNonzero s r = MatchOption r ((k : ℕ) → k < length s → at s k ≡ 0) (λ i. (i < length s) × (at s i ≢ 0) × ((k : ℕ) → i < k → k < length s → at s k ≡ 0))

pub degree_last : (s : List ℕ) (r : Option ℕ) → LastNonzero s r → unwrap_or r 0 ≡ degree (length s - 1) (at s)
degree_last s None h = sym (degree_zeros (length s - 1) (at s) (λ k l. elim (dec_lt k (length s)) [ yes g ↦ h k g | no g ↦ get_or-eq_default s 0 {n = k} (omega arith) ]))
degree_last s (Some m) h = sym (degree_at (length s - 1) (at s) m (omega (arith, h.0)) h.1 (λ k a b. h.2 k a (omega (arith, h.0))))
