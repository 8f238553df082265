-- Searches and tests over the numbers below a bound.
use Rattle.std.specs.Prelude.{◌≡◌, ◌≢◌, Bool, true, false, ℕ, ◌≤◌, ◌<◌, length, Option, Some, None, MatchOption}
use Rattle.std.proofs.Common.{◌∙◌, subst, zero-add, arith}
use Rattle.std.specs.Bool.{MatchBool}
use Rattle.std.specs.Option.{is_some}
use Rattle.std.specs.List.{AllWithin, range_with_len}
use Rattle.std.proofs.lemmas.Bool.{false≢true}
use Rattle.std.proofs.lemmas.List.FromFn.{length-range_with_len, get_or-range_with_len}
use Rattle.basis.specs.Searches.{Found}

-- what a search over the range says
pub found_in_range : (x : ℕ → ℕ) (from k : ℕ) (r : Option ℕ) → from ≤ k
    → MatchOption r ((t : ℕ) → from ≤ t → t < k → x t ≡ 0) (λ i. (from ≤ i) × (i < k) × (x i ≢ 0) × ((t : ℕ) → from ≤ t → t < i → x t ≡ 0)) → Found x from k r
found_in_range x from k (Some r) l h = (record { low = h.0; high = omega (arith, h.1); zeros = h.3; hit = λ g. h.2 }, h.1)
found_in_range x from k None l h = record { low = l; high = omega arith; zeros = h; hit = λ g. absurd (omega arith) }

-- what a search that found nothing says
pub found_none : (x : ℕ → ℕ) (from k : ℕ) (r : Option ℕ) → Found x from k r → false ≡ is_some r → (t : ℕ) → from ≤ t → t < k → x t ≡ 0
found_none x from k (Some q) f e = absurd (false≢true e)
found_none x from k None f e = f.zeros

-- what a test of all numbers below m says, where the answer is yes
pub all_in_range : (m : ℕ) (P : ℕ → Type 0) (No : Type 0) (r : Bool) → MatchBool r (AllWithin P (range_with_len 0 m) 0 (length (range_with_len 0 m))) No → r ≡ true → (i : ℕ) → i < m → P i
all_in_range m P No true h e i l = subst P (get_or-range_with_len 0 m i 0 l ∙ zero-add i) (h i 0 (omega arith) (omega (arith, length-range_with_len 0 m)))
all_in_range m P No false h e i l = absurd (false≢true e)
