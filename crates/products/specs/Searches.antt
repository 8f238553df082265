-- Searches that end at the first failing test and answer with a rule: over one index, and over rows and columns.
use Rattle.std.specs.Prelude.{◌≡◌, refl, Bool, true, false, cond, ◌&&◌, ℕ, zero, suc, ◌+◌, ◌≤◌, ◌<◌, Result, Ok, Err}
use Rattle.std.specs.List.{list_all, range_with_len}
use Rattle.std.proofs.Common.{sym, ◌∙◌, ap, ap₂, add-zero, zero-add, le_antisymm, arith}
use Rattle.std.proofs.Math.Bool.{and_assoc, and-true}
use Rattle.forms.specs.Numbers.{every}
use Rattle.matrices.specs.Filling.{every_fails}

-- nothing where the test holds, else the rule
abbrev pub failing : Bool → ℕ → Result (Unit {0}) ℕ
failing test rule = cond test (Ok tt) (Err rule)

-- every index has passed
pub every_all : (n : ℕ) (t : ℕ → Bool) (i : ℕ) → every i t ≡ true → i ≤ n → n ≤ i → every n t ≡ true
every_all n t i h l g = rw (le_antisymm g l) h

pub one_failed : (n : ℕ) (t : ℕ → Bool) (rule i : ℕ) → i < n → t i ≡ false → Err rule ≡ failing (every n t) rule
one_failed n t rule i l e = sym (ap (λ (b : Bool). failing b rule) (every_fails n t i l e))

-- the entry in row i and column j has failed
pub entry_failed : (n : ℕ) (t : ℕ → ℕ → Bool) (rule i j : ℕ) → i < n → j < n → t i j ≡ false → Err rule ≡ failing (every n (λ i. every n (t i))) rule
entry_failed n t rule i j l g e = one_failed n _ rule i l (every_fails n (t i) j g e)

-- tests that agree at each index
pub every_equal : (n : ℕ) (t u : ℕ → Bool) → ((i : ℕ) → i < n → t i ≡ u i) → every n t ≡ every n u
unfolding every
every_equal zero t u h = refl
every_equal (suc n) t u h = ap₂ ◌&&◌ (every_equal n t u (λ i l. h i (omega arith))) (h n (omega arith))

-- the test of each number of a range, from the front
pub every_front : (n : ℕ) (t : ℕ → Bool) → every (suc n) t ≡ (t 0 && every n (λ i. t (suc i)))
unfolding every
every_front zero t = sym (and-true (t 0))
every_front (suc n) t = ap (λ (b : Bool). b && t (suc n)) (every_front n t) ∙ and_assoc (t 0) _ _

pub every_from : (a n : ℕ) (t : ℕ → Bool) → list_all t (range_with_len a n) ≡ every n (λ i. t (a + i))
unfolding every
every_from a zero t = refl
every_from a (suc n) t =
    ap₂ ◌&&◌ (ap t (sym (add-zero a))) (every_from (a + 1) n t ∙ every_equal n _ _ (λ i l. ap t (omega arith)))
    ∙ sym (every_front n (λ i. t (a + i)))

pub every_range : (n : ℕ) (t : ℕ → Bool) → list_all t (range_with_len 0 n) ≡ every n t
every_range n t = every_from 0 n t ∙ every_equal n _ t (λ i l. ap t (zero-add i))
