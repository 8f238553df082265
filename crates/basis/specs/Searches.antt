-- What the loops find and collect: a column, and the first entry that is not zero.
use Rattle.std.specs.Prelude.{◌≡◌, ◌≢◌, List, ℕ, ◌≤◌, ◌<◌, get_or, Option, Some, None}
use Rattle.matrices.specs.Filling.{filled, filled_inside}
use Rattle.matrices.specs.Matrices.{cell, FieldRow, FieldMatrix, zero_row, filled_row}
use Rattle.basis.specs.State.{Array}

-- column j
abbrev pub column_of : ℕ → Array → ℕ → List ℕ
column_of n b j = filled n (λ i. cell b i j) zero_row

pub column_of_at : (n : ℕ) (b : Array) (j i : ℕ) → i < n → get_or (column_of n b j) i 0 ≡ cell b i j
column_of_at n b j i l = filled_inside n (λ i. cell b i j) zero_row 0 i l

pub column_of_row : (p n : ℕ) (b : Array) (j : ℕ) → j < n → FieldMatrix p n b → FieldRow p n (column_of n b j)
column_of_row p n b j l f = filled_row p n _ (λ i g. f.small i j g l)

-- r is the first place from `from` on, below k, where x is not zero; k if there is none
pub record FirstNonzero (x : ℕ → ℕ) (from k r : ℕ) : Type 0 where
  pub low : from ≤ r
  pub high : r ≤ k
  pub zeros : (t : ℕ) → from ≤ t → t < r → x t ≡ 0
  pub hit : r < k → x r ≢ 0

-- what a search finds: the first place from `from` on, below k, where x is not zero; nothing where there is none
abbrev pub Found : (ℕ → ℕ) → (from k : ℕ) → Option ℕ → Type 0
Found x from k (Some r) = FirstNonzero x from k r × (r < k)
Found x from k None = FirstNonzero x from k k
