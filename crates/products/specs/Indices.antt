-- Where entries of matrices stand among the bytes: inside their payload.
use Rattle.std.specs.Prelude.{ℕ, suc, ◌+◌, ◌*◌, ◌≤◌, ◌<◌}
use Rattle.std.proofs.Common.{suc-mul, mul-le-mul, le_refl, arith}
use Rattle.forms.specs.Listed.{row_place}

-- (i, j) is an entry of a matrix of order n
pub record Inside (n i j : ℕ) : Type 0 where
  pub row : i < n
  pub column : j < n

module _ (n i j : ℕ) (h : Inside n i j) where
  pub cell_inside : i * n + j < n * n
  cell_inside = row_place i j n n h.row h.column

  pub entry_inside : (i * n + j) * n + n ≤ n * n * n
  entry_inside = let a : suc (i * n + j) * n ≤ n * n * n = mul-le-mul cell_inside (le_refl n) in let e = suc-mul (i * n + j) n in omega arith

-- f_i has n + 1 coefficients
pub diagonal_inside : (n i : ℕ) → i < n → i * suc n + suc n ≤ n * suc n
diagonal_inside n i l = let a : suc i * suc n ≤ n * suc n = mul-le-mul l (le_refl (suc n)) in let e = suc-mul i (suc n) in omega arith
