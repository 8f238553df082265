-- A matrix loaded from its bytes: its entries are those that the bytes list, and where these are residues it is a field matrix.
use Rattle.std.specs.Prelude.{◌≡◌, List, ℕ, ◌+◌, ◌*◌, ◌<◌}
use Rattle.std.proofs.Common.{sym, ◌∙◌, ap}
use Rattle.algebra.specs.Modular.{residue}
use Rattle.forms.specs.Numbers.{at}
use Rattle.forms.specs.Matrices as definitions
use Rattle.forms.specs.Rings.{field, field_inside, field_within}
use Rattle.forms.specs.Words.{Residues}
use Rattle.matrices.specs.Filling.{filled, filled_inside}
use Rattle.matrices.specs.Matrices.{cell, matrix, matrix_is, FieldMatrix, zero_row, zero_rows, filled_row, filled_cell, filled_field}

abbrev pub loaded : ℕ → List ℕ → List (List ℕ)
loaded n A = filled n (λ i. filled n (λ j. at A (i * n + j)) zero_row) zero_rows

pub loaded_entry : (n : ℕ) (A : List ℕ) (i j : ℕ) → i < n → j < n → cell (loaded n A) i j ≡ at A (i * n + j)
loaded_entry n A i j l g = filled_cell n (λ i. filled n (λ j. at A (i * n + j)) zero_row) i j l ∙ filled_inside n (λ j. at A (i * n + j)) zero_row 0 j g

pub loaded_field : (p n : ℕ) (A : List ℕ) → Residues p (n * n) A → FieldMatrix p n (loaded n A)
loaded_field p n A h = filled_field p n _ (λ i l. filled_row p n _ (λ j g. h.small (i * n + j)))

-- it is the matrix that the definitions read off the bytes
pub loaded_is : (p n : ℕ) (A : List ℕ) → matrix p n (loaded n A) ≡ field p n (definitions.matrix n A)
unfolding definitions.matrix
loaded_is p n A = matrix_is p n _ _ (field_within p n _) (λ i j l g. ap (residue p) (loaded_entry n A i j l g) ∙ sym (field_inside p n (definitions.matrix n A) i j l g))
