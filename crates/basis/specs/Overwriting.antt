-- Loops that overwrite the rows of a field matrix from the front: a row at a time, some of them left as they are.
use Rattle.std.specs.Prelude.{◌≡◌, List, [], ℕ, ◌+◌, ◌≤◌, ◌<◌, length, get_or, set}
use Rattle.std.proofs.Common.{sym, ◌∙◌, ap, arith}
use Rattle.std.proofs.lemmas.List.{set-get_or}
use Rattle.forms.specs.Numbers.{order_limit}
use Rattle.algebra.specs.Matrix.{Matrix, Within}
use Rattle.algebra.specs.Modular.{modulo}
use Rattle.matrices.specs.Filling.{filled, filled_inside, filled_outside, fill_start, fill_turn}
use Rattle.matrices.specs.Matrices.{cell, vector, matrix, FieldRow, FieldMatrix, Square}
use Rattle.basis.specs.State.{Array, field_row_whole, field_row, matrix_of_rows, field_of_rows}

module _ (n : ℕ) (f : ℕ → List ℕ) (m : Array) where
  -- the rows to come are those of m
  pub row_to_come : {l : Array} → l ≡ filled n f m → get_or l n [] ≡ get_or m n []
  row_to_come e = ap (λ (l : Array). get_or l n []) e ∙ filled_outside n f m [] n (omega arith)

  -- a turn that leaves its row as it is
  row_left : {l : Array} → n < length m → l ≡ filled n f m → get_or m n [] ≡ f n → l ≡ filled (n + 1) f m
  row_left {l} h e g = sym (set-get_or l n []) ∙ fill_turn m n f h e (row_to_come e ∙ g)

  overwritten_row : (i : ℕ) → i < n → get_or (filled n f m) i [] ≡ f i
  overwritten_row i l = filled_inside n f m [] i l

  pub overwritten_cell : (i j : ℕ) → i < n → cell (filled n f m) i j ≡ get_or (f i) j 0
  overwritten_cell i j l = ap (λ (v : List ℕ). get_or v j 0) (overwritten_row i l)

  pub overwritten_field : (p : ℕ) → FieldMatrix p n m → ((i : ℕ) → i < n → FieldRow p n (f i)) → FieldMatrix p n (filled n f m)
  overwritten_field p x h = field_of_rows p n m _ x (λ i l. rw (overwritten_row i l) (h i l)) (λ i l. filled_outside n f m [] i l)

  pub overwritten_matrix : (p : ℕ) (M : Matrix (modulo p)) → Within (modulo p) n M → ((i j : ℕ) → i < n → j < n → vector p n (f i) j ≡ M i j) → matrix p n (filled n f m) ≡ M
  overwritten_matrix p M w h = matrix_of_rows p n _ M w (λ i j l g. ap (λ (v : List ℕ). vector p n v j) (overwritten_row i l) ∙ h i j l g)

-- r is m with its first n rows overwritten by the rule f
pub record Overwritten (f : ℕ → List ℕ → List ℕ) (n : ℕ) (m r : Array) : Type 0 where
  pub is : r ≡ filled n (λ i. f i (get_or m i [])) m

pub overwriting_start : (f : ℕ → List ℕ → List ℕ) (m : Array) → Overwritten f 0 m m
overwriting_start f m = record { is = fill_start _ _ }

module _ (m : Array) (q : Square m) (f : ℕ → List ℕ → List ℕ) (n : ℕ) (l : n < order_limit) (r : Array) (x : Overwritten f n m r) where
  pub next_field : (p k : ℕ) → 0 < p → k ≤ order_limit → n < k → FieldMatrix p k m → FieldRow p order_limit (get_or r n [])
  next_field p k h o g y = rw (row_to_come n _ m x.is) (field_row_whole p k _ h o (field_row p k m n g y))

  pub overwriting_turn : (v : List ℕ) → v ≡ f n (get_or r n []) → Overwritten f (n + 1) m (set r n v)
  overwriting_turn v d = record { is = fill_turn m n _ (omega (arith, q.tall)) x.is (d ∙ ap (f n) (row_to_come n _ m x.is)) }

  -- a turn that leaves its row as it is
  pub overwriting_left : get_or m n [] ≡ f n (get_or m n []) → Overwritten f (n + 1) m r
  overwriting_left d = record { is = row_left n _ m (omega (arith, q.tall)) x.is d }
