-- A matrix with a multiple of one row added to another.
use Rattle.std.specs.Prelude.{◌≡◌, ◌≢◌, List, [], ℕ, ◌+◌, ◌*◌, ◌%◌, ◌<◌, length, get_or, set}
use Rattle.std.proofs.Common.{sym, ◌∙◌, ap, ap₂, arith, get_or-set_same, get_or-set_other}
use Rattle.std.proofs.Math.Nat.{mod-lt}
use Rattle.std.proofs.Math.Decide.{ℕ_discrete}
use Rattle.algebra.specs.Matrix.{product, product_within}
use Rattle.algebra.specs.Elimination.{row_addition, row_addition_same, row_addition_other, row_addition_within}
use Rattle.algebra.specs.Modular.{residue, modulo}
use Rattle.matrices.specs.Filling.{filled_inside}
use Rattle.matrices.specs.Matrices.{cell, matrix, matrix_inside, matrix_within, matrix_is, FieldMatrix, zero_row, filled_row}
use Rattle.matrices.specs.Rows.{residue_plus_multiple, plus_row}

-- k times row `from` is added to row i
pub record RowAdded (p n i k from : ℕ) (m r : List (List ℕ)) : Type 0 where
  pub is : matrix p n r ≡ product (modulo p) n (row_addition (modulo p) n i (residue p k) from) (matrix p n m)
  pub field : FieldMatrix p n m → FieldMatrix p n r

module _ (m : List (List ℕ)) (i : ℕ) (v : List ℕ) where
  set_row_same : i < length m → (j : ℕ) → cell (set m i v) i j ≡ get_or v j 0
  set_row_same l j = ap (λ (w : List ℕ). get_or w j 0) (get_or-set_same m i v [] l)

  set_row_other : (t j : ℕ) → t ≢ i → cell (set m i v) t j ≡ cell m t j
  set_row_other t j o = ap (λ (w : List ℕ). get_or w j 0) (get_or-set_other m i t v [] o)

module _ (p n i k from : ℕ) (m : List (List ℕ)) (h : 0 < p) (l : i < n) (g : from < n) (long : i < length m) where
  sum_row : List ℕ
  sum_row = plus_row p n (get_or m i []) k (get_or m from [])

  sum_row_inside : (j : ℕ) → j < n → cell (set m i sum_row) i j ≡ (cell m i j + k * cell m from j) % p
  unfolding sum_row
  sum_row_inside j q = set_row_same m i sum_row long j ∙ filled_inside n (λ j. (cell m i j + k * cell m from j) % p) zero_row 0 j q

  row_added_entry : (t j : ℕ) → t < n → j < n → residue p (cell (set m i sum_row) t j) ≡ product (modulo p) n (row_addition (modulo p) n i (residue p k) from) (matrix p n m) t j
  row_added_entry t j a b = elim (ℕ_discrete t i) [
    | yes e ↦ rw e (ap (residue p) (sum_row_inside j b) ∙ residue_plus_multiple p _ k _ h
        ∙ ap₂ (λ x y. (modulo p).plus x ((modulo p).times (residue p k) y)) (sym (matrix_inside p n m i j l b)) (sym (matrix_inside p n m from j g b))
        ∙ sym (row_addition_same (modulo p) n i (residue p k) from (matrix p n m) g (matrix_within p n m) j))
    | no o ↦ ap (residue p) (set_row_other m i sum_row t j o) ∙ sym (matrix_inside p n m t j a b)
        ∙ sym (row_addition_other (modulo p) n i (residue p k) from (matrix p n m) g (matrix_within p n m) t j o)
  ]

  row_added_field : FieldMatrix p n m → FieldMatrix p n (set m i sum_row)
  unfolding sum_row
  row_added_field f = record {
    small = λ t j a b. elim (ℕ_discrete t i) [ yes e ↦ rw (e, sum_row_inside j b) (mod-lt _ h) | no o ↦ rw (set_row_other m i sum_row t j o) (f.small t j a b) ];
    rows = λ t j a. set_row_other m i sum_row t j (omega arith) ∙ f.rows t j a;
    columns = λ t j a. elim (ℕ_discrete t i) [
      | yes e ↦ rw e (set_row_same m i sum_row long j ∙ (filled_row p n _ (λ j b. mod-lt _ h)).rest j a)
      | no o ↦ set_row_other m i sum_row t j o ∙ f.columns t j a
    ];
  }

  pub row_added : (r : List (List ℕ)) → r ≡ set m i (plus_row p n (get_or m i []) k (get_or m from [])) → RowAdded p n i k from m r
  unfolding sum_row
  row_added r e = rw e (record {
    is = matrix_is p n _ _ (product_within (modulo p) n _ _ (row_addition_within (modulo p) n i (residue p k) from l g) (matrix_within p n m)) row_added_entry;
    field = row_added_field;
  })
