-- What the loops over rows compute: a row plus a multiple of another, and E by its rows.
use Rattle.std.specs.Prelude.{◌≡◌, ◌≢◌, List, ℕ, ◌+◌, ◌*◌, ◌%◌, ◌≤◌, ◌<◌, get_or, set}
use Rattle.std.proofs.Common.{sym, ◌∙◌, ap, arith, get_or-set_same, get_or-set_other}
use Rattle.std.proofs.Math.Decide.{ℕ_discrete}
use Rattle.std.proofs.lemmas.List.{length-replicate}
use Rattle.forms.specs.Numbers.{order_limit}
use Rattle.algebra.specs.Sum.{delta, delta_same, delta_other}
use Rattle.algebra.specs.Matrix.{identity, identity_inside, identity_within}
use Rattle.algebra.specs.Modular.{residue, modulo, residue_zero, residue_one, residue_plus, residue_times, residue_remainder}
use Rattle.matrices.specs.Filling.{filled}
use Rattle.matrices.specs.Matrices.{matrix, matrix_is, FieldRow, FieldMatrix, zero_row, zero_rows, zero_row_at, filled_cell, filled_field}

-- x + k y modulo p
pub residue_plus_multiple : (p x k y : ℕ) → 0 < p → residue p ((x + k * y) % p) ≡ (modulo p).plus (residue p x) ((modulo p).times (residue p k) (residue p y))
residue_plus_multiple p x k y h = residue_remainder p _ h ∙ residue_plus p x (k * y) ∙ ap ((modulo p).plus (residue p x)) (residue_times p k y)

-- the row x plus k times the row y
abbrev pub plus_row : ℕ → ℕ → List ℕ → ℕ → List ℕ → List ℕ
plus_row p n x k y = filled n (λ j. (get_or x j 0 + k * get_or y j 0) % p) zero_row

-- row s of E
abbrev pub unit_row : ℕ → List ℕ
unit_row s = set zero_row s 1

module _ (s : ℕ) (l : s < order_limit) where
  unit_row_same : get_or (unit_row s) s 0 ≡ 1
  unit_row_same = get_or-set_same zero_row s 1 0 (omega (arith, length-replicate {A = ℕ} order_limit 0))

  unit_row_other : (i : ℕ) → i ≢ s → get_or (unit_row s) i 0 ≡ 0
  unit_row_other i o = get_or-set_other zero_row s i 1 0 o ∙ zero_row_at i

  pub unit_row_at : (p i : ℕ) → residue p (get_or (unit_row s) i 0) ≡ delta (modulo p) s i
  unit_row_at p i = elim (ℕ_discrete i s) [
    | yes e ↦ rw e (ap (residue p) unit_row_same ∙ residue_one p ∙ sym (delta_same (modulo p) s))
    | no o ↦ ap (residue p) (unit_row_other i o) ∙ residue_zero p ∙ sym (delta_other (modulo p) s i (λ e. o (sym e)))
  ]

  unit_row_field : (p n : ℕ) → 1 < p → s < n → FieldRow p n (unit_row s)
  unit_row_field p n h g = record {
    small = λ i a. elim (ℕ_discrete i s) [ yes e ↦ rw (e, unit_row_same) h | no o ↦ rw (unit_row_other i o) (omega arith) ];
    rest = λ i a. unit_row_other i (omega arith);
  }

-- r is E, modulo every p
pub record IsIdentity (n : ℕ) (r : List (List ℕ)) : Type 0 where
  pub is : (p : ℕ) → matrix p n r ≡ identity (modulo p) n
  pub field : (p : ℕ) → 1 < p → FieldMatrix p n r

pub unit_rows_identity : (n : ℕ) (r : List (List ℕ)) → n ≤ order_limit → r ≡ filled n unit_row zero_rows → IsIdentity n r
unit_rows_identity n r h e = rw e (record {
  is = λ p. matrix_is p n _ _ (identity_within (modulo p) n) (λ i j l g. ap (residue p) (filled_cell n unit_row i j l) ∙ unit_row_at i (omega arith) p j ∙ sym (identity_inside (modulo p) n i j l));
  field = λ p q. filled_field p n unit_row (λ i l. unit_row_field i (omega arith) p n q l);
})
