-- The steps on a whole state: a column and a row operation, each on two of the three matrices, and the two changes of basis that are made of them.
use Rattle.std.specs.Prelude.{◌≡◌, ◌≢◌, List, [], ℕ, ◌-◌, ◌≤◌, ◌<◌, get_or, set}
use Rattle.std.proofs.Math.Path.{refl, ap₂, fun_ext}
use Rattle.std.proofs.Common.{sym, ◌∙◌, ap, subst, arith}
use Rattle.std.proofs.Math.Decide.{ℕ_discrete}
use Rattle.forms.specs.Numbers.{order_limit}
use Rattle.forms.specs.Reciprocals.{InverseOf}
use Rattle.algebra.specs.Ring.{zero_plus, plus_zero, times_one, times_zero, zero_times}
use Rattle.algebra.specs.Solver.{◌:+◌, ◌:*◌, :-◌, solve₃}
use Rattle.algebra.specs.Sum.{delta, delta_other}
use Rattle.algebra.specs.Matrix.{Vector, inner}
use Rattle.algebra.specs.Modular.{residue, modulo, residue_one, residue_times, residue_remainder, residue_zero, residue_minus}
use Rattle.matrices.specs.Matrices.{vector, matrix, vector_inside, FieldRow, zero_row}
use Rattle.matrices.specs.Rows.{plus_row, unit_row}
use Rattle.basis.specs.Entries.{inner_none}
use Rattle.basis.specs.Frame.{Frame}
use Rattle.basis.specs.Shear.{taken, Sheared, OnColumns, OnRows, sheared_by}
use Rattle.basis.specs.Replace.{added, pivot_is, Replaced}
use Rattle.basis.specs.Overwriting.{Overwritten}
use Rattle.basis.specs.declared.steps.State.{State}
use Rattle.basis.specs.State.{frame, Fields, Squares, unit_vector, plus_row_vector, zero_vector}
use Rattle.basis.specs.Steps.{ColumnsChanged, RowsChanged, Combination, column_rule, columns_rule, rows_rule, column_set, column_added, row_added, opposite_unit, row_taken}

-- two matrices of a state are changed, and the third is left
on_columns : (p n : ℕ) (u v : Vector (modulo p)) (s r : State) → Fields p n s → ColumnsChanged p n u v s.b r.b → ColumnsChanged p n u v s.t r.t → r.back ≡ s.back
    → Fields p n r × OnColumns (modulo p) n u v (frame p n s) (frame p n r)
on_columns p n u v s r f b t e = (record { B = b.field; T = t.field; I = rw e f.I }, record { B = b.is; T = t.is; I = ap (matrix p n) e })

on_rows : (p n : ℕ) (u v : Vector (modulo p)) (s r : State) → Fields p n s → RowsChanged p n u v s.b r.b → RowsChanged p n u v s.back r.back → r.t ≡ s.t
    → Fields p n r × OnRows (modulo p) n u v (frame p n s) (frame p n r)
on_rows p n u v s r f b i e = (record { B = b.field; T = rw e f.T; I = i.field }, record { B = b.is; T = ap (matrix p n) e; I = i.is })

-- what the loops over the rows of two matrices make
module _ (p n : ℕ) (s r : State) (h : 0 < p) (o : n ≤ order_limit) (f : Fields p n s) where
  pub columns_set : (at : ℕ) (w : List ℕ) → at < n → Squares s → Overwritten (column_rule p at w) n s.b r.b × Overwritten (column_rule p at w) n s.t r.t × (r.back ≡ s.back)
      → Fields p n r × OnColumns (modulo p) n (added (modulo p) at (vector p n w)) (delta (modulo p) at) (frame p n s) (frame p n r)
  columns_set at w l q x = on_columns p n _ _ s r f (rw x.0.is (column_set p n at w h o l s.b q.B f.B)) (rw x.1.is (column_set p n at w h o l s.t q.T f.T)) x.2

  pub columns_added : (a : ℕ) (v : List ℕ) → a < n → FieldRow p n v → Overwritten (columns_rule p a v) n s.b r.b × Overwritten (columns_rule p a v) n s.t r.t × (r.back ≡ s.back)
      → Fields p n r × OnColumns (modulo p) n (delta (modulo p) a) (vector p n v) (frame p n s) (frame p n r)
  columns_added a v l g x = on_columns p n _ _ s r f (rw x.0.is (column_added p n h o s.b f.B a v l g)) (rw x.1.is (column_added p n h o s.t f.T a v l g)) x.2

  pub rows_added : (at : ℕ) (c : List ℕ) → at < n → Overwritten (rows_rule p c (get_or s.b at [])) n s.b r.b × Overwritten (rows_rule p c (get_or s.back at [])) n s.back r.back × (r.t ≡ s.t)
      → Fields p n r × OnRows (modulo p) n (vector p n c) (delta (modulo p) at) (frame p n s) (frame p n r)
  rows_added at c l x = on_rows p n _ _ s r f (rw x.0.is (row_added p n h o s.b f.B at c l)) (rw x.1.is (row_added p n h o s.back f.I at c l)) x.2

-- the combination v m is taken from row a, of B and then of the inverse of T
pub rows_taken : (p n a : ℕ) (v y z x w : List ℕ) (s : State) → 0 < p → n ≤ order_limit → a < n → Squares s → Fields p n s → Combination p n v s.b y → x ≡ plus_row p order_limit (get_or s.b a []) (p - 1) y
    → Combination p n v s.back z → w ≡ plus_row p order_limit (get_or s.back a []) (p - 1) z
    → Fields p n (record s { b = set s.b a x; back = set s.back a w }) × OnRows (modulo p) n (opposite_unit p a) (vector p n v) (frame p n s) (frame p n (record s { b = set s.b a x; back = set s.back a w }))
rows_taken p n a v y z x w s h o l q f cy ex cz ew = on_rows p n _ _ s _ f (rw ex (row_taken p n h o s.b f.B a v y l q.B.tall cy)) (rw ew (row_taken p n h o s.back f.I a v z l q.I.tall cz)) refl

-- the multiples of row s that replacing e_s by w takes, where d is the inverse of w_s
abbrev pub multiples : (p s : ℕ) → List ℕ → ℕ → List ℕ
multiples p s w d = plus_row p order_limit (plus_row p order_limit zero_row (p - d) w) d (unit_row s)

module _ (p n s : ℕ) (w : List ℕ) (d : ℕ) (h : 0 < p) (o : n ≤ order_limit) (l : s < n) (inverse : InverseOf p (get_or w s 0) d) (some : get_or w s 0 ≢ 0) where
  multiples_vector : vector p n (multiples p s w d) ≡ taken (modulo p) (added (modulo p) s (vector p n w)) (residue p d)
  unfolding added
  multiples_vector = fun_ext (λ i.
      plus_row_vector p n (plus_row p order_limit zero_row (p - d) w) d (unit_row s) h o i
      ∙ ap₂ (λ a b. (modulo p).plus a ((modulo p).times (residue p d) b)) (plus_row_vector p n zero_row (p - d) w h o i ∙ ap₂ (λ a b. (modulo p).plus a ((modulo p).times b (vector p n w i))) (zero_vector p n i) (residue_minus p d (omega (arith, inverse.small)) h) ∙ zero_plus (modulo p) _)
      (ap (λ (v : Vector (modulo p)). v i) (unit_vector p n s o l))
      ∙ solve₃ (modulo p) (λ d w e. :- d :* w :+ d :* e) (λ d w e. :- ((w :+ :- e) :* d)) refl (residue p d) (vector p n w i) (delta (modulo p) s i))

  unit_pivot : (modulo p).times (vector p n w s) (residue p d) ≡ (modulo p).one
  unit_pivot = ap (λ a. (modulo p).times a (residue p d)) (vector_inside p n w s l) ∙ sym (residue_times p _ d) ∙ sym (residue_remainder p _ h) ∙ ap (residue p) (inverse.of_other (omega arith)) ∙ residue_one p

  pub replaced : {X Y Z : Frame (modulo p)} (c : List ℕ) → c ≡ multiples p s w d → OnColumns (modulo p) n (added (modulo p) s (vector p n w)) (delta (modulo p) s) X Y → OnRows (modulo p) n (vector p n c) (delta (modulo p) s) Y Z
      → Replaced (modulo p) n s (vector p n w) X Z
  replaced {X} {Y} {Z} c e x y = sheared_by (modulo p) n _ _ (residue p d) (ap (λ a. (modulo p).times a (residue p d)) (pivot_is (modulo p) n s (vector p n w) l) ∙ unit_pivot) x
      (subst (λ (u : Vector (modulo p)). OnRows (modulo p) n u (delta (modulo p) s) Y Z) (ap (vector p n) e ∙ multiples_vector) y)

module _ (p n a : ℕ) (v : List ℕ) (l : a < n) (zero_at : get_or v a 0 ≡ 0) where
  orthogonal : inner (modulo p) n (vector p n v) (delta (modulo p) a) ≡ (modulo p).zero
  orthogonal = inner_none (modulo p) n _ _ (λ q g. elim (ℕ_discrete a q) [
    | yes e ↦ ap (λ z. (modulo p).times z (delta (modulo p) a q)) (subst (λ (y : ℕ). vector p n v y ≡ (modulo p).zero) e (vector_inside p n v a l ∙ ap (residue p) zero_at ∙ residue_zero p)) ∙ zero_times (modulo p) _
    | no e ↦ ap ((modulo p).times (vector p n v q)) (delta_other (modulo p) a q e) ∙ times_zero (modulo p) _
  ])

  -- v times e_a is added to the basis vectors
  pub spread : {X Y Z : Frame (modulo p)} → OnColumns (modulo p) n (delta (modulo p) a) (vector p n v) X Y → OnRows (modulo p) n (opposite_unit p a) (vector p n v) Y Z
      → Sheared (modulo p) n (delta (modulo p) a) (vector p n v) X Z
  spread x y = sheared_by (modulo p) n _ _ (modulo p).one (ap (λ q. (modulo p).times ((modulo p).plus (modulo p).one q) (modulo p).one) orthogonal ∙ times_one (modulo p) _ ∙ plus_zero (modulo p) _) x y
