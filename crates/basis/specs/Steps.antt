-- What the loops compute on rows and on a matrix: x · w, v m, a column set to m w, multiples of a column or of a row added to the others.
use Rattle.std.specs.Prelude.{◌≡◌, refl, ◌≢◌, ℕ, zero, suc, ◌+◌, ◌*◌, ◌-◌, ◌%◌, ◌≤◌, ◌<◌, length, get_or, set}
use Rattle.std.proofs.Math.Path.{sym, ap, ap₂, fun_ext, subst}
use Rattle.std.proofs.Common.{◌∙◌, mod-lt, mod-eq_of_lt, zero-mul, add-zero, arith, add-one, length-set, ext_get_or}
use mathlib.Core.List.{List, []}
use Rattle.std.proofs.Math.Decide.{dec_lt, ℕ_discrete}
use Rattle.std.proofs.lemmas.List.{length-replicate}
use Rattle.std.proofs.Math.Seq.{get_or-set_same, get_or-set_other}
use Rattle.forms.specs.Numbers.{order_limit, total}
use Rattle.algebra.specs.Ring.{times_one}
use Rattle.algebra.specs.Sum.{sum, sum_nil, sum_suc, sum_equal, delta, delta_same, delta_other}
use Rattle.algebra.specs.Matrix.{Matrix, Vector, product, product_within, apply, apply_at, combine}
use Rattle.algebra.specs.Elementary.{elementary, elementary_within}
use Rattle.algebra.specs.Modular.{residue, modulo, residue_times, residue_remainder, minus_one_times}
use Rattle.matrices.specs.Filling.{filled, filled_inside, fill_start, fill_turn}
use Rattle.matrices.specs.Matrices.{cell, vector, matrix, vector_inside, vector_upto, matrix_inside, matrix_within, FieldRow, FieldMatrix, Square, zero_row, zero_row_at}
use Rattle.forms.specs.Rings.{total_residue}
use Rattle.forms.specs.Tests.{total_suc}
use Rattle.matrices.specs.Rows.{plus_row}
use Rattle.basis.specs.Entries.{plus_zero_times, apply_delta, combine_delta, product_elementary_at, elementary_product_at}
use Rattle.basis.specs.Shear.{taken, taken_zero}
use Rattle.basis.specs.Replace.{added, delta_upto, added_upto, column_same, column_other}
use Rattle.basis.specs.Overwriting.{overwritten_field, overwritten_matrix}
use Rattle.basis.specs.State.{Array, plus_row_vector, plus_row_field, zero_vector, row_vector, field_row_whole, field_row, matrix_of_rows, field_of_rows}

filled_length : {A : Type 0} (n : ℕ) (f : ℕ → A) (d : List A) → n ≤ length d → length (filled n f d) ≡ length d
filled_length zero f d h = ap length (sym (fill_start d f))
filled_length (suc n) f d h =
    ap (λ (k : ℕ). length (filled k f d)) (sym (add-one n)) ∙ ap length (sym (fill_turn d n f (omega arith) refl refl)) ∙ length-set (filled n f d) n (f n)
    ∙ filled_length n f d (omega arith)

-- nothing is added by the multiple 0
pub plus_row_nothing : (p : ℕ) (x y : List ℕ) → length x ≡ order_limit → FieldRow p order_limit x → x ≡ plus_row p order_limit x 0 y
plus_row_nothing p x y e f = ext_get_or 0 x (plus_row p order_limit x 0 y) (e ∙ sym (filled_length order_limit _ zero_row (omega (arith, length-replicate {A = ℕ} order_limit 0)) ∙ length-replicate {A = ℕ} order_limit 0)) (λ i l.
    sym (filled_inside order_limit (λ j. (get_or x j 0 + 0 * get_or y j 0) % p) zero_row 0 i (omega arith) ∙ ap (λ (z : ℕ). (get_or x i 0 + z) % p) (zero-mul _) ∙ ap (λ (z : ℕ). z % p) (add-zero _) ∙ mod-eq_of_lt (f.small i (omega arith))))

-- r is m (E + u vᵀ), or (E + u vᵀ) m
pub record ColumnsChanged (p n : ℕ) (u v : Vector (modulo p)) (m r : Array) : Type 0 where
  pub is : matrix p n r ≡ product (modulo p) n (matrix p n m) (elementary (modulo p) n u v)
  pub field : FieldMatrix p n r

pub record RowsChanged (p n : ℕ) (u v : Vector (modulo p)) (m r : Array) : Type 0 where
  pub is : matrix p n r ≡ product (modulo p) n (elementary (modulo p) n u v) (matrix p n m)
  pub field : FieldMatrix p n r

-- x · w
abbrev pub entry_of : (p n : ℕ) → List ℕ → List ℕ → ℕ
entry_of p n x w = total n (λ k. get_or x k 0 * get_or w k 0) % p

total_short : (n m : ℕ) (f : ℕ → ℕ) → n ≤ m → ((k : ℕ) → n ≤ k → f k ≡ 0) → total m f ≡ total n f
total_short n zero f l z = ap (λ (k : ℕ). total k f) (omega arith)
total_short n (suc m) f l z = elim (dec_lt m n) [
  | yes g ↦ ap (λ (k : ℕ). total k f) (omega arith)
  | no g ↦ total_suc m f ∙ ap₂ ◌+◌ (total_short n m f (omega arith) z) (z m (omega arith)) ∙ add-zero _
]

-- the entries from n on add nothing
pub entry_short : (p n : ℕ) (x w : List ℕ) → n ≤ order_limit → FieldRow p n x → entry_of p order_limit x w ≡ entry_of p n x w
entry_short p n x w h f = ap (λ (t : ℕ). t % p) (total_short n order_limit _ h (λ k g. ap (λ (y : ℕ). y * get_or w k 0) (f.rest k g) ∙ zero-mul _))

-- column s becomes m w
abbrev pub column_rule : (p s : ℕ) (w : List ℕ) → ℕ → List ℕ → List ℕ
column_rule p s w i x = set x s (entry_of p order_limit x w)

module _ (p n s : ℕ) (w : List ℕ) (h : 0 < p) (o : n ≤ order_limit) (l : s < n) (m : Array) (square : Square m) (f : FieldMatrix p n m) where
  changed : Matrix (modulo p)
  changed = product (modulo p) n (matrix p n m) (elementary (modulo p) n (added (modulo p) s (vector p n w)) (delta (modulo p) s))

  new_row : ℕ → List ℕ
  new_row i = column_rule p s w i (get_or m i [])

  same_at : (i : ℕ) → i < n → get_or (new_row i) s 0 ≡ entry_of p order_limit (get_or m i []) w
  unfolding new_row
  same_at i g = get_or-set_same (get_or m i []) s _ 0 (omega (arith, square.wide i (omega arith)))

  other_at : (i j : ℕ) → s ≢ j → get_or (new_row i) j 0 ≡ cell m i j
  unfolding new_row
  other_at i j e = get_or-set_other (get_or m i []) s j _ 0 (λ d. e (sym d))

  entry_residue : (i : ℕ) → i < n → residue p (entry_of p order_limit (get_or m i []) w) ≡ apply (modulo p) n (matrix p n m) (vector p n w) i
  entry_residue i g = ap (residue p) (entry_short p n (get_or m i []) w o (field_row p n m i g f)) ∙ residue_remainder p _ h ∙ total_residue p n _
      ∙ sum_equal (modulo p) _ _ n (λ k q. residue_times p _ _ ∙ ap₂ (modulo p).times (sym (matrix_inside p n m i k g q)) (sym (vector_inside p n w k q)))
      ∙ sym (apply_at (modulo p) n _ _ i)

  column_entry : (i j : ℕ) → i < n → j < n → vector p n (new_row i) j ≡ changed i j
  unfolding changed
  column_entry i j g q = vector_inside p n (new_row i) j q ∙ elim (ℕ_discrete s j) [
    | yes e ↦ subst (λ (y : ℕ). residue p (get_or (new_row i) y 0) ≡ changed i y) e (ap (residue p) (same_at i g) ∙ entry_residue i g ∙ sym (column_same (modulo p) n s (vector p n w) (matrix p n m) l (matrix_within p n m) i))
    | no e ↦ ap (residue p) (other_at i j e) ∙ sym (matrix_inside p n m i j g q) ∙ sym (column_other (modulo p) n s (vector p n w) (matrix p n m) (matrix_within p n m) i j e)
  ]

  column_row : (i : ℕ) → i < n → FieldRow p n (new_row i)
  column_row i g = record {
    small = λ j q. elim (ℕ_discrete s j) [ yes e ↦ subst (λ (y : ℕ). get_or (new_row i) y 0 < p) e (rw (same_at i g) (mod-lt _ h)) | no e ↦ rw (other_at i j e) (f.small i j g q) ];
    rest = λ j q. other_at i j (omega arith) ∙ f.columns i j q;
  }

  pub column_set : ColumnsChanged p n (added (modulo p) s (vector p n w)) (delta (modulo p) s) m (filled n (λ i. column_rule p s w i (get_or m i [])) m)
  unfolding new_row changed
  column_set = record {
    is = overwritten_matrix n new_row m p changed (product_within (modulo p) n _ _ (matrix_within p n m) (elementary_within (modulo p) n _ _ (added_upto (modulo p) n s (vector p n w) l (vector_upto p n w)) (delta_upto (modulo p) n s l))) column_entry;
    field = overwritten_field n new_row m p f column_row;
  }

-- v times column a is added
abbrev pub columns_rule : (p a : ℕ) (v : List ℕ) → ℕ → List ℕ → List ℕ
columns_rule p a v i x = plus_row p order_limit x (get_or x a 0) v

-- c times the row z is added
abbrev pub rows_rule : (p : ℕ) (c z : List ℕ) → ℕ → List ℕ → List ℕ
rows_rule p c z i x = plus_row p order_limit x (get_or c i 0) z

-- the multiple 0 leaves its row
pub row_without : (p n i : ℕ) (m : Array) (c z : List ℕ) → 0 < p → n ≤ order_limit → i < n → Square m → FieldMatrix p n m → get_or c i 0 ≡ 0 → get_or m i [] ≡ rows_rule p c z i (get_or m i [])
row_without p n i m c z h o l q f e = plus_row_nothing p (get_or m i []) z (q.wide i (omega arith)) (field_row_whole p n _ h o (field_row p n m i l f)) ∙ ap (λ (k : ℕ). plus_row p order_limit (get_or m i []) k z) (sym e)

-- the first t rows of v m, added up
pub record Combining (p n t : ℕ) (v : List ℕ) (m : Array) (r : List ℕ) : Type 0 where
  pub field : FieldRow p n r
  pub sum_is : (j : ℕ) → vector p n r j ≡ sum (modulo p) (λ k. (modulo p).times (vector p n v k) (matrix p n m k j)) t

pub combining_start : (p n : ℕ) (v : List ℕ) (m : Array) → 0 < p → Combining p n 0 v m zero_row
combining_start p n v m h = record {
  field = record { small = λ j l. rw (zero_row_at j) h; rest = λ j l. zero_row_at j };
  sum_is = λ j. zero_vector p n j ∙ sym (sum_nil (modulo p) _);
}

pub combining_turn : (p n t : ℕ) (v : List ℕ) (m : Array) (r : List ℕ) → 0 < p → n ≤ order_limit → FieldMatrix p n m → t < n → Combining p n t v m r → Combining p n (t + 1) v m (plus_row p order_limit r (get_or v t 0) (get_or m t []))
combining_turn p n t v m r h o f l x = rw (add-one t) (record {
  field = plus_row_field p n r (get_or v t 0) (get_or m t []) h o x.field (field_row p n m t l f);
  sum_is = λ j. plus_row_vector p n r (get_or v t 0) (get_or m t []) h o j ∙ ap₂ (modulo p).plus (x.sum_is j) (ap₂ (modulo p).times (sym (vector_inside p n v t l)) (row_vector p n m t j l)) ∙ sym (sum_suc (modulo p) _ t);
})

-- r is v m
pub record Combination (p n : ℕ) (v : List ℕ) (m : Array) (r : List ℕ) : Type 0 where
  pub is : vector p n r ≡ combine (modulo p) n (vector p n v) (matrix p n m)
  pub field : FieldRow p n r

pub combining_end : (p n : ℕ) (v : List ℕ) (m : Array) (r : List ℕ) → Combining p n n v m r → Combination p n v m r
unfolding combine
combining_end p n v m r x = record { is = fun_ext x.sum_is; field = x.field }

-- - e_a
abbrev pub opposite_unit : (p a : ℕ) → Vector (modulo p)
opposite_unit p a = taken (modulo p) (delta (modulo p) a) (modulo p).one

module _ (p n : ℕ) (h : 0 < p) (o : n ≤ order_limit) (m : Array) (f : FieldMatrix p n m) where
  -- a row of m and k times z
  sum_at : (i j k : ℕ) (z : List ℕ) → i < n → vector p n (plus_row p order_limit (get_or m i []) k z) j ≡ (modulo p).plus (matrix p n m i j) ((modulo p).times (residue p k) (vector p n z j))
  sum_at i j k z l = plus_row_vector p n (get_or m i []) k z h o j ∙ ap (λ y. (modulo p).plus y ((modulo p).times (residue p k) (vector p n z j))) (row_vector p n m i j l)

  sum_field : (i k : ℕ) (z : List ℕ) → i < n → FieldRow p n z → FieldRow p n (plus_row p order_limit (get_or m i []) k z)
  sum_field i k z l g = plus_row_field p n (get_or m i []) k z h o (field_row p n m i l f) g

  pub column_added : (a : ℕ) (v : List ℕ) → a < n → FieldRow p n v → ColumnsChanged p n (delta (modulo p) a) (vector p n v) m (filled n (λ i. columns_rule p a v i (get_or m i [])) m)
  column_added a v l g = record {
    is = overwritten_matrix n (λ i. columns_rule p a v i (get_or m i [])) m p _ (product_within (modulo p) n _ _ (matrix_within p n m) (elementary_within (modulo p) n _ _ (delta_upto (modulo p) n a l) (vector_upto p n v))) (λ i j q e.
        sum_at i j (cell m i a) v q ∙ ap (λ y. (modulo p).plus (matrix p n m i j) ((modulo p).times y (vector p n v j))) (sym (matrix_inside p n m i a q l) ∙ ap (λ (y : Vector (modulo p)). y i) (sym (apply_delta (modulo p) n (matrix p n m) a l)))
        ∙ sym (product_elementary_at (modulo p) n (matrix p n m) (delta (modulo p) a) (vector p n v) (matrix_within p n m) i j));
    field = overwritten_field n _ m p f (λ i q. sum_field i (cell m i a) v q g);
  }

  pub row_added : (s : ℕ) (c : List ℕ) → s < n → RowsChanged p n (vector p n c) (delta (modulo p) s) m (filled n (λ i. rows_rule p c (get_or m s []) i (get_or m i [])) m)
  row_added s c l = record {
    is = overwritten_matrix n (λ i. rows_rule p c (get_or m s []) i (get_or m i [])) m p _ (product_within (modulo p) n _ _ (elementary_within (modulo p) n _ _ (vector_upto p n c) (delta_upto (modulo p) n s l)) (matrix_within p n m)) (λ i j q e.
        sum_at i j (get_or c i 0) (get_or m s []) q ∙ ap₂ (λ y z. (modulo p).plus (matrix p n m i j) ((modulo p).times y z)) (sym (vector_inside p n c i q)) (row_vector p n m s j l ∙ sym (combine_delta (modulo p) n s (matrix p n m) j l))
        ∙ sym (elementary_product_at (modulo p) n (matrix p n m) (vector p n c) (delta (modulo p) s) (matrix_within p n m) i j));
    field = overwritten_field n _ m p f (λ i q. sum_field i (get_or c i 0) (get_or m s []) q (field_row p n m s l f));
  }

  -- the combination v m is taken from row a
  module _ (a : ℕ) (v y : List ℕ) (l : a < n) (tall : length m ≡ order_limit) (c : Combination p n v m y) where
    taken_row : List ℕ
    taken_row = plus_row p order_limit (get_or m a []) (p - 1) y

    row_same : get_or (set m a taken_row) a [] ≡ taken_row
    row_same = get_or-set_same m a taken_row [] (omega arith)

    row_other : (i : ℕ) → a ≢ i → get_or (set m a taken_row) i [] ≡ get_or m i []
    row_other i d = get_or-set_other m a i taken_row [] (λ q. d (sym q))

    once : residue p (p - 1) ≡ opposite_unit p a a
    once = sym (times_one (modulo p) _) ∙ minus_one_times p _ h ∙ ap (modulo p).minus (sym (ap (λ t. (modulo p).times t (modulo p).one) (delta_same (modulo p) a) ∙ times_one (modulo p) _))

    taken_at : (i j : ℕ) → i < n → vector p n (get_or (set m a taken_row) i []) j ≡ (modulo p).plus (matrix p n m i j) ((modulo p).times (opposite_unit p a i) (combine (modulo p) n (vector p n v) (matrix p n m) j))
    unfolding taken_row
    taken_at i j q = elim (ℕ_discrete a i) [
      | yes d ↦ subst (λ (t : ℕ). vector p n (get_or (set m a taken_row) t []) j ≡ (modulo p).plus (matrix p n m t j) ((modulo p).times (opposite_unit p a t) (combine (modulo p) n (vector p n v) (matrix p n m) j))) d
          (ap (λ (t : List ℕ). vector p n t j) row_same ∙ sum_at a j (p - 1) y l ∙ ap₂ (λ t (w : Vector (modulo p)). (modulo p).plus (matrix p n m a j) ((modulo p).times t (w j))) once c.is)
      | no d ↦ ap (λ (t : List ℕ). vector p n t j) (row_other i d) ∙ row_vector p n m i j q ∙ sym (plus_zero_times (modulo p) _ _ _ (taken_zero (modulo p) (delta (modulo p) a) (modulo p).one i (delta_other (modulo p) a i d)))
    ]

    taken_field : (i : ℕ) → i < n → FieldRow p n (get_or (set m a taken_row) i [])
    unfolding taken_row
    taken_field i q = elim (ℕ_discrete a i) [
      | yes d ↦ subst (λ (t : ℕ). FieldRow p n (get_or (set m a taken_row) t [])) d (rw row_same (sum_field a (p - 1) y l c.field))
      | no d ↦ rw (row_other i d) (field_row p n m i q f)
    ]

    pub row_taken : RowsChanged p n (opposite_unit p a) (vector p n v) m (set m a (plus_row p order_limit (get_or m a []) (p - 1) y))
    unfolding taken_row
    row_taken = record {
      is = matrix_of_rows p n _ _ (product_within (modulo p) n _ _ (elementary_within (modulo p) n _ _ (λ i q. taken_zero (modulo p) (delta (modulo p) a) (modulo p).one i (delta_upto (modulo p) n a l i q)) (vector_upto p n v)) (matrix_within p n m)) (λ i j q d.
          taken_at i j q ∙ sym (elementary_product_at (modulo p) n (matrix p n m) _ (vector p n v) (matrix_within p n m) i j));
      field = field_of_rows p n m _ f taken_field (λ i q. row_other i (omega arith));
    }
