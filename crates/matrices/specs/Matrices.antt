-- Field matrices by value: lists of rows as vectors and matrices modulo p, and which lists are field matrices of order n.
use Rattle.std.specs.Prelude.{◌≡◌, refl, List, [], ℕ, ◌≤◌, ◌<◌, length, get_or, replicate}
use Rattle.std.proofs.Common.{sym, ◌∙◌, ap, arith, ext_get_or}
use Rattle.std.proofs.Math.Decide.{dec_lt}
use Rattle.std.proofs.lemmas.List.{get_or-replicate, length-replicate}
use Rattle.std.proofs.Math.ListN.{get_or-eq_default}
use Rattle.forms.specs.Numbers.{order_limit}
use Rattle.forms.specs.Rings.{field, field_inside, field_within}
use Rattle.algebra.specs.Choice.{below, below_inside, below_outside}
use Rattle.algebra.specs.Matrix.{Matrix, Vector, Within, Upto, matrix_equal, matrix_zero}
use Rattle.algebra.specs.Modular.{residue, residue_injective, residue_zero, modulo}
use Rattle.matrices.specs.Filling.{filled, filled_inside, filled_outside}

-- the entry (i, j); 0 past the end
abbrev pub cell : List (List ℕ) → ℕ → ℕ → ℕ
cell m i j = get_or (get_or m i []) j 0

-- the first n entries modulo p, and zero from n on
unfoldable pub vector : (p n : ℕ) → List ℕ → Vector (modulo p)
vector p n v i = below n i (residue p (get_or v i 0)) (modulo p).zero

unfoldable pub matrix : (p n : ℕ) → List (List ℕ) → Matrix (modulo p)
matrix p n m = field p n (cell m)

pub vector_inside : (p n : ℕ) (v : List ℕ) (i : ℕ) → i < n → vector p n v i ≡ residue p (get_or v i 0)
unfolding vector
vector_inside p n v i l = below_inside n i _ _ l

pub vector_upto : (p n : ℕ) (v : List ℕ) → Upto (modulo p) n (vector p n v)
unfolding vector
vector_upto p n v i l = below_outside n i _ _ l

pub matrix_inside : (p n : ℕ) (m : List (List ℕ)) (i j : ℕ) → i < n → j < n → matrix p n m i j ≡ residue p (cell m i j)
unfolding matrix
matrix_inside p n m = field_inside p n (cell m)

pub matrix_within : (p n : ℕ) (m : List (List ℕ)) → Within (modulo p) n (matrix p n m)
unfolding matrix
matrix_within p n m = field_within p n (cell m)

-- a matrix of order n is known by its entries
pub matrix_is : (p n : ℕ) (m : List (List ℕ)) (M : Matrix (modulo p)) → Within (modulo p) n M → ((i j : ℕ) → i < n → j < n → residue p (cell m i j) ≡ M i j) → matrix p n m ≡ M
matrix_is p n m M w h = matrix_equal (modulo p) n _ M (matrix_within p n m) w (λ i j l g. matrix_inside p n m i j l g ∙ h i j l g)

-- n residues, and zeros behind them
pub record FieldRow (p n : ℕ) (v : List ℕ) : Type 0 where
  pub small : (j : ℕ) → j < n → get_or v j 0 < p
  pub rest : (j : ℕ) → n ≤ j → get_or v j 0 ≡ 0

-- n rows of n residues, with rows and columns from n on zero
pub record FieldMatrix (p n : ℕ) (m : List (List ℕ)) : Type 0 where
  pub small : (i j : ℕ) → i < n → j < n → cell m i j < p
  pub rows : (i j : ℕ) → n ≤ i → cell m i j ≡ 0
  pub columns : (i j : ℕ) → n ≤ j → cell m i j ≡ 0

-- the type of an array of arrays, as a fact of its list
pub record Square (m : List (List ℕ)) : Type 0 where
  pub tall : length m ≡ order_limit
  pub wide : (i : ℕ) → i < order_limit → length (get_or m i []) ≡ order_limit

-- a field matrix is known, byte by byte, by the matrix modulo p
field_cell : (p n : ℕ) (a b : List (List ℕ)) → FieldMatrix p n a → FieldMatrix p n b → matrix p n a ≡ matrix p n b → (i j : ℕ) → cell a i j ≡ cell b i j
field_cell p n a b x y e i j = elim (dec_lt i n) [
  | yes l ↦ elim (dec_lt j n) [
    | yes g ↦ residue_injective p _ _ (x.small i j l g) (y.small i j l g) (sym (matrix_inside p n a i j l g) ∙ ap (λ (M : Matrix (modulo p)). M i j) e ∙ matrix_inside p n b i j l g)
    | no g ↦ x.columns i j (omega arith) ∙ sym (y.columns i j (omega arith))
  ]
  | no l ↦ x.rows i j (omega arith) ∙ sym (y.rows i j (omega arith))
]

pub field_matrix_determined : (p n : ℕ) (a b : List (List ℕ)) → Square a → Square b → FieldMatrix p n a → FieldMatrix p n b → matrix p n a ≡ matrix p n b → a ≡ b
field_matrix_determined p n a b s t x y e = ext_get_or [] a b (s.tall ∙ sym t.tall) (λ i l.
    ext_get_or 0 (get_or a i []) (get_or b i []) (s.wide i (omega (arith, s.tall)) ∙ sym (t.wide i (omega (arith, s.tall)))) (λ j g. field_cell p n a b x y e i j))

-- what [0u8; ORDER] and [[0u8; ORDER]; ORDER] are
abbrev pub zero_row : List ℕ
zero_row = replicate order_limit 0

abbrev pub zero_rows : List (List ℕ)
zero_rows = replicate order_limit zero_row

zeros_at : (n i : ℕ) → ◌≡◌ {A = ℕ} (get_or (replicate n 0) i 0) 0
zeros_at n i = elim (dec_lt i n) [ yes l ↦ get_or-replicate {A = ℕ} n i 0 0 l | no l ↦ get_or-eq_default (replicate n 0) 0 (omega (arith, length-replicate {A = ℕ} n 0)) ]

pub zero_row_at : (i : ℕ) → get_or zero_row i 0 ≡ 0
zero_row_at = zeros_at order_limit

pub zero_rows_at : (i j : ℕ) → cell zero_rows i j ≡ 0
zero_rows_at i j = elim (dec_lt i order_limit) [
  | yes l ↦ ap (λ (v : List ℕ). get_or v j 0) (get_or-replicate order_limit i zero_row [] l) ∙ zero_row_at j
  | no l ↦ ap (λ (v : List ℕ). get_or v j 0) (get_or-eq_default zero_rows [] {n = i} (omega (arith, length-replicate order_limit zero_row)))
]

pub matrix_of_zeros : (p n : ℕ) (m : List (List ℕ)) → ((i j : ℕ) → i < n → j < n → cell m i j ≡ 0) → matrix p n m ≡ matrix_zero (modulo p)
unfolding matrix_zero
matrix_of_zeros p n m h = matrix_is p n m (matrix_zero (modulo p)) (record { rows = λ i j l. refl; columns = λ i j l. refl }) (λ i j l g. ap (residue p) (h i j l g) ∙ residue_zero p)

pub zero_rows_field : (p n : ℕ) → 0 < p → FieldMatrix p n zero_rows
zero_rows_field p n h = record { small = λ i j l g. rw (zero_rows_at i j) h; rows = λ i j l. zero_rows_at i j; columns = λ i j l. zero_rows_at i j }

-- a row of n residues filled into zeros, and a matrix of n such rows
pub filled_row : (p n : ℕ) (f : ℕ → ℕ) → ((j : ℕ) → j < n → f j < p) → FieldRow p n (filled n f zero_row)
filled_row p n f h = record {
  small = λ j l. rw (filled_inside n f zero_row 0 j l) (h j l);
  rest = λ j l. filled_outside n f zero_row 0 j l ∙ zero_row_at j;
}

pub filled_cell : (n : ℕ) (f : ℕ → List ℕ) (i j : ℕ) → i < n → cell (filled n f zero_rows) i j ≡ get_or (f i) j 0
filled_cell n f i j l = ap (λ (v : List ℕ). get_or v j 0) (filled_inside n f zero_rows [] i l)

filled_cell_outside : (n : ℕ) (f : ℕ → List ℕ) (i j : ℕ) → n ≤ i → cell (filled n f zero_rows) i j ≡ 0
filled_cell_outside n f i j l = ap (λ (v : List ℕ). get_or v j 0) (filled_outside n f zero_rows [] i l) ∙ zero_rows_at i j

pub filled_field : (p n : ℕ) (f : ℕ → List ℕ) → ((i : ℕ) → i < n → FieldRow p n (f i)) → FieldMatrix p n (filled n f zero_rows)
filled_field p n f h = record {
  small = λ i j l g. rw (filled_cell n f i j l) ((h i l).small j g);
  rows = filled_cell_outside n f;
  columns = λ i j l. elim (dec_lt i n) [ yes g ↦ filled_cell n f i j g ∙ (h i g).rest j l | no g ↦ filled_cell_outside n f i j (omega arith) ];
}
