-- The state in code: B, T and the inverse of T, field matrices by value, as a frame modulo p.
use Rattle.std.specs.Prelude.{◌≡◌, ◌≢◌, List, [], ℕ, ◌+◌, ◌*◌, ◌%◌, ◌≤◌, ◌<◌, T, get_or, set}
use Rattle.std.proofs.Common.{sym, ◌∙◌, ap, ap₂, mod-lt, mod-eq_of_lt, zero-add, mul-zero, arith, get_or-set_same, get_or-set_other}
use Rattle.std.proofs.Math.Path.{fun_ext}
use Rattle.std.proofs.Math.Nat.{zero-mod}
use Rattle.std.proofs.Math.Decide.{dec_lt, ℕ_discrete}
use Rattle.std.proofs.lemmas.List.{length-replicate}
use Rattle.forms.specs.Numbers.{prime, order_limit}
use Rattle.algebra.specs.Ring.{zero_plus, times_zero, times_one}
use Rattle.algebra.specs.Sum.{delta, delta_same, delta_other}
use Rattle.algebra.specs.Matrix.{Matrix, Within}
use Rattle.algebra.specs.Modular.{residue, modulo, residue_zero, residue_is_zero, one_is_not_zero}
use Rattle.matrices.specs.Filling.{filled_inside, filled_outside}
use Rattle.forms.specs.Primes.{prime_means}
use Rattle.matrices.specs.Matrices.{cell, vector, matrix, vector_inside, vector_upto, matrix_inside, matrix_within, matrix_is, FieldRow, FieldMatrix, Square, zero_row, zero_row_at}
use Rattle.matrices.specs.Rows.{plus_row, residue_plus_multiple, unit_row, unit_row_at}
use Rattle.basis.specs.Frame.{Frame, FrameWithin}
use Rattle.basis.specs.declared.steps.State.{State}

abbrev pub Array : Type 0
Array = List (List ℕ)

abbrev pub frame : (p n : ℕ) → State → Frame (modulo p)
frame p n s = record { B = matrix p n s.b; T = matrix p n s.t; I = matrix p n s.back }

pub frame_within : (p n : ℕ) (s : State) → FrameWithin (modulo p) n (frame p n s)
frame_within p n s = record { B = matrix_within p n _; T = matrix_within p n _; I = matrix_within p n _ }

-- the three are field matrices
pub record Fields (p n : ℕ) (s : State) : Type 0 where
  pub B : FieldMatrix p n s.b
  pub T : FieldMatrix p n s.t
  pub I : FieldMatrix p n s.back

-- what every step is given: an order, a prime, a window [0,k) and a state
pub record Given (p n k : ℕ) (s : State) : Type 0 where
  pub order : n ≤ order_limit
  pub fits : k ≤ n
  pub prime_p : T (prime p)
  pub fields : Fields p n s

pub prime_distinct : (p : ℕ) → T (prime p) → (modulo p).one ≢ (modulo p).zero
prime_distinct p h = one_is_not_zero p (prime_means p h)

-- the same for the whole order, and for the state after a step
pub given_whole : {p n k : ℕ} {s : State} → Given p n k s → Given p n n s
given_whole g = record { order = g.order; fits = omega arith; prime_p = g.prime_p; fields = g.fields }

pub given_next : {p n k : ℕ} {s r : State} → Given p n k s → Fields p n r → Given p n k r
given_next g f = record { order = g.order; fits = g.fits; prime_p = g.prime_p; fields = f }

-- the type of a state, as a fact of its lists
pub record Squares (s : State) : Type 0 where
  pub B : Square s.b
  pub T : Square s.t
  pub I : Square s.back

pub zero_entry : (p n : ℕ) (b : Array) (i j : ℕ) → i < n → j < n → cell b i j ≡ 0 → matrix p n b i j ≡ (modulo p).zero
zero_entry p n b i j l g e = matrix_inside p n b i j l g ∙ ap (residue p) e ∙ residue_zero p

entry_zero : (p n : ℕ) (b : Array) (i j : ℕ) → FieldMatrix p n b → i < n → j < n → matrix p n b i j ≡ (modulo p).zero → cell b i j ≡ 0
entry_zero p n b i j f l g e = sym (mod-eq_of_lt (f.small i j l g)) ∙ residue_is_zero p _ (omega (arith, f.small i j l g)) (sym (matrix_inside p n b i j l g) ∙ e)

pub entry_nonzero : (p n : ℕ) (b : Array) (i j : ℕ) → FieldMatrix p n b → i < n → j < n → cell b i j ≢ 0 → matrix p n b i j ≢ (modulo p).zero
entry_nonzero p n b i j f l g h e = h (entry_zero p n b i j f l g e)

pub nonzero_entry : (p n : ℕ) (b : Array) (i j : ℕ) → i < n → j < n → matrix p n b i j ≢ (modulo p).zero → cell b i j ≢ 0
nonzero_entry p n b i j l g h e = h (zero_entry p n b i j l g e)

-- the vectors that the code makes
pub unit_vector : (p n s : ℕ) → n ≤ order_limit → s < n → vector p n (unit_row s) ≡ delta (modulo p) s
unit_vector p n s h l = fun_ext (λ i. elim (dec_lt i n) [
  | yes g ↦ vector_inside p n (unit_row s) i g ∙ unit_row_at s (omega arith) p i
  | no g ↦ vector_upto p n (unit_row s) i (omega arith) ∙ sym (delta_other (modulo p) s i (omega arith))
])

module _ (p n : ℕ) (x : List ℕ) (k : ℕ) (y : List ℕ) (h : 0 < p) (o : n ≤ order_limit) where
  plus_row_at : (i : ℕ) → i < order_limit → get_or (plus_row p order_limit x k y) i 0 ≡ (get_or x i 0 + k * get_or y i 0) % p
  plus_row_at i l = filled_inside order_limit (λ j. (get_or x j 0 + k * get_or y j 0) % p) zero_row 0 i l

  pub plus_row_vector : (i : ℕ) → vector p n (plus_row p order_limit x k y) i ≡ (modulo p).plus (vector p n x i) ((modulo p).times (residue p k) (vector p n y i))
  plus_row_vector i = elim (dec_lt i n) [
    | yes l ↦ vector_inside p n (plus_row p order_limit x k y) i l ∙ ap (residue p) (plus_row_at i (omega arith)) ∙ residue_plus_multiple p _ k _ h
        ∙ ap₂ (λ a b. (modulo p).plus a ((modulo p).times (residue p k) b)) (sym (vector_inside p n x i l)) (sym (vector_inside p n y i l))
    | no l ↦ vector_upto p n (plus_row p order_limit x k y) i (omega arith)
        ∙ sym (ap₂ (λ a b. (modulo p).plus a ((modulo p).times (residue p k) b)) (vector_upto p n x i (omega arith)) (vector_upto p n y i (omega arith)) ∙ ap ((modulo p).plus (modulo p).zero) (times_zero (modulo p) _) ∙ zero_plus (modulo p) _)
  ]

  -- zeros stay zeros
  pub plus_row_field : FieldRow p n x → FieldRow p n y → FieldRow p n (plus_row p order_limit x k y)
  plus_row_field f g = record {
    small = λ j l. rw (plus_row_at j (omega arith)) (mod-lt _ h);
    rest = λ j l. elim (dec_lt j order_limit) [
      | yes q ↦ plus_row_at j q ∙ ap₂ (λ (a b : ℕ). (a + k * b) % p) (f.rest j l) (g.rest j l) ∙ ap (λ (z : ℕ). z % p) (zero-add _ ∙ mul-zero k) ∙ zero-mod p
      | no q ↦ filled_outside order_limit _ zero_row 0 j (omega arith) ∙ zero_row_at j
    ];
  }

pub zero_vector : (p n i : ℕ) → vector p n zero_row i ≡ (modulo p).zero
zero_vector p n i = elim (dec_lt i n) [ yes l ↦ vector_inside p n zero_row i l ∙ ap (residue p) (zero_row_at i) ∙ residue_zero p | no l ↦ vector_upto p n zero_row i (omega arith) ]

-- x e_s
pub single_vector : (p n s x : ℕ) → n ≤ order_limit → s < n → (i : ℕ) → vector p n (set zero_row s x) i ≡ (modulo p).times (residue p x) (delta (modulo p) s i)
single_vector p n s x h l i = elim (ℕ_discrete i s) [
  | yes e ↦ rw e (vector_inside p n (set zero_row s x) s l ∙ ap (residue p) (get_or-set_same zero_row s x 0 (omega (arith, length-replicate {A = ℕ} order_limit 0))) ∙ sym (ap ((modulo p).times (residue p x)) (delta_same (modulo p) s) ∙ times_one (modulo p) _))
  | no o ↦ elim (dec_lt i n) [
    | yes g ↦ vector_inside p n (set zero_row s x) i g ∙ ap (residue p) (get_or-set_other zero_row s i x 0 o ∙ zero_row_at i) ∙ residue_zero p
    | no g ↦ vector_upto p n (set zero_row s x) i (omega arith)
  ] ∙ sym (ap ((modulo p).times (residue p x)) (delta_other (modulo p) s i (λ e. o (sym e))) ∙ times_zero (modulo p) _)
]

-- a row of a matrix, and a column
pub row_vector : (p n : ℕ) (m : Array) (i j : ℕ) → i < n → vector p n (get_or m i []) j ≡ matrix p n m i j
row_vector p n m i j l = elim (dec_lt j n) [
  | yes g ↦ vector_inside p n (get_or m i []) j g ∙ sym (matrix_inside p n m i j l g)
  | no g ↦ vector_upto p n (get_or m i []) j (omega arith) ∙ sym ((matrix_within p n m).columns i j (omega arith))
]

pub column_vector : (p n j : ℕ) (m : Array) (w : List ℕ) → j < n → ((i : ℕ) → i < n → get_or w i 0 ≡ cell m i j) → (i : ℕ) → vector p n w i ≡ matrix p n m i j
column_vector p n j m w l h i = elim (dec_lt i n) [
  | yes g ↦ vector_inside p n w i g ∙ ap (residue p) (h i g) ∙ sym (matrix_inside p n m i j g l)
  | no g ↦ vector_upto p n w i (omega arith) ∙ sym ((matrix_within p n m).rows i j (omega arith))
]

-- a row of residues is one up to the end of the array
pub field_row_whole : (p n : ℕ) (x : List ℕ) → 0 < p → n ≤ order_limit → FieldRow p n x → FieldRow p order_limit x
field_row_whole p n x h o f = record {
  small = λ j l. elim (dec_lt j n) [ yes g ↦ f.small j g | no g ↦ rw (f.rest j (omega arith)) h ];
  rest = λ j l. f.rest j (omega arith);
}

pub field_row : (p n : ℕ) (m : Array) (i : ℕ) → i < n → FieldMatrix p n m → FieldRow p n (get_or m i [])
field_row p n m i l f = record { small = λ j g. f.small i j l g; rest = λ j g. f.columns i j g }

-- a matrix by its rows
pub matrix_of_rows : (p n : ℕ) (m : Array) (M : Matrix (modulo p)) → Within (modulo p) n M → ((i j : ℕ) → i < n → j < n → vector p n (get_or m i []) j ≡ M i j) → matrix p n m ≡ M
matrix_of_rows p n m M w h = matrix_is p n m M w (λ i j l g. sym (vector_inside p n (get_or m i []) j g) ∙ h i j l g)

pub field_of_rows : (p n : ℕ) (m r : Array) → FieldMatrix p n m → ((i : ℕ) → i < n → FieldRow p n (get_or r i [])) → ((i : ℕ) → n ≤ i → get_or r i [] ≡ get_or m i []) → FieldMatrix p n r
field_of_rows p n m r x f e = record {
  small = λ i j l g. (f i l).small j g;
  rows = λ i j l. ap (λ (v : List ℕ). get_or v j 0) (e i l) ∙ x.rows i j l;
  columns = λ i j l. elim (dec_lt i n) [ yes g ↦ (f i g).rest j l | no g ↦ ap (λ (v : List ℕ). get_or v j 0) (e i (omega arith)) ∙ x.columns i j l ];
}
