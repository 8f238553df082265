-- The inverse of a field matrix, by elimination on M and S with S A = M: what each step needs and keeps, and what the answer is.
use Rattle.std.specs.Prelude.{◌≡◌, refl, ◌≢◌, Option, Some, None, MatchOption, IfSome, List, ℕ, ◌+◌, ◌*◌, ◌-◌, ◌%◌, ◌≤◌, ◌<◌, get_or}
use Rattle.std.proofs.Common.{sym, ◌∙◌, ap, ap₂, add-one, mod-lt, le_antisymm, arith}
use Rattle.std.proofs.Math.Decide.{ℕ_discrete}
use Rattle.forms.specs.Numbers.{order_limit}
use Rattle.forms.specs.Reciprocals.{InverseOf}
use Rattle.algebra.specs.Ring.{zero_plus, one_times}
use Rattle.algebra.specs.Sum.{delta, delta_same, delta_symmetric}
use Rattle.algebra.specs.Matrix.{Matrix, Within, product, identity}
use Rattle.algebra.specs.Inverse.{Inverse, inverse_unique}
use Rattle.algebra.specs.Elimination.{Eliminated, eliminated_start, eliminated_step, eliminated_column, eliminated_end, eliminated_none, Placed, place_factor, placed, place_unit}
use Rattle.algebra.specs.Modular.{residue, modulo, residue_zero, residue_one, residue_minus, residue_times, residue_remainder, zero_residue, Prime, positive, one_is_not_zero}
use Rattle.algebra.specs.PrimeField.{prime_domain}
use Rattle.algebra.specs.OneSided.{inverse_of_right}
use Rattle.matrices.specs.Matrices.{cell, matrix, matrix_inside, matrix_within, FieldMatrix, Square, field_matrix_determined}
use Rattle.matrices.specs.Rows.{residue_plus_multiple, unit_row, unit_row_at, IsIdentity}
use Rattle.inversion.specs.RowAddition.{RowAdded}

-- no X has X A = E
abbrev pub NoInverse : ℕ → ℕ → List (List ℕ) → Type 0
NoInverse p n a = (X : Matrix (modulo p)) → ¬ (product (modulo p) n X (matrix p n a) ≡ identity (modulo p) n)

-- r is the inverse of a
pub record InverseIs (p n : ℕ) (a r : List (List ℕ)) : Type 0 where
  pub field : FieldMatrix p n r
  pub inverse : Inverse (modulo p) n (matrix p n a) (matrix p n r)

-- r is the inverse of a, or a has none
abbrev pub Inverted : ℕ → ℕ → List (List ℕ) → Option (List (List ℕ)) → Type 0
Inverted p n a r = MatchOption r (NoInverse p n a) (InverseIs p n a)

-- any two answers are the same, byte by byte
pub inverted_determined : (p n : ℕ) (a : List (List ℕ)) (r s : Option (List (List ℕ))) → IfSome r Square → IfSome s Square → Inverted p n a r → Inverted p n a s → r ≡ s
inverted_determined p n a None None u v x y = refl
inverted_determined p n a None (Some s) u v x y = absurd (x (matrix p n s) y.inverse.left)
inverted_determined p n a (Some r) None u v x y = absurd (y (matrix p n r) x.inverse.left)
inverted_determined p n a (Some r) (Some s) u v x y = ap Some (field_matrix_determined p n r s u v x.field y.field
    (inverse_unique (modulo p) n (matrix p n a) (matrix p n r) (matrix p n s) x.inverse.inverse_within y.inverse.inverse_within x.inverse.right y.inverse.left))

-- over a prime there is then no right inverse either
pub no_right_inverse : (p n : ℕ) (a : List (List ℕ)) → Prime p → NoInverse p n a
    → (X : Matrix (modulo p)) → Within (modulo p) n X → ¬ (product (modulo p) n (matrix p n a) X ≡ identity (modulo p) n)
no_right_inverse p n a P h X w e = h X (inverse_of_right (modulo p) (prime_domain p P) n (matrix p n a) X (matrix_within p n a) w e).left

-- m and s after j columns
pub record Eliminating (p n j : ℕ) (a m s : List (List ℕ)) : Type 0 where
  pub field : FieldMatrix p n s
  pub state : Eliminated (modulo p) n j (matrix p n a) (matrix p n m) (matrix p n s)

pub eliminating_start : (p n : ℕ) (a e : List (List ℕ)) → 1 < p → IsIdentity n e → Eliminating p n 0 a a e
eliminating_start p n a e h i = record { field = i.field p h; state = rw (i.is p) (eliminated_start (modulo p) n (matrix p n a) (matrix_within p n a)) }

-- the first row from j on whose entry in column j is not zero
pub record Pivot (p n j : ℕ) (m : List (List ℕ)) (q : ℕ) : Type 0 where
  pub low : j ≤ q
  pub high : q < n
  pub zeros : (i : ℕ) → j ≤ i → i < q → cell m i j % p ≡ 0
  pub hit : cell m q j % p ≢ 0

-- that row, if there is one
abbrev pub Pivoted : ℕ → ℕ → ℕ → List (List ℕ) → Option ℕ → Type 0
Pivoted p n j m r = MatchOption r ((i : ℕ) → j ≤ i → i < n → cell m i j % p ≡ 0) (Pivot p n j m)

pub pivoted : (p n j : ℕ) (m : List (List ℕ)) (r : Option ℕ) → MatchOption r ((i : ℕ) → j ≤ i → i < n → cell m i j % p ≡ 0)
    (λ q. (j ≤ q) × (q < n) × (cell m q j % p ≢ 0) × ((i : ℕ) → j ≤ i → i < q → cell m i j % p ≡ 0)) → Pivoted p n j m r
pivoted p n j m None h = h
pivoted p n j m (Some q) h = record { low = h.0; high = h.1; zeros = h.3; hit = h.2 }

pub eliminating_none : (p n j : ℕ) (a m s : List (List ℕ)) → Prime p → j < n → Pivoted p n j m None → Eliminating p n j a m s → Inverted p n a None
eliminating_none p n j a m s P l o x = eliminated_none (modulo p) n j (matrix p n a) (matrix p n m) (matrix p n s) (one_is_not_zero p P) l (matrix_within p n a)
    (λ i b c. matrix_inside p n m i j c l ∙ zero_residue p _ (positive p P) (o i b c)) x.state

pub eliminating_end : (p n j : ℕ) (a m s : List (List ℕ)) → j ≤ n → n ≤ j → Eliminating p n j a m s → Inverted p n a (Some s)
eliminating_end p n j a m s l g x = record {
  field = x.field;
  inverse = eliminated_end (modulo p) n (matrix p n a) (matrix p n m) (matrix p n s) (matrix_within p n a) (matrix_within p n m) (rw (le_antisymm l g) at x.state);
}

-- before a multiple of row `from` makes the entry (i, j) that of E: d is the reciprocal of the entry (from, j), and only row j is ever multiplied
pub record PlaceReady (p n i j from d : ℕ) (m : List (List ℕ)) : Type 0 where
  pub row : i < n
  pub column : j < n
  pub source : from < n
  pub reached : j ≤ from
  pub own : i ≡ from → i ≡ j
  pub reciprocal : (modulo p).times (matrix p n m from j) (residue p d) ≡ (modulo p).one

-- after it: m and s have become u and v
pub record PlacedIn (p n i j : ℕ) (m s u v : List (List ℕ)) : Type 0 where
  pub placed : Placed (modulo p) n i j (matrix p n m) (matrix p n u)
  pub keeps : (a : List (List ℕ)) → Eliminating p n j a m s → Eliminating p n j a u v

module _ (p n i j from d : ℕ) (m : List (List ℕ)) (upto : n ≤ order_limit) (positive : 0 < p) (h : PlaceReady p n i j from d m) where
  open modulo p use {plus as ◌⊕◌, times as ◌⊗◌, minus as ⊖◌, zero as 𝟘, one as 𝟙}

  infixl 60 ◌⊕◌
  infixl 70 ◌⊗◌
  infix 80 ⊖◌
  abbrev M : Matrix (modulo p)
  M = matrix p n m

  difference_is : (y : ℕ) → y ≡ (p - cell m i j % p + 1 * get_or (unit_row j) i 0) % p → residue p y ≡ ⊖ M i j ⊕ delta (modulo p) i j
  difference_is y e =
      let l : cell m i j % p < p = mod-lt _ positive in
      ap (residue p) e ∙ residue_plus_multiple p _ 1 _ positive
      ∙ ap₂ ◌⊕◌
      (residue_minus p (cell m i j % p) (omega arith) positive ∙ ap ⊖◌ (residue_remainder p _ positive ∙ sym (matrix_inside p n m i j h.row h.column)))
      (ap₂ ◌⊗◌ (residue_one p) (unit_row_at j (omega (arith, h.column, upto)) p i ∙ delta_symmetric (modulo p) j i) ∙ one_times (modulo p) _)

  factor_is : (y k : ℕ) → y ≡ (p - cell m i j % p + 1 * get_or (unit_row j) i 0) % p → k ≡ (0 + y * d) % p → residue p k ≡ place_factor (modulo p) n i j (residue p d) M
  factor_is y k e f =
      ap (residue p) f ∙ residue_plus_multiple p 0 y d positive ∙ ap (λ x. x ⊕ residue p y ⊗ residue p d) (residue_zero p) ∙ zero_plus (modulo p) _
      ∙ ap (λ x. x ⊗ residue p d) (difference_is y e)

  pub placed_in : (s u v : List (List ℕ)) (e : List ℕ) (y k : ℕ) → e ≡ unit_row j → y ≡ (p - cell m i j % p + 1 * get_or e i 0) % p → k ≡ (0 + y * d) % p
      → RowAdded p n i k from m u → RowAdded p n i k from s v → PlacedIn p n i j m s u v
  placed_in s u v e y k g o f b c =
      let c_is = factor_is y k (rw g at o) f in
      let unit = place_unit (modulo p) n i j from (residue p d) M h.own h.reciprocal in
      record {
        placed = rw (b.is, c_is) (placed (modulo p) n i j from (residue p d) M h.source (matrix_within p n m) h.reciprocal);
        keeps = λ a x. record {
          field = c.field x.field;
          state = rw (b.is, c.is, c_is) (eliminated_step (modulo p) n j i (place_factor (modulo p) n i j (residue p d) M) from unit.0 (matrix p n a) M (matrix p n s)
              h.row h.source h.reached (matrix_within p n m) unit.1 x.state);
        };
      }

-- while column j is cleared, from m and s to u and v: its entries above row i are those of E, and so is the one in row j
pub record Clearing (p n j i : ℕ) (m s u v : List (List ℕ)) : Type 0 where
  pub pivot : matrix p n u j j ≡ (modulo p).one
  pub done : (t : ℕ) → t < i → matrix p n u t j ≡ delta (modulo p) t j
  pub keeps : (a : List (List ℕ)) → Eliminating p n j a m s → Eliminating p n j a u v

pub clearing_start : (p n j : ℕ) (m s u v : List (List ℕ)) → PlacedIn p n j j m s u v → Clearing p n j 0 u v u v
clearing_start p n j m s u v x = record { pivot = x.placed.entry ∙ delta_same (modulo p) j; done = λ t l. absurd (omega arith); keeps = λ a y. y }

pub clearing_ready : (p n j i : ℕ) (m s u v : List (List ℕ)) → j < n → i < n → Clearing p n j i m s u v → PlaceReady p n i j j 1 u
clearing_ready p n j i m s u v l g x = record {
  row = g;
  column = l;
  source = l;
  reached = omega arith;
  own = λ e. e;
  reciprocal = ap₂ (modulo p).times x.pivot (residue_one p) ∙ one_times (modulo p) _;
}

pub clearing_turn : (p n j i : ℕ) (m s u v y z : List (List ℕ)) → Clearing p n j i m s u v → PlacedIn p n i j u v y z → Clearing p n j (i + 1) m s y z
clearing_turn p n j i m s u v y z x q = record {
  pivot = elim (ℕ_discrete j i) [ yes e ↦ rw (sym e) at q.placed.entry ∙ delta_same (modulo p) j | no o ↦ q.placed.others j j o ∙ x.pivot ];
  done = λ t l. elim (ℕ_discrete t i) [ yes e ↦ rw e q.placed.entry | no o ↦ q.placed.others t j o ∙ x.done t (omega arith) ];
  keeps = λ a w. q.keeps a (x.keeps a w);
}

-- a pivot of column j, at row q
pub record PivotReady (p n j q : ℕ) (m : List (List ℕ)) : Type 0 where
  pub low : j ≤ q
  pub high : q < n
  pub hit : cell m q j % p ≢ 0

pub pivot_ready : (p n j q d : ℕ) (m : List (List ℕ)) → 0 < p → PivotReady p n j q m → InverseOf p (cell m q j % p) d → PlaceReady p n j j q d m
pivot_ready p n j q d m positive h r = record {
  row = omega (arith, h.low, h.high);
  column = omega (arith, h.low, h.high);
  source = h.high;
  reached = h.low;
  own = λ e. refl;
  reciprocal =
      ap (λ x. (modulo p).times x (residue p d)) (matrix_inside p n m q j h.high (omega (arith, h.low, h.high)) ∙ sym (residue_remainder p _ positive))
      ∙ sym (residue_times p _ d) ∙ sym (residue_remainder p _ positive) ∙ ap (residue p) (r.of_other (omega (arith, h.hit))) ∙ residue_one p;
}

-- column j is that of E
pub record Cleared (p n j : ℕ) (m s u v : List (List ℕ)) : Type 0 where
  pub keeps : (a : List (List ℕ)) → Eliminating p n j a m s → Eliminating p n (j + 1) a u v

pub clearing_end : (p n j i : ℕ) (m s u v y z : List (List ℕ)) → n ≤ i → PlacedIn p n j j m s u v → Clearing p n j i u v y z → Cleared p n j m s y z
clearing_end p n j i m s u v y z l q x = record {
  keeps = λ a w. let state = x.keeps a (q.keeps a w) in
      record { field = state.field; state = rw (add-one j) (eliminated_column (modulo p) n j (matrix p n a) (matrix p n y) (matrix p n z) (λ t g. x.done t (omega arith)) state.state) };
}
