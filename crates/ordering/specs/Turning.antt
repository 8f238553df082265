-- The state turned by a table of places: the rows of the three matrices are overwritten from the front.
use Rattle.std.specs.Prelude.{◌≡◌, refl, List, [], ℕ, ◌+◌, ◌≤◌, ◌<◌, length, get_or, set}
use Rattle.std.proofs.Common.{sym, ◌∙◌, arith}
use Rattle.std.proofs.Math.Decide.{dec_lt}
use Rattle.forms.specs.Numbers.{order_limit}
use Rattle.matrices.specs.Filling.{filled, fill_start, fill_turn, fill_end, filled_inside, filled_outside}
use Rattle.matrices.specs.Matrices.{cell, FieldRow, zero_row, zero_row_at}
use Rattle.basis.specs.Overwriting.{overwritten_cell, overwritten_field}
use Rattle.basis.specs.declared.steps.State.{State}
use Rattle.basis.specs.State.{Array, field_row}
use Rattle.ordering.specs.Orders.{Moved, RowsIn, InOrder, in_order, in_order_equal}
use Rattle.ordering.specs.Rotation.{rotation, rotation_high, rotation_none, rotation_inside}

-- a rotation that moves nothing
pub in_order_none : (n m k : ℕ) (s : State) → m ≡ k → InOrder n (rotation m k) s s
in_order_none n m k s e = in_order_equal n (λ i. i) (rotation m k) s s (λ i l. rw e (rotation_none k i)) (record { reordered = λ p. record { B = λ i j l g. refl; T = λ i j l g. refl; I = λ i j l g. refl }; fields = λ p h. h })

-- an order as a table of places: those from n on stay
abbrev pub place : List ℕ → ℕ → ℕ
place q i = get_or q i 0

pub record Places (n : ℕ) (q : List ℕ) : Type 0 where
  pub inside : (i : ℕ) → i < n → place q i < n
  pub stays : (i : ℕ) → n ≤ i → i < order_limit → place q i ≡ i

-- the table of a rotation
module _ (m k : ℕ) (l : m ≤ k) (q : List ℕ) (e : q ≡ filled order_limit (rotation m k) zero_row) where
  pub rotation_place : (i : ℕ) → i < order_limit → rotation m k i ≡ place q i
  rotation_place i h = rw e (sym (filled_inside order_limit (rotation m k) zero_row 0 i h))

  pub rotation_places : (n : ℕ) → k ≤ n → n ≤ order_limit → Places n q
  rotation_places n g o = record {
    inside = λ i h. rw (sym (rotation_place i (omega arith))) (rotation_inside n m k i l g h);
    stays = λ i h a. sym (rotation_place i a) ∙ rotation_high m k i (omega arith);
  }

-- a row's entries in that order
abbrev pub picked : List ℕ → List ℕ → List ℕ
picked q x = filled order_limit (λ j. get_or x (place q j) 0) zero_row

-- r is the state s with the first t rows in that order: B's rows and their entries, the entries of T's rows, the inverse's rows
pub record Turned (t : ℕ) (q : List ℕ) (s r : State) : Type 0 where
  pub B : r.b ≡ filled t (λ i. picked q (get_or s.b (place q i) [])) s.b
  pub T : r.t ≡ filled t (λ i. picked q (get_or s.t i [])) s.t
  pub I : r.back ≡ filled t (λ i. get_or s.back (place q i) []) s.back

pub turned_start : (q : List ℕ) (s : State) → Turned 0 q s s
turned_start q s = record { B = fill_start _ _; T = fill_start _ _; I = fill_start _ _ }

-- one turn of the loop
pub turned_turn : (t : ℕ) (q : List ℕ) (s r : State) (u v w : List ℕ) → t < length s.b → t < length s.t → t < length s.back → Turned t q s r
    → u ≡ picked q (get_or s.b (place q t) []) → v ≡ picked q (get_or s.t t []) → w ≡ get_or s.back (place q t) []
    → Turned (t + 1) q s (record { b = set r.b t u; t = set r.t t v; back = set r.back t w })
turned_turn t q s r u v w b c d x eu ev ew = record {
  B = fill_turn _ t _ b x.B eu;
  T = fill_turn _ t _ c x.T ev;
  I = fill_turn _ t _ d x.I ew;
}

-- a field matrix whose rows are overwritten so is one again
module _ (n : ℕ) (h : n ≤ order_limit) (q : List ℕ) (o : Places n q) where
  picked_row : (p : ℕ) (x : List ℕ) → FieldRow p n x → FieldRow p n (picked q x)
  picked_row p x f = record {
    small = λ j l. rw (filled_inside order_limit (λ j. get_or x (place q j) 0) zero_row 0 j (omega arith)) (f.small (place q j) (o.inside j l));
    rest = λ j l. elim (dec_lt j order_limit) [
      | yes g ↦ filled_inside order_limit (λ j. get_or x (place q j) 0) zero_row 0 j g ∙ f.rest (place q j) (omega (arith, o.stays j l g))
      | no g ↦ filled_outside order_limit (λ j. get_or x (place q j) 0) zero_row 0 j (omega arith) ∙ zero_row_at j
    ];
  }

  picked_moved : (ρ : ℕ → ℕ) → ((i : ℕ) → i < n → ρ i < n) → (x r : Array) → r ≡ filled n (λ i. picked q (get_or x (ρ i) [])) x → Moved n ρ (place q) x r
  picked_moved ρ a x r e = rw e (record {
    cells = λ i j l g. overwritten_cell n (λ i. picked q (get_or x (ρ i) [])) x i j l ∙ filled_inside order_limit (λ j. cell x (ρ i) (place q j)) zero_row 0 j (omega arith);
    field = λ p f. overwritten_field n _ x p f (λ i l. picked_row p (get_or x (ρ i) []) (field_row p n x (ρ i) (a i l) f));
  })

  rows_moved : (x r : Array) → r ≡ filled n (λ i. get_or x (place q i) []) x → RowsIn n (place q) x r
  rows_moved x r e = rw e (record {
    cells = λ i j l g. overwritten_cell n (λ i. get_or x (place q i) []) x i j l;
    field = λ p f. overwritten_field n _ x p f (λ i l. field_row p n x (place q i) (o.inside i l) f);
  })

  pub turned_end : (s r : State) {t : ℕ} → Turned t q s r → t ≤ n → n ≤ t → InOrder n (place q) s r
  turned_end s r x a b = in_order n (place q) o.inside s r
      (picked_moved (place q) o.inside s.b r.b (fill_end _ _ x.B a b))
      (picked_moved (λ i. i) (λ i l. l) s.t r.t (fill_end _ _ x.T a b))
      (rows_moved s.back r.back (fill_end _ _ x.I a b))
