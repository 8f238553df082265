-- P(XE-A) row by row: times row l of XE-A, a coefficient of P adds itself in the column l, and a multiple of row l of -A.
use Rattle.std.specs.Prelude.{◌≡◌, refl, Bool, true, false, cond, List, [], ℕ, ◌+◌, ◌*◌, ◌-◌, ◌≤◌, ◌<◌, eqb, length, get_or, set}
use Rattle.std.proofs.Common.{sym, ◌∙◌, ap, ap₂, add-zero, zero-add, mul-zero, mul-one, mul-le-mul, arith, eqb→eq}
use Rattle.std.proofs.Math.Decide.{ℕ_discrete, dec_le}
use Rattle.forms.specs.Numbers.{at, order_limit}
use Rattle.forms.specs.Polynomials.{Coefficients}
use Rattle.forms.specs.Matrices.{Entries, matrix, unit, characteristic}
use Rattle.forms.specs.Tests.{cond_holds, cond_fails, equal_holds}
use Rattle.forms.specs.Bounds.{characteristic_short}
use Rattle.products.specs.Sums.{product_limit, shifted, shifted_inside, shifted_outside, monomial, monomial_same, monomial_other, monomial_none, monomial_small, plus_monomial, products}
use Rattle.products.specs.Products.{ByteEntries}
use Rattle.products.specs.Lines.{RoomFor, PlusLine, line_one, line_room, line_products_room}

-- the payload of A
pub record FieldPayload (p n : ℕ) (a : List ℕ) : Type 0 where
  pub matrix_long : length a ≡ n * n
  pub small : (k : ℕ) → at a k < p

-- x X^k times row l of -A is added to a row
pub record AddingField (p n x k l : ℕ) (a : List ℕ) (line : List (List ℕ)) : Type 0 where
  pub payload : FieldPayload p n a
  pub byte : x ≤ 255
  pub inside : k < n
  pub row : l < n
  pub has_room : RoomFor n 0 line

-- f times row l of XE-A is added to a row
pub record AddingMoved (p n l : ℕ) (f a : List ℕ) (line : List (List ℕ)) : Type 0 where
  pub payload : FieldPayload p n a
  pub row : l < n
  pub left_long : length f ≡ n
  pub has_room : RoomFor n (n * product_limit) line

-- row i of P(XE-A), from the payloads of P and A
pub record Moving (p n i : ℕ) (s a : List ℕ) : Type 0 where
  pub payload : FieldPayload p n a
  pub row : i < n
  pub left_long : length s ≡ n * n * n

unit_byte : (i j : ℕ) → unit i j ≤ 255
unfolding unit
unit_byte i j = at_test (eqb i j)
  where
    at_test : (b : Bool) → cond b 1 0 ≤ 255
    at_test true = omega arith
    at_test false = omega arith

pub characteristic_bytes : (p : ℕ) (A : Entries) → p ≤ 255 → ByteEntries (characteristic p A)
unfolding characteristic
characteristic_bytes p A limited i j k = at_tests (eqb k 0) (eqb k 1)
  where
    at_tests : (x y : Bool) → cond x (p - A i j) (cond y (unit i j) 0) ≤ 255
    at_tests true y = omega arith
    at_tests false true = unit_byte i j
    at_tests false false = omega arith

-- there is room for the next coefficient of f
pub moved_room : (p n l : ℕ) (f a : List ℕ) (before line : List (List ℕ)) (k : ℕ) → AddingMoved p n l f a before → p ≤ 255 → ((i : ℕ) → at f i ≤ 255) → k < n → PlusLine n line before (λ j. products k (at f) (characteristic p (matrix n a) l j)) → RoomFor n product_limit line
moved_room p n l f a before line k h limited bytes m q = line_products_room n _ _ k before line q bytes (characteristic_bytes p (matrix n a) limited l) m h.has_room

-- x X^k times row l of XE-A: of its columns, l has x at k + 1, and each has x times that of -A at k
abbrev pub diagonal_term : ℕ → ℕ → ℕ → ℕ → Coefficients
diagonal_term x k l j = monomial (k + 1) (x * unit l j)

abbrev pub field_term : ℕ → Entries → ℕ → ℕ → ℕ → ℕ → Coefficients
field_term p A x k l j = monomial k (x * (p - A l j))

pub characteristic_terms : (p : ℕ) (A : Entries) (x k l j i : ℕ) → diagonal_term x k l j i + field_term p A x k l j i ≡ x * shifted k (characteristic p A l j) i
unfolding characteristic
characteristic_terms p A x k l j i = elim (dec_le k i) [
  | no g ↦ terms (monomial_other (k + 1) _ i (omega arith)) (monomial_other k _ i (omega arith)) ∙ sym (ap (λ (z : ℕ). x * z) (shifted_outside k _ i (omega arith)) ∙ mul-zero x)
  | yes g ↦ elim (ℕ_discrete i k) [
    | yes e ↦ terms (monomial_other (k + 1) _ i (omega arith)) (monomial_same k _ i e) ∙ zero-add _ ∙ sym (within g 0 (omega arith))
    | no o ↦ elim (ℕ_discrete i (k + 1)) [
      | yes e ↦ terms (monomial_same (k + 1) _ i e) (monomial_other k _ i o) ∙ add-zero _ ∙ sym (within g 1 (omega arith))
      | no q ↦ terms (monomial_other (k + 1) _ i q) (monomial_other k _ i o) ∙ sym (within g (i - k) refl ∙ ap (λ (z : ℕ). x * z) (characteristic_short p A l j (i - k) (omega arith)) ∙ mul-zero x)
    ]
  ]
]
  where
    terms : {u v : ℕ} → diagonal_term x k l j i ≡ u → field_term p A x k l j i ≡ v → diagonal_term x k l j i + field_term p A x k l j i ≡ u + v
    terms a b = ap₂ ◌+◌ a b

    within : k ≤ i → (d : ℕ) → i - k ≡ d → x * shifted k (characteristic p A l j) i ≡ x * characteristic p A l j d
    within g d e = ap (λ (z : ℕ). x * z) (shifted_inside k _ i g ∙ ap (characteristic p A l j) e)

-- x is added at k + 1 in the column l
pub diagonal_added : (n x k l : ℕ) (line : List (List ℕ)) → n ≤ order_limit → k < n → l < n → RoomFor n product_limit line → PlusLine n (set line l (set (get_or line l []) (k + 1) (at (get_or line l []) (k + 1) + x))) line (diagonal_term x k l)
unfolding unit
diagonal_added n x k l line order small inside r = line_one n l line (diagonal_term x k l) _ inside (omega (arith, r.long))
    (plus_monomial (get_or line l []) (k + 1) x _ (omega (arith, r.entries_long l inside)) (sym (ap (λ (z : ℕ). x * z) (cond_holds (eqb l l) 1 0 (equal_holds l l refl)) ∙ mul-one x)))
    (λ j i o. monomial_none (k + 1) _ i (ap (λ (z : ℕ). x * z) (cond_fails (eqb l j) 1 0 (λ t. o (sym (eqb→eq l j t)))) ∙ mul-zero x))

pub diagonal_room : (n x k l : ℕ) (line after : List (List ℕ)) → x ≤ 255 → PlusLine n after line (diagonal_term x k l) → RoomFor n product_limit line → RoomFor n 0 after
diagonal_room n x k l line after byte p r = line_room n product_limit 0 line after (diagonal_term x k l) p (λ j i. monomial_small (k + 1) (x * unit l j) i product_limit (mul-le-mul byte (unit_byte l j))) r
