-- An entry of a product of polynomial matrices, as the loop over the inner index sums it.
use Rattle.std.specs.Prelude.{◌≡◌, Bool, true, false, cond, ◌&&◌, List, ℕ, suc, ◌+◌, ◌*◌, ◌%◌, ◌≤◌, eqb, ltb, length, replicate, take, drop}
use Rattle.std.proofs.Common.{sym, ◌∙◌, add-one, mul-le-mul, le_refl, le_antisymm, arith, eqb→eq, ltb→lt, lt→ltb, length-take-le, length-drop, get_or-take, get_or-drop}
use Rattle.std.proofs.Math.Path.{ap, ap₂, fun_ext}
use Rattle.std.proofs.Math.Decide.{dec_lt}
use Rattle.std.proofs.lemmas.List.{get_or-replicate, length-replicate}
use Rattle.std.proofs.Math.ListN.{get_or-eq_default}
use Rattle.forms.specs.Numbers.{at, total, every, order_limit}
use Rattle.forms.specs.Polynomials.{Coefficients, convolution}
use Rattle.forms.specs.Matrices.{PolynomialEntries, polynomial_matrix, polynomial_product, polynomial_unit}
use Rattle.forms.specs.Tests.{cond_holds, cond_fails}
use Rattle.forms.specs.Bounds.{Short, ShortEntries}
use Rattle.products.specs.Indices.{Inside, entry_inside}
use Rattle.products.specs.Searches.{every_equal, every_front}
use Rattle.matrices.specs.Parts.{row_of, HasRow}
use Rattle.products.specs.Sums.{term_limit, product_limit, room, Plus, products_convolution, products_small, total_small}

-- the sums are the coefficients f
pub record Holding (sums : List ℕ) (f : Coefficients) : Type 0 where
  pub long : length sums ≡ term_limit
  pub each : (k : ℕ) → at sums k ≡ f k

pub holding_is : {sums : List ℕ} {f : Coefficients} → Holding sums f → at sums ≡ f
holding_is h = fun_ext h.each

pub holding_nothing : Holding (replicate term_limit 0) (λ k. 0)
holding_nothing = record {
  long = length-replicate {A = ℕ} term_limit 0;
  each = λ k. elim (dec_lt k term_limit) [ yes l ↦ get_or-replicate {A = ℕ} term_limit k 0 0 l | no l ↦ get_or-eq_default (replicate term_limit 0) 0 {n = k} (omega (arith, length-replicate {A = ℕ} term_limit 0)) ];
}

pub holding_plus : (after sums : List ℕ) (f g : Coefficients) → Holding sums f → Plus after sums g → Holding after (λ k. f k + g k)
holding_plus after sums f g h p = record { long = p.long ∙ h.long; each = λ k. p.each k ∙ ap (λ (x : ℕ). x + g k) (h.each k) }

-- two sums are equal modulo p in their first z coefficients
abbrev pub same_modulo : ℕ → ℕ → Coefficients → Coefficients → Bool
same_modulo p z f g = every z (λ k. eqb (f k % p) (g k % p))

-- E has only a constant term, so an entry is compared with it in two parts
unit_above : (i j k : ℕ) → polynomial_unit i j (suc k) ≡ 0
unfolding polynomial_unit
unit_above i j k = cond_fails (eqb (suc k) 0) _ 0 (λ t. (let e = eqb→eq (suc k) 0 t in omega arith))

pub unit_by_parts : (p z i j : ℕ) (f : Coefficients) {u : ℕ} {constant above : Bool} → u ≡ polynomial_unit i j 0 → constant ≡ eqb (f 0 % p) (u % p) → above ≡ every z (λ k. eqb (f (1 + k) % p) (0 % p))
    → (constant && above) ≡ same_modulo p (suc z) f (polynomial_unit i j)
unit_by_parts p z i j f h e g =
    ap₂ ◌&&◌ (e ∙ ap (λ (x : ℕ). eqb (f 0 % p) (x % p)) h) (g ∙ every_equal z _ _ (λ k l. ap₂ (λ (x y : ℕ). eqb (f x % p) (y % p)) (omega arith) (sym (unit_above i j k))))
    ∙ sym (every_front z (λ k. eqb (f k % p) (polynomial_unit i j k % p)))

-- the entry (i, j) of the product is that of E
abbrev pub unit_test : ℕ → ℕ → List ℕ → List ℕ → ℕ → ℕ → Bool
unit_test p n s t i j = same_modulo p (suc (2 * n)) (polynomial_product n (polynomial_matrix n s) (polynomial_matrix n t) i j) (polynomial_unit i j)

-- two matrices of n by n entries of n coefficients
pub record Inverses (n : ℕ) (s t : List ℕ) : Type 0 where
  pub left_long : length s ≡ n * n * n
  pub right_long : length t ≡ n * n * n

-- the n bytes from start on are n coefficients
pub slice_coefficients : (n start : ℕ) (s : List ℕ) → start + n ≤ length s → (length (take n (drop start s)) ≡ n) × ((k : ℕ) → at (take n (drop start s)) k ≡ cond (ltb k n) (at s (start + k)) 0)
slice_coefficients n start s l =
    let long : length (take n (drop start s)) ≡ n = length-take-le n (drop start s) (omega (arith, length-drop start s)) in (
      long,
      λ k. elim (dec_lt k n) [
        | yes i ↦ get_or-take n (drop start s) k 0 (omega arith) ∙ get_or-drop start s k 0 ∙ sym (cond_holds (ltb k n) _ 0 (lt→ltb k n i))
        | no i ↦ get_or-eq_default (take n (drop start s)) 0 {n = k} (omega arith) ∙ sym (cond_fails (ltb k n) _ 0 (λ t. i (ltb→lt k n t)))
      ],
    )

pub entry_row : (n i j : ℕ) (s : List ℕ) → Inside n i j → length s ≡ n * n * n → HasRow s (i * n + j) n
entry_row n i j s h l = omega (arith, entry_inside n i j h)

pub entry_coefficients : (n i j : ℕ) (s : List ℕ) → Inside n i j → length s ≡ n * n * n → let e = row_of s (i * n + j) n in (length e ≡ n) × (at e ≡ polynomial_matrix n s i j)
unfolding polynomial_matrix row_of
entry_coefficients n i j s h l = let c = slice_coefficients n ((i * n + j) * n) s (entry_row n i j s h l) in (c.0, fun_ext c.1)

-- the products of one entry have few and small terms
convolution_small : (n : ℕ) (f g : Coefficients) → n ≤ order_limit → Short n f → ((i : ℕ) → f i ≤ 255) → ((i : ℕ) → g i ≤ 255) → (k : ℕ) → convolution f g k ≤ order_limit * product_limit
convolution_small n f g l short x y k =
    let e = products_convolution n f g short k in let a = products_small n f g x y k in
    let b : n * product_limit ≤ order_limit * product_limit = mul-le-mul l (le_refl product_limit) in
    omega arith

-- the first l terms of the entry (i, j) of P Q
unfoldable pub partial : ℕ → PolynomialEntries → PolynomialEntries → ℕ → ℕ → Coefficients
partial l P Q i j k = total l (λ m. convolution (P i m) (Q m j) k)

module _ (P Q : PolynomialEntries) (i j : ℕ) where
  pub partial_none : Holding (replicate term_limit 0) (partial 0 P Q i j)
  unfolding partial total
  partial_none = holding_nothing

  pub partial_more : (l : ℕ) (after sums : List ℕ) → Holding sums (partial l P Q i j) → (f : Coefficients) → f ≡ P i l → Plus after sums (convolution f (Q l j)) → Holding after (partial (l + 1) P Q i j)
  unfolding partial total
  partial_more l after sums h f e p =
      let q = holding_plus after sums (partial l P Q i j) (convolution f (Q l j)) h p in
      record {
        long = q.long;
        each = λ k. q.each k ∙ ap (λ (x : Coefficients). total l (λ m. convolution (P i m) (Q m j) k) + convolution x (Q l j) k) e ∙ ap (λ (x : ℕ). total x (λ m. convolution (P i m) (Q m j) k)) (sym (add-one l));
      }

  pub partial_all : (n l : ℕ) (sums : List ℕ) → l ≤ n → n ≤ l → Holding sums (partial l P Q i j) → Holding sums (polynomial_product n P Q i j)
  unfolding partial polynomial_product
  partial_all n l sums a b h = record { long = h.long; each = λ k. h.each k ∙ ap (λ (x : ℕ). total x (λ m. convolution (P i m) (Q m j) k)) (le_antisymm a b) }

-- no coefficient of an entry is above a byte
abbrev pub ByteEntries : PolynomialEntries → Type 0
ByteEntries P = (i j k : ℕ) → P i j k ≤ 255

pub matrix_bytes : (n : ℕ) (s : List ℕ) → ((k : ℕ) → at s k ≤ 255) → ByteEntries (polynomial_matrix n s)
unfolding polynomial_matrix
matrix_bytes n s h i j k = at_test (ltb k n)
  where
    at_test : (b : Bool) → cond b (at s ((i * n + j) * n + k)) 0 ≤ 255
    at_test true = h _
    at_test false = omega arith

-- there is room for the next product of two entries
pub partial_low : (P Q : PolynomialEntries) (n l i j : ℕ) (sums : List ℕ) → ShortEntries n P → ByteEntries P → ByteEntries Q → n ≤ order_limit → l ≤ n → Holding sums (partial l P Q i j) → (k : ℕ) → at sums k + n * product_limit ≤ room
unfolding partial
partial_low P Q n l i j sums short x y order inside h k =
    let a = total_small l (order_limit * product_limit) _ (λ m. convolution_small n (P i m) (Q m j) order (short i m) (x i m) (y m j) k) in
    let b = h.each k in
    omega arith
