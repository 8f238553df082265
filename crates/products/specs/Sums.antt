-- Sums of scaled polynomials, coefficient by coefficient and without reduction, as the loops build them.
use Rattle.std.specs.Prelude.{◌≡◌, refl, ◌≢◌, cond, List, ℕ, zero, suc, ◌+◌, ◌*◌, ◌-◌, ◌≤◌, ◌<◌, eqb, ltb, leb, length, set}
use Rattle.std.proofs.Common.{sym, ◌∙◌, subst, add-one, mul-zero, zero-mul, add-zero, suc-mul, add_comm, mul-le-mul, le_antisymm, arith, eqb→eq, ltb→lt, lt→ltb, leb→le, le→leb, length-set, get_or-set_same, get_or-set_other}
use Rattle.std.proofs.Math.Path.{ap, ap₂, fun_ext}
use Rattle.std.proofs.Math.Decide.{ℕ_discrete, dec_lt, dec_le}
use Rattle.std.proofs.Math.Nat.{add_assoc}
use Rattle.std.proofs.Math.ListN.{get_or-eq_default}
use Rattle.forms.specs.Numbers.{at, total, order_limit}
use Rattle.forms.specs.Polynomials.{Coefficients, convolution}
use Rattle.forms.specs.Tests.{cond_holds, cond_fails, equal_holds, total_equal, total_short}
use Rattle.forms.specs.Bounds.{Short}

-- as many coefficients as a product of the rules has at most
abbrev pub term_limit : ℕ
term_limit = 2 * order_limit + 1

-- a product of two bytes, and what a sum may come to before one more such product is added
abbrev pub product_limit : ℕ
product_limit = 65025

abbrev pub room : ℕ
room = 4000000000

-- the first n coefficients of g
unfoldable pub first : ℕ → Coefficients → Coefficients
first n g k = cond (ltb k n) (g k) 0

-- X^m g
unfoldable pub shifted : ℕ → Coefficients → Coefficients
shifted m g k = cond (leb m k) (g (k - m)) 0

-- g, scaled by x and shifted, is added to sums
pub record Scaling (x shift : ℕ) (g sums : List ℕ) : Type 0 where
  pub byte : x ≤ 255
  pub inside : shift + length g ≤ term_limit
  pub long : length sums ≡ term_limit
  pub low : (k : ℕ) → at sums k ≤ room

-- f times g is added to sums
pub record Multiplying (f g sums : List ℕ) : Type 0 where
  pub inside : length f + length g ≤ term_limit
  pub long : length sums ≡ term_limit
  pub low : (k : ℕ) → at sums k + length f * product_limit ≤ room

-- after is sums with f added
pub record Plus (after sums : List ℕ) (f : Coefficients) : Type 0 where
  pub long : length after ≡ length sums
  pub each : (k : ℕ) → at after k ≡ at sums k + f k

pub plus_nothing : (sums : List ℕ) (f : Coefficients) → ((k : ℕ) → f k ≡ 0) → Plus sums sums f
plus_nothing sums f e = record { long = refl; each = λ k. sym (ap (λ (x : ℕ). at sums k + x) (e k) ∙ add-zero _) }

-- a list has no coefficient past its end
pub list_short : (s : List ℕ) → Short (length s) (at s)
list_short s k l = get_or-eq_default s 0 l

first_inside : (n : ℕ) (g : Coefficients) (k : ℕ) → k < n → first n g k ≡ g k
unfolding first
first_inside n g k l = cond_holds (ltb k n) _ 0 (lt→ltb k n l)

first_outside : (n : ℕ) (g : Coefficients) (k : ℕ) → n ≤ k → first n g k ≡ 0
unfolding first
first_outside n g k l = cond_fails (ltb k n) _ 0 (λ t. (let h = ltb→lt k n t in omega arith))

first_all : (n : ℕ) (g : Coefficients) → Short n g → first n g ≡ g
first_all n g short = fun_ext (λ k. elim (dec_lt k n) [ yes l ↦ first_inside n g k l | no l ↦ first_outside n g k (omega arith) ∙ sym (short k (omega arith)) ])

pub shifted_inside : (m : ℕ) (g : Coefficients) (k : ℕ) → m ≤ k → shifted m g k ≡ g (k - m)
unfolding shifted
shifted_inside m g k l = cond_holds (leb m k) _ 0 (le→leb m k l)

pub shifted_outside : (m : ℕ) (g : Coefficients) (k : ℕ) → k < m → shifted m g k ≡ 0
unfolding shifted
shifted_outside m g k l = cond_fails (leb m k) _ 0 (λ t. (let h = leb→le m k t in omega arith))

-- one more coefficient
first_more : (n : ℕ) (g : Coefficients) (k : ℕ) → k ≢ n → first (n + 1) g k ≡ first n g k
first_more n g k o = elim (dec_lt k n) [
  | yes l ↦ first_inside (n + 1) g k (omega arith) ∙ sym (first_inside n g k l)
  | no l ↦ first_outside (n + 1) g k (omega arith) ∙ sym (first_outside n g k (omega arith))
]

shifted_more : (m n : ℕ) (g : Coefficients) (k : ℕ) → k ≢ m + n → shifted m (first (n + 1) g) k ≡ shifted m (first n g) k
shifted_more m n g k o = elim (dec_le m k) [
  | yes l ↦ shifted_inside m _ k l ∙ first_more n g (k - m) (omega arith) ∙ sym (shifted_inside m _ k l)
  | no l ↦ shifted_outside m _ k (omega arith) ∙ sym (shifted_outside m _ k (omega arith))
]

-- the loop that adds x X^shift g: none of it, one more coefficient, and the sum where that goes
module _ (x shift : ℕ) (g : Coefficients) where
  abbrev scaled : ℕ → Coefficients
  scaled n k = x * shifted shift (first n g) k

  scaled_zero : (n k : ℕ) → shifted shift (first n g) k ≡ 0 → scaled n k ≡ 0
  scaled_zero n k e = ap (λ (b : ℕ). x * b) e ∙ mul-zero x

  pub scaled_none : (sums : List ℕ) → Plus sums sums (scaled 0)
  scaled_none sums = plus_nothing sums (scaled 0) (λ k. scaled_zero 0 k (elim (dec_le shift k) [
    | yes l ↦ shifted_inside shift _ k l ∙ first_outside 0 g (k - shift) (omega arith)
    | no l ↦ shifted_outside shift _ k (omega arith)
  ]))

  module _ (n : ℕ) (before sums : List ℕ) (h : Plus sums before (scaled n)) where
    pub scaled_ahead : at sums (shift + n) ≡ at before (shift + n)
    scaled_ahead = h.each (shift + n) ∙ ap (λ (y : ℕ). at before (shift + n) + y) (scaled_zero n (shift + n) (shifted_inside shift _ (shift + n) (omega arith) ∙ first_outside n g (shift + n - shift) (omega arith))) ∙ add-zero _

    pub scaled_more : shift + n < length sums → (y : ℕ) → y ≡ g n → Plus (set sums (shift + n) (at sums (shift + n) + x * y)) before (scaled (n + 1))
    scaled_more l y e = record {
      long = simp length-set h.long;
      each = λ k. elim (ℕ_discrete k (shift + n)) [
        | yes q ↦ rw q (get_or-set_same sums (shift + n) _ 0 l ∙ ap₂ (λ (a b : ℕ). a + x * b) scaled_ahead (e ∙ sym new))
        | no o ↦ get_or-set_other sums (shift + n) k _ 0 o ∙ h.each k ∙ ap (λ (b : ℕ). at before k + x * b) (sym (shifted_more shift n g k o))
      ];
    }
      where
        back : shift + n - shift ≡ n
        back = omega arith

        new : shifted shift (first (n + 1) g) (shift + n) ≡ g n
        new = shifted_inside shift _ (shift + n) (omega arith) ∙ first_inside (n + 1) g (shift + n - shift) (omega arith) ∙ ap g back

    pub scaled_all : (m : ℕ) → n ≤ m → m ≤ n → Short m g → Plus sums before (λ k. x * shifted shift g k)
    scaled_all m l r short = subst (λ (f : Coefficients). Plus sums before (λ k. x * shifted shift f k)) (ap (λ (i : ℕ). first i g) (le_antisymm l r) ∙ first_all m g short) h

-- y X^m
unfoldable pub monomial : ℕ → ℕ → Coefficients
monomial m y k = cond (eqb k m) y 0

pub monomial_same : (m y k : ℕ) → k ≡ m → monomial m y k ≡ y
unfolding monomial
monomial_same m y k e = cond_holds (eqb k m) y 0 (equal_holds k m e)

pub monomial_other : (m y k : ℕ) → k ≢ m → monomial m y k ≡ 0
unfolding monomial
monomial_other m y k o = cond_fails (eqb k m) y 0 (λ t. o (eqb→eq k m t))

pub monomial_none : (m y k : ℕ) → y ≡ 0 → monomial m y k ≡ 0
monomial_none m y k e = elim (ℕ_discrete k m) [ yes q ↦ monomial_same m y k q ∙ e | no o ↦ monomial_other m y k o ]

pub monomial_small : (m y k b : ℕ) → y ≤ b → monomial m y k ≤ b
monomial_small m y k b l = elim (ℕ_discrete k m) [ yes q ↦ rw (monomial_same m y k q) l | no o ↦ rw (monomial_other m y k o) (omega arith) ]

-- one coefficient is added to
pub plus_monomial : (sums : List ℕ) (m x y : ℕ) → m < length sums → x ≡ y → Plus (set sums m (at sums m + x)) sums (monomial m y)
plus_monomial sums m x y l e = record {
  long = simp length-set;
  each = λ k. elim (ℕ_discrete k m) [
    | yes q ↦ rw q (get_or-set_same sums m _ 0 l ∙ ap (λ (z : ℕ). at sums m + z) (e ∙ sym (monomial_same m y m refl)))
    | no o ↦ get_or-set_other sums m k _ 0 o ∙ sym (ap (λ (z : ℕ). at sums k + z) (monomial_other m y k o) ∙ add-zero _)
  ];
}

-- the loop that adds f g, coefficient by coefficient of f
unfoldable pub products : ℕ → Coefficients → Coefficients → Coefficients
products m f g k = total m (λ i. f i * shifted i g k)

total_cut : (m n : ℕ) (h : Coefficients) → ((i : ℕ) → m ≤ i → h i ≡ 0) → ((i : ℕ) → n ≤ i → h i ≡ 0) → total m h ≡ total n h
total_cut m n h y z = sym (total_short m h y n) ∙ ap (λ (x : ℕ). total x h) (add_comm m n) ∙ total_short n h z m

pub products_convolution : (m : ℕ) (f g : Coefficients) → Short m f → (k : ℕ) → products m f g k ≡ convolution f g k
unfolding products convolution
products_convolution m f g short k =
    total_cut m (suc k) _ (λ i l. ap (λ (x : ℕ). x * shifted i g k) (short i l) ∙ zero-mul _) (λ i l. ap (λ (x : ℕ). f i * x) (shifted_outside i g k l) ∙ mul-zero (f i))
    ∙ total_equal (suc k) _ _ (λ i l. ap (λ (x : ℕ). f i * x) (shifted_inside i g k (omega arith)))

pub total_small : (n b : ℕ) (f : ℕ → ℕ) → ((i : ℕ) → f i ≤ b) → total n f ≤ n * b
unfolding total
total_small zero b f h = omega arith
total_small (suc n) b f h = rw (suc-mul n b) (let a = total_small n b f h in let c = h n in omega arith)

pub products_small : (m : ℕ) (f g : Coefficients) → ((i : ℕ) → f i ≤ 255) → ((i : ℕ) → g i ≤ 255) → (k : ℕ) → products m f g k ≤ m * product_limit
unfolding products
products_small m f g x y k = total_small m product_limit _ (λ i. mul-le-mul (x i) (shifted_small i))
  where
    shifted_small : (i : ℕ) → shifted i g k ≤ 255
    shifted_small i = elim (dec_le i k) [ yes l ↦ rw (shifted_inside i g k l) (y (k - i)) | no l ↦ rw (shifted_outside i g k (omega arith)) (omega arith) ]

module _ (f g : Coefficients) where
  pub products_none : (sums : List ℕ) → Plus sums sums (products 0 f g)
  unfolding products total
  products_none sums = plus_nothing sums (products 0 f g) (λ k. refl)

  module _ (n : ℕ) (before sums : List ℕ) (h : Plus sums before (products n f g)) where
    pub products_more : (x : ℕ) → x ≡ f n → (after : List ℕ) → Plus after sums (λ k. x * shifted n g k) → Plus after before (products (n + 1) f g)
    unfolding products total
    products_more x e after q = record {
      long = q.long ∙ h.long;
      each = λ k. q.each k ∙ ap₂ (λ (u v : ℕ). u + v * shifted n g k) (h.each k) e ∙ add_assoc _ _ _ ∙ ap (λ (i : ℕ). at before k + total i (λ i. f i * shifted i g k)) (sym (add-one n));
    }

    pub products_skip : f n ≡ 0 → Plus sums before (products (n + 1) f g)
    products_skip e = products_more 0 (sym e) sums (plus_nothing sums _ (λ k. zero-mul _))

    -- there is room for the next product
    pub products_low : ((i : ℕ) → f i ≤ 255) → ((i : ℕ) → g i ≤ 255) → (m : ℕ) → n < m → ((k : ℕ) → at before k + m * product_limit ≤ room) → (k : ℕ) → at sums k + product_limit ≤ room
    products_low x y m l low k = let a = h.each k in let b = products_small n f g x y k in let c = low k in omega arith

    pub products_all : (m : ℕ) → n ≤ m → m ≤ n → Short m f → Plus sums before (convolution f g)
    products_all m l r short = record {
      long = h.long;
      each = λ k. h.each k ∙ ap (λ (x : ℕ). at before k + x) (ap (λ (x : ℕ). products x f g k) (le_antisymm l r) ∙ products_convolution m f g short k);
    }
