-- How many coefficients the definitions' polynomials have, their degrees, and which of their numbers are residues.
use Rattle.std.specs.Prelude.{◌≡◌, refl, Bool, true, false, cond, List, ℕ, zero, suc, ◌+◌, ◌*◌, ◌-◌, ◌≤◌, ◌<◌, T, eqb, ltb}
use Rattle.std.proofs.Common.{sym, ◌∙◌, ap, subst, mul-zero, zero-mul, arith, eqb→eq, ltb→lt, lt→ltb}
use Rattle.std.proofs.Math.Decide.{ℕ_discrete, dec_lt, dec_le}
use Rattle.forms.specs.Numbers.{at}
use Rattle.forms.specs.Polynomials.{Coefficients, convolution, degree}
use Rattle.forms.specs.Matrices.{Entries, PolynomialEntries, matrix, polynomial_matrix, diagonal, unit, polynomial_unit, diagonal_matrix, characteristic, polynomial_product}
use Rattle.forms.specs.Words.{Residues}
use Rattle.forms.specs.Tests.{cond_holds, cond_fails, equal_holds, total_of_zeros}

-- at most d coefficients
abbrev pub Short : ℕ → Coefficients → Type 0
Short d f = (k : ℕ) → d ≤ k → f k ≡ 0

abbrev pub ShortEntries : ℕ → PolynomialEntries → Type 0
ShortEntries d P = (i j : ℕ) → Short d (P i j)

pub convolution_short : (a b : ℕ) (f g : Coefficients) → Short a f → Short b g → (k : ℕ) → a + b ≤ suc k → convolution f g k ≡ 0
unfolding convolution
convolution_short a b f g x y k l = total_of_zeros (suc k) _ (λ i m. elim (dec_lt i a) [
  | yes q ↦ ap (λ (z : ℕ). f i * z) (y (k - i) (omega arith)) ∙ mul-zero (f i)
  | no q ↦ ap (λ (z : ℕ). z * g (k - i)) (x i (omega arith)) ∙ zero-mul (g (k - i))
])

pub product_short : (n a b : ℕ) (P Q : PolynomialEntries) → ShortEntries a P → ShortEntries b Q → (i j k : ℕ) → a + b ≤ suc k → polynomial_product n P Q i j k ≡ 0
unfolding polynomial_product
product_short n a b P Q x y i j k l = total_of_zeros n _ (λ m q. convolution_short a b (P i m) (Q m j) (x i m) (y m j) k l)

pub polynomial_matrix_short : (n : ℕ) (s : List ℕ) → ShortEntries n (polynomial_matrix n s)
unfolding polynomial_matrix
polynomial_matrix_short n s i j k l = cond_fails (ltb k n) _ 0 (λ t. (let h = ltb→lt k n t in omega arith))

pub diagonal_short : (n : ℕ) (s : List ℕ) (i : ℕ) → Short (suc n) (diagonal n s i)
unfolding diagonal
diagonal_short n s i k l = cond_fails (ltb k (suc n)) _ 0 (λ t. (let h = ltb→lt k (suc n) t in omega arith))

pub diagonal_at : (n : ℕ) (s : List ℕ) (i k : ℕ) → k < suc n → diagonal n s i k ≡ at s (i * suc n + k)
unfolding diagonal
diagonal_at n s i k l = cond_holds (ltb k (suc n)) _ 0 (lt→ltb k (suc n) l)

pub polynomial_unit_short : ShortEntries 1 polynomial_unit
unfolding polynomial_unit
polynomial_unit_short i j k l = cond_fails (eqb k 0) (unit i j) 0 (λ t. (let e = eqb→eq k 0 t in omega arith))

pub diagonal_matrix_short : (n : ℕ) (s : List ℕ) → ShortEntries (suc n) (diagonal_matrix (diagonal n s))
unfolding diagonal_matrix
diagonal_matrix_short n s i j k l = at_test (eqb i j)
  where
    at_test : (b : Bool) → cond b (diagonal n s i k) 0 ≡ 0
    at_test true = diagonal_short n s i k l
    at_test false = refl

pub characteristic_short : (p : ℕ) (A : Entries) → ShortEntries 2 (characteristic p A)
unfolding characteristic
characteristic_short p A i j k l = cond_fails (eqb k 0) _ _ (λ t. (let e = eqb→eq k 0 t in omega arith)) ∙ cond_fails (eqb k 1) _ _ (λ t. (let e = eqb→eq k 1 t in omega arith))

-- the products of rules 4 and 5, and that of rule 6, have at most 2n + 1 coefficients
pub inverse_product_short : (n : ℕ) (s t : List ℕ) → ShortEntries (suc (2 * n)) (polynomial_product n (polynomial_matrix n s) (polynomial_matrix n t))
inverse_product_short n s t i j k l = product_short n n n _ _ (polynomial_matrix_short n s) (polynomial_matrix_short n t) i j k (omega arith)

pub smith_product_short : (p n : ℕ) (A : Entries) (s t : List ℕ) → ShortEntries (suc (2 * n)) (polynomial_product n (polynomial_product n (polynomial_matrix n s) (characteristic p A)) (polynomial_matrix n t))
smith_product_short p n A s t i j k l = product_short n (suc n) n _ _
    (λ i j k m. product_short n n 2 _ _ (polynomial_matrix_short n s) (characteristic_short p A) i j k (omega arith))
    (polynomial_matrix_short n t) i j k (omega arith)

-- the degree is within its bound, above it are zeros, and a last coefficient that is 1 stands at it
pub degree_limited : (n : ℕ) (f : Coefficients) → degree n f ≤ n
unfolding degree
degree_limited zero f = omega arith
degree_limited (suc n) f = at_test (eqb (f (suc n)) 0) (degree_limited n f)
  where
    at_test : (b : Bool) → degree n f ≤ n → cond b (degree n f) (suc n) ≤ suc n
    at_test true h = omega arith
    at_test false h = omega arith

degree_above_upto : (n : ℕ) (f : Coefficients) (k : ℕ) → degree n f < k → k ≤ n → f k ≡ 0
unfolding degree
degree_above_upto zero f k l h = absurd (omega arith)
degree_above_upto (suc n) f k l h = at_test (eqb (f (suc n)) 0) refl l (degree_above_upto n f k)
  where
    at_test : (b : Bool) → eqb (f (suc n)) 0 ≡ b → cond b (degree n f) (suc n) < k → (degree n f < k → k ≤ n → f k ≡ 0) → f k ≡ 0
    at_test true e m smaller = elim (ℕ_discrete k (suc n)) [ yes q ↦ ap f q ∙ eqb→eq (f (suc n)) 0 (subst T (sym e) tt) | no q ↦ smaller m (omega arith) ]
    at_test false e m smaller = absurd (omega arith)

pub degree_above : (n : ℕ) (f : Coefficients) → Short (suc n) f → Short (suc (degree n f)) f
degree_above n f h k l = elim (dec_le k n) [ yes m ↦ degree_above_upto n f k l m | no m ↦ h k (omega arith) ]

pub degree_is : (n : ℕ) (f : Coefficients) (d : ℕ) → d ≤ n → f d ≡ 1 → Short (suc d) f → degree n f ≡ d
unfolding degree
degree_is zero f d l one h = omega arith
degree_is (suc n) f d l one h = elim (ℕ_discrete d (suc n)) [
  | yes q ↦ cond_fails (eqb (f (suc n)) 0) (degree n f) (suc n) (λ t. (let w = eqb→eq (f (suc n)) 0 t in let v : f (suc n) ≡ 1 = ap f (sym q) ∙ one in omega arith)) ∙ sym q
  | no q ↦ cond_holds (eqb (f (suc n)) 0) (degree n f) (suc n) (equal_holds _ 0 (h (suc n) (omega arith))) ∙ degree_is n f d (omega arith) one h
]

-- residues
pub matrix_small : (p n : ℕ) (s : List ℕ) → Residues p (n * n) s → (i j : ℕ) → matrix n s i j < p
unfolding matrix
matrix_small p n s r i j = r.small (i * n + j)

pub diagonal_small : (p n : ℕ) (s : List ℕ) → 0 < p → Residues p (n * suc n) s → (i k : ℕ) → diagonal n s i k < p
unfolding diagonal
diagonal_small p n s l r i k = at_test (ltb k (suc n))
  where
    at_test : (b : Bool) → cond b (at s (i * suc n + k)) 0 < p
    at_test true = r.small _
    at_test false = l
