-- Payloads written row by row: rows joined are one listing, of a matrix, of D and of a matrix of polynomials.
use Rattle.std.specs.Prelude.{◌≡◌, refl, List, ◌∷◌, ◌++◌, ℕ, zero, suc, ◌+◌, ◌*◌, ◌/◌, ◌%◌, ◌≤◌, ◌<◌, length, take}
use Rattle.std.proofs.Common.{sym, ◌∙◌, ap, ap₂, zero-add, suc-add, zero-mul, suc-mul, mul_assoc, add-mul, mod-lt, div-lt_iff_lt-mul, mul-le-mul, arith, ext_get_or, get_or-take}
use Rattle.std.proofs.Math.Path.{fun_ext}
use Rattle.std.proofs.Math.Decide.{dec_lt}
use Rattle.std.proofs.Math.ListN.{get_or-eq_default}
use Rattle.forms.specs.Numbers.{at}
use Rattle.forms.specs.Polynomials.{Coefficients}
use Rattle.forms.specs.Matrices.{Entries, PolynomialEntries, diagonal}
use Rattle.forms.specs.Certificate.{joined}
use Rattle.forms.specs.Words.{Residues}
use Rattle.forms.specs.Bounds.{Short, diagonal_short, diagonal_at}
use Rattle.forms.specs.Listed.{listed, matrix_listed, polynomials_listed, listed_length, listed_at, listed_residues, row_place, row_of, place_of}
use Rattle.matrices.specs.Filling.{filled, filled_inside}

pub listed_equal : (z : ℕ) (f g : ℕ → ℕ) → ((k : ℕ) → k < z → f k ≡ g k) → listed z f ≡ listed z g
unfolding listed
listed_equal zero f g h = refl
listed_equal (suc z) f g h = ap₂ ◌∷◌ (h 0 (omega arith)) (listed_equal z (λ k. f (suc k)) (λ k. g (suc k)) (λ k l. h (suc k) (omega arith)))

-- the first n entries of an array, and of one that was filled from the front
pub taken_listed : (n : ℕ) (v : List ℕ) → length (take n v) ≡ n → take n v ≡ listed n (at v)
taken_listed n v e = ext_get_or 0 _ _ (e ∙ sym (listed_length n (at v))) (λ k l. get_or-take n v k 0 (omega arith) ∙ sym (listed_at n (at v) k (omega arith)))

pub filled_listed : (n : ℕ) (f : ℕ → ℕ) (d : List ℕ) {v : List ℕ} → v ≡ filled n f d → length (take n v) ≡ n → take n v ≡ listed n f
filled_listed n f d {v} q e = taken_listed n v e ∙ listed_equal n _ _ (λ k l. ap (λ (x : List ℕ). at x k) q ∙ filled_inside n f d 0 k l)

pub listed_append : (a b : ℕ) (g : ℕ → ℕ) → listed (a + b) g ≡ listed a g ++ listed b (λ k. g (a + k))
unfolding listed
listed_append zero b g = ap (λ (z : ℕ). listed z g) (zero-add b) ∙ listed_equal b g (λ k. g (0 + k)) (λ k l. ap g (sym (zero-add k)))
listed_append (suc a) b g =
    ap (λ (z : ℕ). listed z g) (suc-add a b)
    ∙ ap (λ (s : List ℕ). g 0 ∷ s) (listed_append a b (λ k. g (suc k)) ∙ ap (λ (s : List ℕ). listed a (λ k. g (suc k)) ++ s) (listed_equal b _ _ (λ k l. ap g (sym (suc-add a k)))))

-- m rows of w
pub rows_listed : (m w : ℕ) (t : ℕ → List ℕ) (g : ℕ → ℕ) → ((i : ℕ) → i < m → t i ≡ listed w (λ j. g (i * w + j))) → joined m t ≡ listed (m * w) g
unfolding joined listed
rows_listed zero w t g h = sym (ap (λ (z : ℕ). listed z g) (zero-mul w))
rows_listed (suc m) w t g h =
    ap₂ (λ (x y : List ℕ). x ++ y) (rows_listed m w t g (λ i l. h i (omega arith))) (h m (omega arith))
    ∙ sym (listed_append (m * w) w g) ∙ ap (λ (z : ℕ). listed z g) (sym (suc-mul m w))

pub joined_equal : (m : ℕ) (t u : ℕ → List ℕ) → ((i : ℕ) → i < m → t i ≡ u i) → joined m t ≡ joined m u
unfolding joined
joined_equal zero t u h = refl
joined_equal (suc m) t u h = ap₂ (λ (x y : List ℕ). x ++ y) (joined_equal m t u (λ i l. h i (omega arith))) (h m (omega arith))

pub matrix_rows : (n : ℕ) (A : Entries) → joined n (λ i. listed n (A i)) ≡ matrix_listed n A
unfolding matrix_listed
matrix_rows n A = rows_listed n n _ _ (λ i l. listed_equal n _ _ (λ j g. sym (ap₂ A (row_of i j n g) (place_of i j n g))))

pub polynomial_rows : (n : ℕ) (P : PolynomialEntries) → joined n (λ r. joined n (λ c. listed n (P r c))) ≡ polynomials_listed n P
unfolding polynomials_listed
polynomial_rows n P =
    rows_listed n (n * n) _ g (λ r l. rows_listed n n _ (λ y. g (r * (n * n) + y)) (λ c h. listed_equal n _ _ (λ k q. sym (ap g (together r c k) ∙ entry r c k h q))))
    ∙ ap (λ (z : ℕ). listed z g) (sym (mul_assoc n n n))
  where
    g : ℕ → ℕ
    g x = P (x / n / n) ((x / n) % n) (x % n)

    together : (r c k : ℕ) → r * (n * n) + (c * n + k) ≡ (r * n + c) * n + k
    together r c k = let e = add-mul (r * n) c n in let f = mul_assoc r n n in omega arith

    entry : (r c k : ℕ) → c < n → k < n → g ((r * n + c) * n + k) ≡ P r c k
    entry r c k h q = ap₂ (λ (x y : ℕ). P (x / n) (x % n) y) (row_of (r * n + c) k n q) (place_of (r * n + c) k n q) ∙ ap₂ (λ (x y : ℕ). P x y k) (row_of r c n h) (place_of r c n h)

-- entries that are the same below n are the same listing
pub polynomials_listed_equal : (n : ℕ) (P Q : PolynomialEntries) → 0 < n → ((r c k : ℕ) → r < n → c < n → k < n → P r c k ≡ Q r c k) → polynomials_listed n P ≡ polynomials_listed n Q
unfolding polynomials_listed
polynomials_listed_equal n P Q l h = listed_equal (n * n * n) _ _ (λ x g.
    h (x / n / n) ((x / n) % n) (x % n) ((div-lt_iff_lt-mul l).1 ((div-lt_iff_lt-mul l).1 g)) (mod-lt (x / n) l) (mod-lt x l))

-- D: n rows of n + 1
pub diagonal_listed : ℕ → (ℕ → Coefficients) → List ℕ
diagonal_listed n f = listed (n * suc n) (λ x. f (x / suc n) (x % suc n))

pub diagonal_rows : (n : ℕ) (f : ℕ → Coefficients) → joined n (λ b. listed (suc n) (f b)) ≡ diagonal_listed n f
unfolding diagonal_listed
diagonal_rows n f = rows_listed n (suc n) _ _ (λ i l. listed_equal (suc n) _ _ (λ j g. sym (ap₂ f (row_of i j (suc n) g) (place_of i j (suc n) g))))

pub diagonal_listed_residues : (p n : ℕ) (f : ℕ → Coefficients) → 0 < p → ((b k : ℕ) → f b k < p) → Residues p (n * suc n) (diagonal_listed n f)
unfolding diagonal_listed
diagonal_listed_residues p n f positive h = listed_residues p (n * suc n) _ positive (λ x l. h (x / suc n) (x % suc n))

pub diagonal_of_listed : (n : ℕ) (f : ℕ → Coefficients) → ((b k : ℕ) → n ≤ b → f b k ≡ 0) → ((b : ℕ) → Short (suc n) (f b)) → diagonal n (diagonal_listed n f) ≡ f
unfolding diagonal_listed
diagonal_of_listed n f beyond short = fun_ext (λ b. fun_ext (λ k. elim (dec_lt k (suc n)) [
  | yes g ↦ diagonal_at n _ b k g ∙ elim (dec_lt b n) [
    | yes l ↦ listed_at (n * suc n) _ (b * suc n + k) (row_place b k n (suc n) l g) ∙ ap₂ f (row_of b k (suc n) g) (place_of b k (suc n) g)
    | no l ↦ get_or-eq_default (listed (n * suc n) _) 0 {n = b * suc n + k} (let e = listed_length (n * suc n) (λ x. f (x / suc n) (x % suc n)) in let q = times_more n b (suc n) (omega arith) in omega arith) ∙ sym (beyond b k (omega arith))
  ]
  | no g ↦ diagonal_short n _ b k (omega arith) ∙ sym (short b k (omega arith))
]))
  where
    times_more : (a b c : ℕ) → a ≤ b → a * c ≤ b * c
    times_more a b c l = mul-le-mul l (omega arith)
