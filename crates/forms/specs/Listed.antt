-- A payload and its entries: entries are listed row by row, and payloads of residues with the same entries are the same.
use Rattle.std.specs.Prelude.{◌≡◌, refl, List, [], ◌∷◌, ℕ, zero, suc, ◌+◌, ◌*◌, ◌/◌, ◌%◌, ◌≤◌, ◌<◌, ltb, length}
use Rattle.std.proofs.Common.{sym, ◌∙◌, ap, ap₂, subst, mod-lt, mod-eq_of_lt, div-add-mod', div-lt_iff_lt-mul, add-zero, suc-mul, mul-le-mul, arith, ltb→lt, lt→ltb, ext_get_or}
use Rattle.std.proofs.Math.Path.{fun_ext}
use Rattle.std.proofs.Math.Nat.{mul-add-mod_self_right, mul-add-div_right, div-eq_of_lt}
use Rattle.std.proofs.Math.Decide.{dec_lt}
use Rattle.std.proofs.Math.ListN.{get_or-eq_default}
use Rattle.forms.specs.Numbers.{at}
use Rattle.forms.specs.Matrices.{Entries, PolynomialEntries, matrix, polynomial_matrix, diagonal}
use Rattle.forms.specs.Words.{Residues}
use Rattle.forms.specs.Bounds.{ShortEntries, diagonal_at}
use Rattle.forms.specs.Tests.{cond_holds, cond_fails}

-- f 0 ∷ .. ∷ f (z-1)
unfoldable pub listed : ℕ → (ℕ → ℕ) → List ℕ
listed zero f = []
listed (suc z) f = f 0 ∷ listed z (λ k. f (suc k))

pub listed_length : (z : ℕ) (f : ℕ → ℕ) → length (listed z f) ≡ z
unfolding listed
listed_length zero f = refl
listed_length (suc z) f = ap suc (listed_length z (λ k. f (suc k)))

pub listed_at : (z : ℕ) (f : ℕ → ℕ) (k : ℕ) → k < z → at (listed z f) k ≡ f k
unfolding listed
listed_at zero f k l = absurd (omega arith)
listed_at (suc z) f zero l = refl
listed_at (suc z) f (suc k) l = listed_at z (λ k. f (suc k)) k (omega arith)

pub listed_residues : (p z : ℕ) (f : ℕ → ℕ) → 0 < p → ((k : ℕ) → k < z → f k < p) → Residues p z (listed z f)
listed_residues p z f positive h = record {
  many = listed_length z f;
  small = λ k. elim (dec_lt k z) [
    | yes l ↦ subst (λ (x : ℕ). x < p) (sym (listed_at z f k l)) (h k l)
    | no l ↦ subst (λ (x : ℕ). x < p) (sym (get_or-eq_default (listed z f) 0 {n = k} (omega (arith, listed_length z f)))) positive
  ];
}

-- place j of row i among rows of n
pub row_place : (i j m n : ℕ) → i < m → j < n → i * n + j < m * n
row_place i j m n a b =
    let e : suc i * n ≡ i * n + n = suc-mul i n in
    let g : suc i * n ≤ m * n = mul-le-mul {n₁ = suc i} {m₁ = n} {n₂ = m} {m₂ = n} a (omega arith) in
    omega arith

pub row_of : (i j n : ℕ) → j < n → (i * n + j) / n ≡ i
row_of i j n b = mul-add-div_right (omega arith) i j ∙ ap (λ (x : ℕ). i + x) (div-eq_of_lt b) ∙ add-zero i

pub place_of : (i j n : ℕ) → j < n → (i * n + j) % n ≡ j
place_of i j n b = mul-add-mod_self_right i n j ∙ mod-eq_of_lt b

-- the payload of a matrix
unfoldable pub matrix_listed : ℕ → Entries → List ℕ
matrix_listed n A = listed (n * n) (λ k. A (k / n) (k % n))

pub matrix_of_listed : (n : ℕ) (A : Entries) (i j : ℕ) → i < n → j < n → matrix n (matrix_listed n A) i j ≡ A i j
unfolding matrix matrix_listed
matrix_of_listed n A i j a b = listed_at (n * n) _ (i * n + j) (row_place i j n n a b) ∙ ap₂ A (row_of i j n b) (place_of i j n b)

pub matrix_listed_residues : (p n : ℕ) (A : Entries) → 0 < p → ((i j : ℕ) → A i j < p) → Residues p (n * n) (matrix_listed n A)
unfolding matrix_listed
matrix_listed_residues p n A positive h = listed_residues p (n * n) _ positive (λ k l. h (k / n) (k % n))

-- the payload of a matrix of polynomials
unfoldable pub polynomials_listed : ℕ → PolynomialEntries → List ℕ
polynomials_listed n P = listed (n * n * n) (λ x. P (x / n / n) ((x / n) % n) (x % n))

pub polynomials_of_listed : (n : ℕ) (P : PolynomialEntries) → ShortEntries n P → (i j : ℕ) → i < n → j < n → polynomial_matrix n (polynomials_listed n P) i j ≡ P i j
unfolding polynomial_matrix polynomials_listed
polynomials_of_listed n P short i j a b = fun_ext (λ k. elim (dec_lt k n) [
  | yes l ↦ cond_holds (ltb k n) _ 0 (lt→ltb k n l) ∙ listed_at (n * n * n) _ ((i * n + j) * n + k) (row_place (i * n + j) k (n * n) n (row_place i j n n a b) l)
      ∙ ap₂ (λ (x y : ℕ). P (x / n) (x % n) y) (row_of (i * n + j) k n l) (place_of (i * n + j) k n l) ∙ ap₂ (λ (x y : ℕ). P x y k) (row_of i j n b) (place_of i j n b)
  | no l ↦ cond_fails (ltb k n) _ 0 (λ t. l (ltb→lt k n t)) ∙ sym (short i j k (omega arith))
])

pub polynomials_listed_residues : (p n : ℕ) (P : PolynomialEntries) → 0 < p → ((i j k : ℕ) → P i j k < p) → Residues p (n * n * n) (polynomials_listed n P)
unfolding polynomials_listed
polynomials_listed_residues p n P positive h = listed_residues p (n * n * n) _ positive (λ x l. h (x / n / n) ((x / n) % n) (x % n))

-- lists of m rows of n that agree at every place of every row
rows_determine : (m n : ℕ) (s t : List ℕ) → 0 < n → length s ≡ m * n → length t ≡ m * n → ((i j : ℕ) → i < m → j < n → at s (i * n + j) ≡ at t (i * n + j)) → s ≡ t
rows_determine m n s t l a b h = ext_get_or 0 s t (a ∙ sym b) (λ x g.
    let w : x / n * n + x % n ≡ x = div-add-mod' x n in
    ap (at s) (sym w) ∙ h (x / n) (x % n) ((div-lt_iff_lt-mul l).1 (subst (λ (y : ℕ). x < y) a g)) (mod-lt x l) ∙ ap (at t) w)

pub matrix_determines : (p n : ℕ) (s t : List ℕ) → 0 < n → Residues p (n * n) s → Residues p (n * n) t → ((i j : ℕ) → i < n → j < n → matrix n s i j ≡ matrix n t i j) → s ≡ t
unfolding matrix
matrix_determines p n s t l a b h = rows_determine n n s t l a.many b.many h

pub diagonal_determines : (p n : ℕ) (s t : List ℕ) → Residues p (n * suc n) s → Residues p (n * suc n) t → ((i k : ℕ) → i < n → k < suc n → diagonal n s i k ≡ diagonal n t i k) → s ≡ t
diagonal_determines p n s t a b h = rows_determine n (suc n) s t (omega arith) a.many b.many
    (λ i k l g. sym (diagonal_at n s i k g) ∙ h i k l g ∙ diagonal_at n t i k g)
