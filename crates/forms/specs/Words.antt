-- What the rules mean: a certificate of A, residues laid out as the layout asks, and similar matrices.
use Rattle.std.specs.Prelude.{◌≡◌, List, ℕ, suc, ◌*◌, ◌%◌, ◌≤◌, ◌<◌, T, length}
use Rattle.forms.specs.Numbers.{at, total, prime, order_limit}
use Rattle.forms.specs.Polynomials.{Coefficients, convolution}
use Rattle.forms.specs.Matrices.{Entries, PolynomialEntries, matrix, polynomial_matrix, diagonal, unit, polynomial_unit, diagonal_matrix, characteristic, field_product, polynomial_product}
use Rattle.forms.specs.Frobenius.{frobenius}
use Rattle.forms.specs.Certificate.{Certificate, payload, size}

-- equal modulo p, at order n
abbrev pub FieldEqual : ℕ → ℕ → Entries → Entries → Type 0
FieldEqual p n A B = (i j : ℕ) → i < n → j < n → A i j % p ≡ B i j % p

abbrev pub PolynomialEqual : ℕ → ℕ → PolynomialEntries → PolynomialEntries → Type 0
PolynomialEqual p n P Q = (i j k : ℕ) → i < n → j < n → P i j k % p ≡ Q i j k % p

-- g = f q modulo p, with q of degree at most n
abbrev pub PolynomialDivides : ℕ → ℕ → Coefficients → Coefficients → Type 0
PolynomialDivides p n f g = (q : Coefficients) × ((k : ℕ) → n < k → q k ≡ 0) × ((k : ℕ) → convolution f q k % p ≡ g k % p)

-- c is a certificate of A: f_i is monic of degree (degree i) and divides the next, the degrees add up to n, P, Q and T are invertible,
-- P(XE-A)Q = D, F is built from D and A T = T F
pub record Certified (p n : ℕ) (A : List ℕ) (c : Certificate) : Type 0 where
  pub given : (c.p ≡ p) × (c.n ≡ n) × (c.MA ≡ A)
  pub degree : ℕ → ℕ
  pub monic : (i : ℕ) → i < n → diagonal n c.DF i (degree i) ≡ 1
  pub above : (i k : ℕ) → i < n → degree i < k → diagonal n c.DF i k ≡ 0
  pub chain : (i : ℕ) → suc i < n → PolynomialDivides p n (diagonal n c.DF i) (diagonal n c.DF (suc i))
  pub degrees : total n degree ≡ n
  pub P_PI : PolynomialEqual p n (polynomial_product n (polynomial_matrix n c.PL) (polynomial_matrix n c.PI)) polynomial_unit
  pub PI_P : PolynomialEqual p n (polynomial_product n (polynomial_matrix n c.PI) (polynomial_matrix n c.PL)) polynomial_unit
  pub Q_QI : PolynomialEqual p n (polynomial_product n (polynomial_matrix n c.QR) (polynomial_matrix n c.QI)) polynomial_unit
  pub QI_Q : PolynomialEqual p n (polynomial_product n (polynomial_matrix n c.QI) (polynomial_matrix n c.QR)) polynomial_unit
  pub smith : PolynomialEqual p n (polynomial_product n (polynomial_product n (polynomial_matrix n c.PL) (characteristic p (matrix n A))) (polynomial_matrix n c.QR)) (diagonal_matrix (diagonal n c.DF))
  pub built : (i j : ℕ) → i < n → j < n → matrix n c.FB i j ≡ frobenius p n (diagonal n c.DF) i j
  pub T_TI : FieldEqual p n (field_product n (matrix n c.TB) (matrix n c.TI)) unit
  pub TI_T : FieldEqual p n (field_product n (matrix n c.TI) (matrix n c.TB)) unit
  pub A_T : FieldEqual p n (field_product n (matrix n A) (matrix n c.TB)) (field_product n (matrix n c.TB) (matrix n c.FB))

-- s is z residues (past its end a list reads 0)
pub record Residues (p z : ℕ) (s : List ℕ) : Type 0 where
  pub many : length s ≡ z
  pub small : (k : ℕ) → at s k < p

-- n and p are in their limits, and every payload after HD is residues, as many as the layout asks
pub record LaidOut (c : Certificate) : Type 0 where
  pub low : 1 ≤ c.n
  pub high : c.n ≤ order_limit
  pub prime_p : T (prime c.p)
  pub residues : (k : ℕ) → 1 ≤ k → k < 10 → Residues c.p (size c.n k) (payload c k)

-- A C = C B with C invertible over the field
pub record Similar (p n : ℕ) (A B : List ℕ) : Type 0 where
  pub C : List ℕ
  pub CI : List ℕ
  pub C_residues : Residues p (n * n) C
  pub CI_residues : Residues p (n * n) CI
  pub C_CI : FieldEqual p n (field_product n (matrix n C) (matrix n CI)) unit
  pub CI_C : FieldEqual p n (field_product n (matrix n CI) (matrix n C)) unit
  pub A_C : FieldEqual p n (field_product n (matrix n A) (matrix n C)) (field_product n (matrix n C) (matrix n B))
