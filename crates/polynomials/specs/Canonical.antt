-- Polynomials by value: the polynomial over F_p that a value stands for, and the canonical values, one for each polynomial.
use Rattle.std.specs.Prelude.{◌≡◌, ◌≢◌, ◌↔◌, List, ℕ, suc, ◌-◌, ◌≤◌, ◌<◌, length}
use Rattle.std.proofs.Common.{sym, ◌∙◌, ap, arith, ext_get_or}
use Rattle.std.proofs.Math.Decide.{dec_lt}
use Rattle.std.proofs.Math.ListN.{get_or-eq_default}
use Rattle.algebra.specs.Polynomial as algebra
use Rattle.algebra.specs.Polynomial.{Below, polynomials, zero_of_below}
use Rattle.algebra.specs.Degree.{Degree, degree_nonzero}
use Rattle.algebra.specs.Modular.{residue, modulo, residue_zero, residue_injective}
use Rattle.forms.specs.Numbers.{at, order_limit}
use Rattle.forms.specs.Rings as rings
use Rattle.polynomials.specs.declared.Polynomial.{Polynomial}

-- as many coefficients as a polynomial of the largest degree has
abbrev pub coefficient_limit : ℕ
coefficient_limit = suc order_limit

-- the polynomial with the coefficients s
pub polynomial_of : (p : ℕ) → List ℕ → algebra.Polynomial (modulo p)
polynomial_of p s = rings.polynomial p (length s) (at s) (λ k l. get_or-eq_default s 0 l)

pub polynomial_of_at : (p : ℕ) (s : List ℕ) (k : ℕ) → (polynomial_of p s).0 k ≡ residue p (at s k)
unfolding polynomial_of
polynomial_of_at p s k = rings.polynomial_coefficient p (length s) (at s) _ k

-- what f stands for
abbrev pub polynomial : (p : ℕ) → Polynomial → algebra.Polynomial (modulo p)
polynomial p f = polynomial_of p f.coefficients

-- `len` coefficients, the last of them not zero, and zeros behind them
pub record Trimmed (f : Polynomial) : Type 0 where
  pub long : length f.coefficients ≡ coefficient_limit
  pub fits : f.len ≤ coefficient_limit
  pub rest : (k : ℕ) → f.len ≤ k → at f.coefficients k ≡ 0
  pub last : 0 < f.len → at f.coefficients (f.len - 1) ≢ 0

-- and each coefficient is a residue
pub record Canonical (p : ℕ) (f : Polynomial) : Type 0 where
  pub trimmed : Trimmed f
  pub small : (k : ℕ) → at f.coefficients k < p

-- no more coefficients than zeros allow
pub trimmed_upto : (f : Polynomial) → Trimmed f → (n : ℕ) → ((k : ℕ) → n ≤ k → at f.coefficients k ≡ 0) → f.len ≤ n
trimmed_upto f t n h = elim (dec_lt n f.len) [ yes l ↦ absurd (t.last (omega arith) (h (f.len - 1) (omega arith))) | no l ↦ omega arith ]

same_length : (f g : Polynomial) → Trimmed f → Trimmed g → f.coefficients ≡ g.coefficients → f.len ≡ g.len
same_length f g s t e =
    let a = trimmed_upto f s g.len (λ k l. ap (λ (x : List ℕ). at x k) e ∙ t.rest k l) in
    let b = trimmed_upto g t f.len (λ k l. ap (λ (x : List ℕ). at x k) (sym e) ∙ s.rest k l) in
    omega arith

-- a trimmed value is known by its coefficients, and a canonical one by its polynomial, byte by byte
pub trimmed_determined : (f g : Polynomial) → Trimmed f → Trimmed g → ((k : ℕ) → at f.coefficients k ≡ at g.coefficients k) → f ≡ g
trimmed_determined f g s t h =
    let c = ext_get_or 0 f.coefficients g.coefficients (s.long ∙ sym t.long) (λ k l. h k) in
    let e = same_length f g s t c in
    λ i. record { coefficients = c i; len = e i }

pub canonical_determined : (p : ℕ) (f g : Polynomial) → Canonical p f → Canonical p g → polynomial p f ≡ polynomial p g → f ≡ g
canonical_determined p f g s t e = trimmed_determined f g s.trimmed t.trimmed (λ k. residue_injective p _ _ (s.small k) (t.small k)
    (sym (polynomial_of_at p f.coefficients k) ∙ ap (λ (x : algebra.Polynomial (modulo p)). x.0 k) e ∙ polynomial_of_at p g.coefficients k))

module _ (p : ℕ) (f : Polynomial) (h : Canonical p f) where
  pub canonical_below : Below (modulo p) f.len (polynomial p f).0
  canonical_below k l = polynomial_of_at p f.coefficients k ∙ ap (residue p) (h.trimmed.rest k l) ∙ residue_zero p

  pub canonical_degree : 0 < f.len → Degree (modulo p) (f.len - 1) (polynomial p f).0
  canonical_degree l = record {
    below = λ k m. canonical_below k (omega arith);
    lead = λ e. h.trimmed.last l (residue_injective p _ 0 (h.small (f.len - 1)) (omega (arith, h.small 0)) (sym (polynomial_of_at p f.coefficients (f.len - 1)) ∙ e ∙ sym (residue_zero p)));
  }

  -- zero is the value without coefficients
  pub canonical_zero : (f.len ≡ 0) ↔ (polynomial p f ≡ (polynomials (modulo p)).zero)
  canonical_zero = (
    (λ e. zero_of_below (modulo p) (polynomial p f) (λ k l. canonical_below k (omega arith))),
    (λ e. elim (dec_lt 0 f.len) [ yes l ↦ absurd (degree_nonzero (modulo p) (polynomial p f) (f.len - 1, canonical_degree l) e) | no l ↦ omega arith ]),
  )
