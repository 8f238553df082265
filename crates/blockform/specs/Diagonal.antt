-- What the listing says of D: where a polynomial's first coefficient that is not 0 stands, and the lead.
use Rattle.std.specs.Prelude.{◌≡◌, Bool, true, false, cond, List, ℕ, zero, suc, ◌+◌, ◌*◌, ◌≤◌, ◌<◌, eqb, length, Option, Some, None, MatchOption, unwrap_or, ◌≢◌}
use Rattle.std.proofs.Math.Path.{refl, ap}
use Rattle.std.proofs.Common.{sym, ◌∙◌, ap₂, add-one, arith, eq-eqb, ne_eqb}
use Rattle.forms.specs.Numbers.{at, total}
use Rattle.forms.specs.Polynomials.{Coefficients, exponent}
use Rattle.forms.specs.Matrices.{diagonal}
use Rattle.forms.specs.Frobenius.{lead}
use Rattle.forms.specs.Bounds.{diagonal_at}
use Rattle.forms.specs.Tests.{total_suc}
use Rattle.matrices.specs.Parts.{row_of, HasRow, row_length, row_at}

-- the first k coefficients are 0, and the next, if there is one, is not
pub exponent_found : (n : ℕ) (f : Coefficients) (k : ℕ) → k ≤ n → ((i : ℕ) → i < k → f i ≡ 0) → (k < n → f k ≡ 0 → ⊥) → exponent n f ≡ k
unfolding exponent
exponent_found zero f k l z h = omega arith
exponent_found (suc n) f zero l z h = ap (λ (b : Bool). cond b (suc (exponent n (λ i. f (suc i)))) 0) (ne_eqb (f 0) 0 (h (omega arith)))
exponent_found (suc n) f (suc k) l z h = ap (λ (b : Bool). cond b (suc (exponent n (λ i. f (suc i)))) 0) (eq-eqb (f 0) 0 (z 0 (omega arith)))
    ∙ ap suc (exponent_found n (λ i. f (suc i)) k (omega arith) (λ i m. z (suc i) (omega arith)) (λ m. h (omega arith)))

-- r is the first index of s with a number that is not 0
abbrev pub FirstNonzero : List ℕ → Option ℕ → Type 0
FirstNonzero s r = MatchOption r ((k : ℕ) → k < length s → at s k ≡ 0) (λ i. (i < length s) × (at s i ≢ 0) × ((k : ℕ) → k < i → at s k ≡ 0))

pub exponent_first : (s : List ℕ) (r : Option ℕ) → FirstNonzero s r → unwrap_or r (length s) ≡ exponent (length s) (at s)
exponent_first s None h = sym (exponent_found (length s) (at s) (length s) (omega arith) h (λ m. absurd (omega arith)))
exponent_first s (Some i) h = sym (exponent_found (length s) (at s) i (omega (arith, h.0)) h.2 (λ m. h.1))

pub exponent_limited : (n : ℕ) (f : Coefficients) → exponent n f ≤ n
unfolding exponent
exponent_limited zero f = omega arith
exponent_limited (suc n) f = go (eqb (f 0) 0) (exponent_limited n (λ i. f (suc i)))
  where
    go : (b : Bool) → exponent n (λ i. f (suc i)) ≤ n → cond b (suc (exponent n (λ i. f (suc i)))) 0 ≤ suc n
    go true l = omega arith
    go false l = omega arith

exponent_equal : (n : ℕ) (f g : Coefficients) → ((k : ℕ) → k < n → f k ≡ g k) → exponent n f ≡ exponent n g
unfolding exponent
exponent_equal zero f g h = refl
exponent_equal (suc n) f g h = ap₂ (λ (x y : ℕ). cond (eqb x 0) (suc y) 0) (h 0 (omega arith)) (exponent_equal n (λ k. f (suc k)) (λ k. g (suc k)) (λ k l. h (suc k) (omega arith)))

-- row i of D is f (i + 1)
module _ (n : ℕ) (d : List ℕ) where
  pub row_exponent : (i : ℕ) {f : List ℕ} → HasRow d i (n + 1) → f ≡ row_of d i (n + 1) → exponent (length f) (at f) ≡ exponent (suc n) (diagonal n d i)
  row_exponent i h e =
      ap (λ (s : List ℕ). exponent (length s) (at s)) e
      ∙ ap (λ (z : ℕ). exponent z (at (row_of d i (n + 1)))) (row_length d i (n + 1) h ∙ add-one n)
      ∙ exponent_equal (suc n) (at (row_of d i (n + 1))) (diagonal n d i) (λ k l. row_at d i (n + 1) k (omega arith) ∙ ap (λ (w : ℕ). at d (i * w + k)) (add-one n) ∙ sym (diagonal_at n d i k l))

  -- the exponents of the first i polynomials
  unfoldable pub exponents : ℕ → ℕ
  exponents i = total i (λ k. exponent (suc n) (diagonal n d k))

  pub no_exponents : exponents 0 ≡ 0
  unfolding exponents total
  no_exponents = refl

  pub next_exponent : (i : ℕ) → exponents (i + 1) ≡ exponents i + exponent (suc n) (diagonal n d i)
  unfolding exponents
  next_exponent i = ap (λ (x : ℕ). total x (λ k. exponent (suc n) (diagonal n d k))) (add-one i) ∙ total_suc i (λ k. exponent (suc n) (diagonal n d k))

  pub exponents_are_lead : exponents n ≡ lead n (diagonal n d)
  unfolding exponents lead
  exponents_are_lead = refl
