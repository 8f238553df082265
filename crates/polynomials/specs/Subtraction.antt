-- One step of long division: what r - c X^k f is, byte by byte, and as a polynomial.
use Rattle.std.specs.Prelude.{◌≡◌, List, ℕ, ◌+◌, ◌*◌, ◌-◌, ◌%◌, ◌≤◌, ◌<◌, length}
use Rattle.std.proofs.Math.Path.{sym, ap, ap₂, subst}
use Rattle.std.proofs.Common.{◌∙◌, mod-lt}
use Rattle.std.proofs.Math.Decide.{dec_lt}
use native.Mathlib.Omega.{arith}
use Rattle.algebra.specs.Ring.{plus_zero, times_zero, minus_zero, minus_times}
use Rattle.algebra.specs.Polynomial as algebra
use Rattle.algebra.specs.Polynomial.{polynomials, polynomial_equal, plus_coefficient, minus_coefficient}
use Rattle.algebra.specs.Modular.{residue, modulo, residue_zero, residue_plus, residue_times, residue_minus, residue_remainder}
use Rattle.forms.specs.Numbers.{at}
use Rattle.polynomials.specs.Monomials.{monomial, monomial_times_from, monomial_times_below}
use Rattle.polynomials.specs.Canonical.{polynomial_of, polynomial_of_at}

-- d is r less c X^k times the first `count` coefficients of f
pub record Lessened (p : ℕ) (r f : List ℕ) (k c count : ℕ) (d : List ℕ) : Type 0 where
  pub long : length d ≡ length r
  pub before : (j : ℕ) → j < k → at d j ≡ at r j
  pub inside : (j : ℕ) → j < count → at d (k + j) ≡ (at r (k + j) + (p - c) * at f j) % p
  pub behind : (j : ℕ) → k + count ≤ j → at d j ≡ at r j

module _ (p : ℕ) (r f : List ℕ) (k c count : ℕ) (d : List ℕ) (h : Lessened p r f k c count d) (positive : 0 < p) where
  open modulo p use {plus as ◌⊕◌, times as ◌⊗◌, minus as ⊖◌}

  infixl 60 ◌⊕◌
  infixl 70 ◌⊗◌
  infix 80 ⊖◌
  open polynomials (modulo p) use {plus as ◌+ᵖ◌, times as ◌*ᵖ◌, minus as -ᵖ◌}

  infixl 60 ◌+ᵖ◌
  infixl 70 ◌*ᵖ◌
  infix 80 -ᵖ◌
  pub lessened_small : ((j : ℕ) → at r j < p) → (j : ℕ) → at d j < p
  lessened_small s j = elim (dec_lt j k) [
    | yes l ↦ rw (h.before j l) (s j)
    | no l ↦ elim (dec_lt j (k + count)) [
      | yes m ↦ (let e : k + (j - k) ≡ j = omega arith in subst (λ (x : ℕ). at d x < p) e (rw (h.inside (j - k) (omega arith)) (mod-lt _ positive)))
      | no m ↦ rw (h.behind j (omega arith)) (s j)
    ]
  ]

  pub lessened_inside : c ≤ p → (j : ℕ) → j < count → residue p (at d (k + j)) ≡ residue p (at r (k + j)) ⊕ ⊖ (residue p c ⊗ residue p (at f j))
  lessened_inside l j m =
      ap (residue p) (h.inside j m) ∙ residue_remainder p _ positive ∙ residue_plus p _ _
      ∙ ap (λ x. residue p (at r (k + j)) ⊕ x) (residue_times p (p - c) (at f j) ∙ ap (λ x. x ⊗ residue p (at f j)) (residue_minus p c l positive) ∙ minus_times (modulo p) _ _)

  module _ (l : c ≤ p) (rest : (j : ℕ) → count ≤ j → at f j ≡ 0) where
    from_residue : (j : ℕ) → residue p (at d (k + j)) ≡ residue p (at r (k + j)) ⊕ ⊖ (residue p c ⊗ residue p (at f j))
    from_residue j = elim (dec_lt j count) [
      | yes m ↦ lessened_inside l j m
      | no m ↦ ap (residue p) (h.behind (k + j) (omega arith)) ∙ sym (ap (λ x. residue p (at r (k + j)) ⊕ ⊖ (residue p c ⊗ x)) (ap (residue p) (rest j (omega arith)) ∙ residue_zero p)
          ∙ ap (λ x. residue p (at r (k + j)) ⊕ ⊖ x) (times_zero (modulo p) _) ∙ ap (λ x. residue p (at r (k + j)) ⊕ x) (minus_zero (modulo p)) ∙ plus_zero (modulo p) _)
    ]

    multiple : algebra.Polynomial (modulo p)
    multiple = monomial (modulo p) (residue p c) k *ᵖ polynomial_of p f

    coefficient : (j : ℕ) → residue p (at d j) ≡ residue p (at r j) ⊕ ⊖ (multiple.0 j)
    unfolding multiple
    coefficient j = elim (dec_lt j k) [
      | yes m ↦ ap (residue p) (h.before j m)
          ∙ sym (ap (λ x. residue p (at r j) ⊕ ⊖ x) (monomial_times_below (modulo p) (residue p c) k (polynomial_of p f) j m) ∙ ap (λ x. residue p (at r j) ⊕ x) (minus_zero (modulo p)) ∙ plus_zero (modulo p) _)
      | no m ↦ (let e : k + (j - k) ≡ j = omega arith in
          subst (λ (x : ℕ). residue p (at d x) ≡ residue p (at r x) ⊕ ⊖ (multiple.0 x)) e
          (from_residue (j - k) ∙ ap (λ x. residue p (at r (k + (j - k))) ⊕ ⊖ x)
          (sym (monomial_times_from (modulo p) (residue p c) k (polynomial_of p f) (j - k) ∙ ap (λ x. residue p c ⊗ x) (polynomial_of_at p f (j - k))))))
    ]

    pub lessened_polynomial : polynomial_of p d ≡ polynomial_of p r +ᵖ -ᵖ (monomial (modulo p) (residue p c) k *ᵖ polynomial_of p f)
    unfolding multiple
    lessened_polynomial = polynomial_equal (modulo p) _ _ (λ j. polynomial_of_at p d j ∙ coefficient j
        ∙ sym (plus_coefficient (modulo p) (polynomial_of p r) (-ᵖ multiple) j ∙ ap₂ ◌⊕◌ (polynomial_of_at p r j) (minus_coefficient (modulo p) multiple j)))
