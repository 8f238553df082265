-- Long division: what a quotient and a remainder are, and what the loop keeps until it has them.
use Rattle.std.specs.Prelude.{◌≡◌, refl, List, ℕ, ◌+◌, ◌*◌, ◌-◌, ◌%◌, ◌≤◌, ◌<◌, length, set}
use Rattle.std.proofs.Common.{sym, ◌∙◌, ap, ap₂, subst, zero-add, mod-lt, mod-eq_of_lt, arith, length-set, get_or-set_same, get_or-set_other}
use Rattle.std.proofs.Math.Decide.{ℕ_discrete}
use Rattle.std.proofs.lemmas.List.{length-replicate}
use Rattle.algebra.specs.Ring.{zero_plus, plus_zero, zero_times, times_one, times_associative, times_commutative, plus_minus}
use Rattle.algebra.specs.Solver.{◌:+◌, ◌:*◌, :-◌, solve₄}
use Rattle.algebra.specs.Polynomial.{polynomials, polynomial_equal, plus_coefficient, zero_coefficient}
use Rattle.algebra.specs.Modular.{Prime, positive, residue, modulo, residue_zero, residue_one, residue_times, residue_remainder, residue_equal, residue_injective}
use Rattle.forms.specs.Numbers.{at}
use Rattle.forms.specs.Reciprocals.{InverseOf}
use Rattle.polynomials.specs.declared.Polynomial.{Polynomial}
use Rattle.polynomials.specs.declared.Division.{Division}
use Rattle.polynomials.specs.Monomials.{monomial, monomial_same, monomial_other}
use Rattle.polynomials.specs.Canonical.{coefficient_limit, polynomial_of, polynomial_of_at, polynomial, Canonical}
use Rattle.polynomials.specs.Taking.{zeros, zeros_at}
use Rattle.polynomials.specs.Subtraction.{Lessened, lessened_inside, lessened_small, lessened_polynomial}

module _ (p : ℕ) where
  open modulo p use {plus as ◌⊕◌, times as ◌⊗◌, minus as ⊖◌, zero as 𝟘, one as 𝟙}

  infixl 60 ◌⊕◌
  infixl 70 ◌⊗◌
  infix 80 ⊖◌
  open polynomials (modulo p) use {plus as ◌+ᵖ◌, times as ◌*ᵖ◌, minus as -ᵖ◌, zero as 0ᵖ}

  infixl 60 ◌+ᵖ◌
  infixl 70 ◌*ᵖ◌
  infix 80 -ᵖ◌
  -- g = quotient f + remainder, with the remainder zero or of smaller degree than f
  pub record Divided (g f : Polynomial) (r : Division) : Type 0 where
    pub quotient : Canonical p r.quotient
    pub remainder : Canonical p r.remainder
    pub smaller : r.remainder.len < f.len
    pub equation : polynomial p g ≡ polynomial p r.quotient *ᵖ polynomial p f +ᵖ polynomial p r.remainder

  -- g = q f + r, where r has at most `top` coefficients and q those from top - count + 1 on
  pub record Dividing (g f : List ℕ) (count top : ℕ) (q r : List ℕ) : Type 0 where
    pub q_long : length q ≡ coefficient_limit
    pub r_long : length r ≡ coefficient_limit
    pub q_small : (k : ℕ) → at q k < p
    pub r_small : (k : ℕ) → at r k < p
    pub q_free : (k : ℕ) → k + count ≤ top → at q k ≡ 0
    pub r_rest : (k : ℕ) → top ≤ k → at r k ≡ 0
    pub equation : polynomial_of p g ≡ polynomial_of p q *ᵖ polynomial_of p f +ᵖ polynomial_of p r

  polynomial_of_zeros : polynomial_of p zeros ≡ 0ᵖ
  polynomial_of_zeros = polynomial_equal (modulo p) _ _ (λ k. polynomial_of_at p zeros k ∙ ap (residue p) (zeros_at k) ∙ residue_zero p ∙ sym (zero_coefficient (modulo p) k))

  pub dividing_start : {g : Polynomial} {f : List ℕ} {count : ℕ} → Canonical p g → Dividing g.coefficients f count g.len zeros g.coefficients
  dividing_start {g} {f} h = record {
    q_long = length-replicate {A = ℕ} coefficient_limit 0;
    r_long = h.trimmed.long;
    q_small = λ k. rw (zeros_at k) (omega (arith, h.small 0));
    r_small = h.small;
    q_free = λ k l. zeros_at k;
    r_rest = h.trimmed.rest;
    equation = sym (ap (λ x. x *ᵖ polynomial_of p f +ᵖ polynomial_of p g.coefficients) polynomial_of_zeros ∙ ap (λ x. x +ᵖ polynomial_of p g.coefficients) (zero_times (polynomials (modulo p)) _) ∙ zero_plus (polynomials (modulo p)) _);
  }

  -- a coefficient c at a free place k is c X^k more
  polynomial_of_set : (q : List ℕ) (k c : ℕ) → k < length q → at q k ≡ 0 → polynomial_of p (set q k c) ≡ polynomial_of p q +ᵖ monomial (modulo p) (residue p c) k
  polynomial_of_set q k c l z = polynomial_equal (modulo p) _ _ (λ j. polynomial_of_at p (set q k c) j ∙ coefficient j
      ∙ sym (plus_coefficient (modulo p) (polynomial_of p q) (monomial (modulo p) (residue p c) k) j ∙ ap (λ x. x ⊕ (monomial (modulo p) (residue p c) k).0 j) (polynomial_of_at p q j)))
    where
      coefficient : (j : ℕ) → residue p (at (set q k c) j) ≡ residue p (at q j) ⊕ (monomial (modulo p) (residue p c) k).0 j
      coefficient j = elim (ℕ_discrete j k) [
        | yes e ↦ rw e (ap (residue p) (get_or-set_same q k c 0 l) ∙ sym (ap₂ ◌⊕◌ (ap (residue p) z ∙ residue_zero p) (monomial_same (modulo p) (residue p c) k) ∙ zero_plus (modulo p) _))
        | no o ↦ ap (residue p) (get_or-set_other q k j c 0 o) ∙ sym (ap (λ x. residue p (at q j) ⊕ x) (monomial_other (modulo p) (residue p c) k j o) ∙ plus_zero (modulo p) _)
      ]

  inverse_residue : (x y : ℕ) → 1 < p → InverseOf p x y → 0 < x → residue p x ⊗ residue p y ≡ 𝟙
  inverse_residue x y l h m = sym (residue_times p x y) ∙ residue_equal p (x * y) 1 (omega arith) (h.of_other m ∙ sym (mod-eq_of_lt l)) ∙ residue_one p

  -- one turn, by a canonical f that is not zero
  module _ (P : Prime p) {g : List ℕ} {f : Polynomial} (F : Canonical p f) (some : 0 < f.len) {reciprocal : ℕ} (I : InverseOf p (at f.coefficients (f.len - 1)) reciprocal)
      {top : ℕ} {q r : List ℕ} (D : Dividing g f.coefficients f.len top q r) (more : f.len ≤ top) (room : top ≤ coefficient_limit)
      {k c : ℕ} (k_is : k ≡ top - f.len) (c_is : c ≡ (0 + at r (top - 1) * reciprocal) % p) {d : List ℕ} (L : Lessened p r f.coefficients k c f.len d) where
    c_small : c < p
    c_small = rw c_is (mod-lt _ (positive p P))

    lead_positive : 0 < at f.coefficients (f.len - 1)
    lead_positive = omega (arith, F.trimmed.last some)

    multiple_is_lead : residue p c ⊗ residue p (at f.coefficients (f.len - 1)) ≡ residue p (at r (top - 1))
    multiple_is_lead =
        ap (λ x. x ⊗ residue p (at f.coefficients (f.len - 1))) (ap (residue p) c_is ∙ residue_remainder p _ (positive p P) ∙ ap (residue p) (zero-add _) ∙ residue_times p _ reciprocal)
        ∙ times_associative (modulo p) _ _ _
        ∙ ap (λ x. residue p (at r (top - 1)) ⊗ x) (times_commutative (modulo p) _ _ ∙ inverse_residue _ reciprocal P.large I lead_positive)
        ∙ times_one (modulo p) _

    -- the leading coefficient is taken away
    lead_gone : at d (top - 1) ≡ 0
    lead_gone =
        let e : k + (f.len - 1) ≡ top - 1 = omega arith in
        residue_injective p _ 0 (lessened_small p r _ k c _ d L (positive p P) D.r_small (top - 1)) (positive p P)
        (subst (λ (x : ℕ). residue p (at d x) ≡ residue p (at r x) ⊕ ⊖ (residue p c ⊗ residue p (at f.coefficients (f.len - 1)))) e
        (lessened_inside p r _ k c _ d L (positive p P) (omega (arith, c_small)) (f.len - 1) (omega arith))
        ∙ ap (λ x. residue p (at r (top - 1)) ⊕ ⊖ x) multiple_is_lead ∙ plus_minus (modulo p) _ ∙ sym (residue_zero p))

    pub dividing_turn : Dividing g f.coefficients f.len (top - 1) (set q k c) d
    dividing_turn = record {
      q_long = length-set q k c ∙ D.q_long;
      r_long = L.long ∙ D.r_long;
      q_small = λ j. elim (ℕ_discrete j k) [
        | yes e ↦ rw (e, get_or-set_same q k c 0 (omega (arith, D.q_long))) c_small
        | no o ↦ rw (get_or-set_other q k j c 0 o) (D.q_small j)
      ];
      r_small = lessened_small p r _ k c _ d L (positive p P) D.r_small;
      q_free = λ j l. get_or-set_other q k j c 0 (omega arith) ∙ D.q_free j (omega arith);
      r_rest = λ j l. elim (ℕ_discrete j (top - 1)) [
        | yes e ↦ rw e lead_gone
        | no o ↦ L.behind j (omega arith) ∙ D.r_rest j (omega arith)
      ];
      equation = D.equation ∙ solve₄ (polynomials (modulo p)) (λ q f r m. q :* f :+ r) (λ q f r m. (q :+ m) :* f :+ (r :+ :- (m :* f))) refl (polynomial_of p q) (polynomial_of p f.coefficients) (polynomial_of p r) (monomial (modulo p) (residue p c) k)
          ∙ ap₂ (λ x y. x *ᵖ polynomial_of p f.coefficients +ᵖ y) (sym (polynomial_of_set q k c (omega (arith, D.q_long)) (D.q_free k (omega arith))))
          (sym (lessened_polynomial p r f.coefficients k c f.len d L (positive p P) (omega (arith, c_small)) F.trimmed.rest));
    }
