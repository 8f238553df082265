-- The polynomials over a field are a Bezout domain, by Euclid's algorithm.
use Rattle.std.specs.Prelude.{◌≡◌, refl, [], ◌∷◌, ℕ, zero, suc, ◌<◌}
use Rattle.std.proofs.Common.{sym, ◌∙◌, ap₂, arith}
use Rattle.algebra.specs.Ring.{Ring, times_one, times_zero}
use Rattle.algebra.specs.Solver.{var, ◌:+◌, ◌:*◌, :-◌, :0, :1, solve, solve₄}
use Rattle.algebra.specs.Domain.{Domain, Field, Bezout, BezoutDomain, field_domain}
use Rattle.algebra.specs.Polynomial.{Below, Polynomial, polynomials, zero_of_below}
use Rattle.algebra.specs.Degree.{degree, degree_below, polynomials_over_domain}
use Rattle.algebra.specs.Division.{divide_nonzero}

module _ {R : Type 0} (K : Ring R) where
  open K use {plus as ◌⊕◌, times as ◌⊗◌, minus as ⊖◌, zero as 𝟘, one as 𝟙}

  infixl 60 ◌⊕◌
  infixl 70 ◌⊗◌
  infix 80 ⊖◌
  bezout_zero : (a b : R) → b ≡ 𝟘 → Bezout K a b
  bezout_zero a b z = record {
    common = a;
    left = 𝟙;
    right = 𝟘;
    left_is = sym (times_one K a);
    right_is = z ∙ sym (times_zero K a);
    of_left = 𝟙;
    of_right = 𝟘;
    coprime = solve K [] (:1 :* :1 :+ :0 :* :0) :1 refl;
  }

  -- one step of the algorithm
  bezout_step : (a b q r : R) → a ≡ q ⊗ b ⊕ r → Bezout K b r → Bezout K a b
  bezout_step a b q r e z = record {
    common = z.common;
    left = q ⊗ z.left ⊕ z.right;
    right = z.left;
    left_is = e ∙ ap₂ (λ x y. q ⊗ x ⊕ y) z.left_is z.right_is
        ∙ solve₄ K (λ q g x y. q :* (g :* x) :+ g :* y) (λ q g x y. g :* (q :* x :+ y)) refl q z.common z.left z.right;
    right_is = z.left_is;
    of_left = z.of_right;
    of_right = z.of_left ⊕ ⊖ (z.of_right ⊗ q);
    coprime = solve K (q ∷ z.left ∷ z.right ∷ z.of_left ∷ z.of_right ∷ [])
        (var 4 :* (var 0 :* var 1 :+ var 2) :+ (var 3 :+ :- (var 4 :* var 0)) :* var 1) (var 3 :* var 1 :+ var 4 :* var 2) refl
        ∙ z.coprime;
  }

module _ {R : Type 0} (K : Ring R) (F : Field K) where
  pub polynomial_domain : Domain (polynomials K)
  polynomial_domain = polynomials_over_domain K (field_domain K F)

  -- by the number of coefficients of b
  bezout_upto : (n : ℕ) (a b : Polynomial K) → Below K n b.0 → Bezout (polynomials K) a b
  bezout_upto zero a b l = bezout_zero (polynomials K) a b (zero_of_below K b l)
  bezout_upto (suc n) a b l = elim (polynomial_domain.decide b) [
    | yes z ↦ bezout_zero (polynomials K) a b z
    | no k ↦ (let (d, h, D) = divide_nonzero K F b k a in
        let g : d < suc n = degree_below K d (suc n) b.0 h l in
        bezout_step (polynomials K) a b D.quotient D.remainder D.equation
        (bezout_upto n b D.remainder (λ i m. D.below i (omega arith))))
  ]

  pub polynomial_bezout : BezoutDomain (polynomials K)
  polynomial_bezout = record {
    domain = polynomial_domain;
    bezout = λ a b. elim (polynomial_domain.decide b) [
      | yes z ↦ bezout_zero (polynomials K) a b z
      | no k ↦ (let (d, h) = degree K (field_domain K F) b k in bezout_upto (suc d) a b h.below)
    ];
  }
