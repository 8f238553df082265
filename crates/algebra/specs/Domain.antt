-- Domains, fields and Bezout domains, as records over a ring, with a decision whether an element is zero.
use Rattle.std.specs.Prelude.{◌≡◌, refl, ◌≢◌}
use Rattle.std.proofs.Common.{sym, ◌∙◌, ap}
use Rattle.algebra.specs.Ring.{Ring, zero_plus, one_times, times_associative, times_left_commutative, times_zero, plus_minus}
use Rattle.algebra.specs.Solver.{◌:+◌, ◌:*◌, :-◌, solve₃}

pub record Domain {R : Type 0} (K : Ring R) : Type 0 where
  pub decide : (a : R) → Dec (a ≡ K.zero)
  pub nonzero_times : (a b : R) → a ≢ K.zero → b ≢ K.zero → K.times a b ≢ K.zero
  pub one_nonzero : K.one ≢ K.zero

pub record Field {R : Type 0} (K : Ring R) : Type 0 where
  pub decide : (a : R) → Dec (a ≡ K.zero)
  pub inverse : (a : R) → a ≢ K.zero → (b : R) × (K.times a b ≡ K.one)
  pub one_nonzero : K.one ≢ K.zero

-- a common factor of a and b whose cofactors have a combination equal to one
pub record Bezout {R : Type 0} (K : Ring R) (a b : R) : Type 0 where
  pub common : R
  pub left : R
  pub right : R
  pub left_is : a ≡ K.times common left
  pub right_is : b ≡ K.times common right
  pub of_left : R
  pub of_right : R
  pub coprime : K.plus (K.times of_left left) (K.times of_right right) ≡ K.one

pub record BezoutDomain {R : Type 0} (K : Ring R) : Type 0 where
  pub domain : Domain K
  pub bezout : (a b : R) → Bezout K a b

module _ {R : Type 0} (K : Ring R) where
  open K use {plus as ◌⊕◌, times as ◌⊗◌, minus as ⊖◌, zero as 𝟘, one as 𝟙}

  infixl 60 ◌⊕◌
  infixl 70 ◌⊗◌
  infix 80 ⊖◌
  pub equal_of_difference : (a b : R) → a ⊕ ⊖ b ≡ 𝟘 → a ≡ b
  equal_of_difference a b z = solve₃ K (λ a b c. a) (λ a b c. (a :+ :- b) :+ b) refl a b b ∙ ap (λ x. x ⊕ b) z ∙ zero_plus K b

  -- an element with an inverse is no zero divisor
  pub unit_cancel_zero : (a c b : R) → a ⊗ c ≡ 𝟙 → a ⊗ b ≡ 𝟘 → b ≡ 𝟘
  unit_cancel_zero a c b e z =
      sym (one_times K b) ∙ ap (λ x. x ⊗ b) (sym e) ∙ times_associative K a c b ∙ times_left_commutative K a c b
      ∙ ap (λ x. c ⊗ x) z ∙ times_zero K c

  pub field_domain : Field K → Domain K
  field_domain F = record {
    decide = F.decide;
    nonzero_times = λ a b ha hb z. (let I = F.inverse a ha in hb (unit_cancel_zero a I.0 b I.1 z));
    one_nonzero = F.one_nonzero;
  }

  module _ (D : Domain K) where
    pub cancel_zero : (a b : R) → a ≢ 𝟘 → a ⊗ b ≡ 𝟘 → b ≡ 𝟘
    cancel_zero a b h z = elim (D.decide b) [ yes e ↦ e | no n ↦ absurd (D.nonzero_times a b h n z) ]

    pub cancel : (a b c : R) → a ≢ 𝟘 → a ⊗ b ≡ a ⊗ c → b ≡ c
    cancel a b c h e = equal_of_difference b c (cancel_zero a (b ⊕ ⊖ c) h
        (solve₃ K (λ a b c. a :* (b :+ :- c)) (λ a b c. a :* b :+ :- (a :* c)) refl a b c ∙ ap (λ x. x ⊕ ⊖ (a ⊗ c)) e ∙ plus_minus K _))
