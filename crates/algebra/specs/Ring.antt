-- Commutative rings, as a record over the carrier, and the laws that follow from its fields.
-- Each field stands again as a lemma over the ring, so that `rw`, `simp` and rulesets can name it.
use Rattle.std.specs.Prelude.{◌≡◌}
use Rattle.std.proofs.Common.{sym, ◌∙◌, ap}

pub record Ring (R : Type 0) : Type 0 where
  pub plus : R → R → R
  pub times : R → R → R
  pub minus : R → R
  pub zero : R
  pub one : R
  pub is_set : IsSet R
  pub plus_associative : (a b c : R) → plus (plus a b) c ≡ plus a (plus b c)
  pub plus_commutative : (a b : R) → plus a b ≡ plus b a
  pub zero_plus : (a : R) → plus zero a ≡ a
  pub minus_plus : (a : R) → plus (minus a) a ≡ zero
  pub times_associative : (a b c : R) → times (times a b) c ≡ times a (times b c)
  pub times_commutative : (a b : R) → times a b ≡ times b a
  pub one_times : (a : R) → times one a ≡ a
  pub times_plus : (a b c : R) → times a (plus b c) ≡ plus (times a b) (times a c)

module _ {R : Type 0} (K : Ring R) where
  open K use {plus as ◌⊕◌, times as ◌⊗◌, minus as ⊖◌, zero as 𝟘, one as 𝟙}

  infixl 60 ◌⊕◌
  infixl 70 ◌⊗◌
  infix 80 ⊖◌
  pub plus_associative : (a b c : R) → (a ⊕ b) ⊕ c ≡ a ⊕ (b ⊕ c)
  plus_associative = K.plus_associative

  pub plus_commutative : (a b : R) → a ⊕ b ≡ b ⊕ a
  plus_commutative = K.plus_commutative

  pub plus_left_commutative : (a b c : R) → a ⊕ (b ⊕ c) ≡ b ⊕ (a ⊕ c)
  plus_left_commutative a b c = sym (plus_associative a b c) ∙ ap (λ x. x ⊕ c) (plus_commutative a b) ∙ plus_associative b a c

  pub times_associative : (a b c : R) → (a ⊗ b) ⊗ c ≡ a ⊗ (b ⊗ c)
  times_associative = K.times_associative

  pub times_commutative : (a b : R) → a ⊗ b ≡ b ⊗ a
  times_commutative = K.times_commutative

  pub times_left_commutative : (a b c : R) → a ⊗ (b ⊗ c) ≡ b ⊗ (a ⊗ c)
  times_left_commutative a b c = sym (times_associative a b c) ∙ ap (λ x. x ⊗ c) (times_commutative a b) ∙ times_associative b a c

  pub zero_plus : (a : R) → 𝟘 ⊕ a ≡ a
  zero_plus = K.zero_plus

  pub plus_zero : (a : R) → a ⊕ 𝟘 ≡ a
  plus_zero a = plus_commutative a 𝟘 ∙ zero_plus a

  pub one_times : (a : R) → 𝟙 ⊗ a ≡ a
  one_times = K.one_times

  pub times_one : (a : R) → a ⊗ 𝟙 ≡ a
  times_one a = times_commutative a 𝟙 ∙ one_times a

  pub times_plus : (a b c : R) → a ⊗ (b ⊕ c) ≡ a ⊗ b ⊕ a ⊗ c
  times_plus = K.times_plus

  pub plus_times : (a b c : R) → (a ⊕ b) ⊗ c ≡ a ⊗ c ⊕ b ⊗ c
  plus_times a b c = times_commutative (a ⊕ b) c ∙ times_plus c a b ∙ ap (λ x. x ⊕ c ⊗ b) (times_commutative c a) ∙ ap (λ x. a ⊗ c ⊕ x) (times_commutative c b)

  pub minus_plus : (a : R) → ⊖ a ⊕ a ≡ 𝟘
  minus_plus = K.minus_plus

  pub plus_minus : (a : R) → a ⊕ ⊖ a ≡ 𝟘
  plus_minus a = plus_commutative a (⊖ a) ∙ minus_plus a

  pub minus_plus_left : (a b : R) → ⊖ a ⊕ (a ⊕ b) ≡ b
  minus_plus_left a b = rw (← (plus_associative (⊖ a) a b), minus_plus, zero_plus)

  pub plus_minus_left : (a b : R) → a ⊕ (⊖ a ⊕ b) ≡ b
  plus_minus_left a b = rw (← (plus_associative a (⊖ a) b), plus_minus, zero_plus)

  pub plus_cancel : (a b c : R) → a ⊕ b ≡ a ⊕ c → b ≡ c
  plus_cancel a b c h = sym (minus_plus_left a b) ∙ ap (λ x. ⊖ a ⊕ x) h ∙ minus_plus_left a c

  pub times_zero : (a : R) → a ⊗ 𝟘 ≡ 𝟘
  times_zero a = plus_cancel (a ⊗ 𝟘) (a ⊗ 𝟘) 𝟘 (sym (times_plus a 𝟘 𝟘) ∙ ap (λ x. a ⊗ x) (zero_plus 𝟘) ∙ sym (plus_zero (a ⊗ 𝟘)))

  pub zero_times : (a : R) → 𝟘 ⊗ a ≡ 𝟘
  zero_times a = times_commutative 𝟘 a ∙ times_zero a

  -- what adds up to zero with a is minus a
  pub minus_unique : (a b : R) → a ⊕ b ≡ 𝟘 → b ≡ ⊖ a
  minus_unique a b h = plus_cancel a b (⊖ a) (h ∙ sym (plus_minus a))

  pub minus_zero : ⊖ 𝟘 ≡ 𝟘
  minus_zero = sym (minus_unique 𝟘 𝟘 (zero_plus 𝟘))

  pub minus_minus : (a : R) → ⊖ (⊖ a) ≡ a
  minus_minus a = sym (minus_unique (⊖ a) a (minus_plus a))

  pub times_minus : (a b : R) → a ⊗ ⊖ b ≡ ⊖ (a ⊗ b)
  times_minus a b = minus_unique (a ⊗ b) (a ⊗ ⊖ b) (sym (times_plus a b (⊖ b)) ∙ ap (λ x. a ⊗ x) (plus_minus b) ∙ times_zero a)

  pub minus_times : (a b : R) → ⊖ a ⊗ b ≡ ⊖ (a ⊗ b)
  minus_times a b = times_commutative (⊖ a) b ∙ times_minus b a ∙ ap ⊖◌ (times_commutative b a)

  pub minus_of_plus : (a b : R) → ⊖ (a ⊕ b) ≡ ⊖ a ⊕ ⊖ b
  minus_of_plus a b = sym (minus_unique (a ⊕ b) (⊖ a ⊕ ⊖ b) (plus_associative a b (⊖ a ⊕ ⊖ b) ∙ ap (λ x. a ⊕ x) (plus_left_commutative b (⊖ a) (⊖ b)) ∙ plus_minus_left a (b ⊕ ⊖ b) ∙ plus_minus b))
