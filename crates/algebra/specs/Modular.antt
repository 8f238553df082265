-- The numbers modulo p as a ring, for every number p: modulo 0 is taken as modulo 1, so that no contract needs 0 < p to name the ring.
-- Where p has no divisor between 1 and itself every residue but zero has an inverse.
use Rattle.std.specs.Prelude.{◌≡◌, ◌≢◌}
use Rattle.std.proofs.Math.Path.{refl}
use Rattle.std.proofs.Common.{sym, ◌∙◌, ap, zero-add, add_comm, add_assoc, mul_comm, mul_assoc, mul-add, one-mul, mod-lt, mod-eq_of_lt, add-mul, arith}
use mathlib.Core.HLevel.{hedberg}
use Prim.Native.Nat.{ℕ, zero, suc, ◌+◌, ◌*◌, ◌-◌, ◌/◌, ◌%◌, ◌≤◌, ◌<◌, Fin}
use Rattle.std.proofs.Math.Nat.{mod-add-mod, add-mod-mod, mod_self, zero-mod, mod-mod, add-mul-mod_self_left, mod-add-div, div-add-mod}
use Rattle.std.proofs.Math.Decide.{ℕ_discrete, Fin-discrete}
use Rattle.algebra.specs.Ring.{Ring, plus_zero, one_times, zero_times, minus_zero, minus_unique, minus_times}
use Rattle.algebra.specs.Solver.{◌:+◌, ◌:*◌, :-◌, solve₄}

mod_mul_mod : (m a b : ℕ) → (a % m * b) % m ≡ (a * b) % m
mod_mul_mod m a b =
    sym (add-mul-mod_self_left (a % m * b) m (a / m * b))
    ∙ ap (λ (x : ℕ). x % m) (ap (λ x. a % m * b + x) (sym (mul_assoc m (a / m) b)) ∙ sym (add-mul (a % m) (m * (a / m)) b) ∙ ap (λ x. x * b) (mod-add-div a m))

mul_mod_mod : (m a b : ℕ) → (a * (b % m)) % m ≡ (a * b) % m
mul_mod_mod m a b = rw (mul_comm a (b % m), mul_comm a b) (mod_mul_mod m b a)

-- p, and 1 for 0
abbrev pub modulus : ℕ → ℕ
modulus p = suc (p - 1)

modulus_positive : (p : ℕ) → 0 < modulus p
modulus_positive p = omega arith

modulus_is : (p : ℕ) → 0 < p → modulus p ≡ p
modulus_is p h = omega arith

abbrev pub Residue : ℕ → Type 0
Residue p = Fin (modulus p)

-- the class of a number
pub residue : (p : ℕ) → ℕ → Residue p
residue p x = (x % modulus p, mod-lt x (modulus_positive p))

residue_class : (p x y : ℕ) → x % modulus p ≡ y % modulus p → residue p x ≡ residue p y
unfolding residue
residue_class p x y e = native.Mathlib.Fin.val_path e

pub residue_value : (p x : ℕ) → 0 < p → (residue p x).0 ≡ x % p
unfolding residue
residue_value p x h = ap (λ (m : ℕ). x % m) (modulus_is p h)

pub residue_equal : (p x y : ℕ) → 0 < p → x % p ≡ y % p → residue p x ≡ residue p y
residue_equal p x y h e = residue_class p x y (ap (λ (m : ℕ). x % m) (modulus_is p h) ∙ e ∙ ap (λ (m : ℕ). y % m) (sym (modulus_is p h)))

pub equal_residue : (p x y : ℕ) → 0 < p → residue p x ≡ residue p y → x % p ≡ y % p
equal_residue p x y h e = sym (residue_value p x h) ∙ ap (λ (z : Residue p). z.0) e ∙ residue_value p y h

pub residue_injective : (p x y : ℕ) → x < p → y < p → residue p x ≡ residue p y → x ≡ y
residue_injective p x y a b e = sym (mod-eq_of_lt a) ∙ equal_residue p x y (omega arith) e ∙ mod-eq_of_lt b

pub residue_remainder : (p x : ℕ) → 0 < p → residue p (x % p) ≡ residue p x
residue_remainder p x h = residue_equal p (x % p) x h (mod-mod x p)

pub residue_of_value : (p : ℕ) (a : Residue p) → residue p a.0 ≡ a
unfolding residue
residue_of_value p a = native.Mathlib.Fin.val_path (mod-eq_of_lt a.1)

residue_sum : (p : ℕ) → Residue p → Residue p → Residue p
residue_sum p a b = residue p (a.0 + b.0)

residue_product : (p : ℕ) → Residue p → Residue p → Residue p
residue_product p a b = residue p (a.0 * b.0)

residue_opposite : (p : ℕ) → Residue p → Residue p
residue_opposite p a = residue p (modulus p - a.0)

pub modulo : (p : ℕ) → Ring (Residue p)
unfolding residue_sum residue_product residue_opposite residue
modulo p = record {
  plus = residue_sum p;
  times = residue_product p;
  minus = residue_opposite p;
  zero = residue p 0;
  one = residue p 1;
  is_set = hedberg (Fin-discrete (modulus p));
  plus_associative = λ a b c. residue_class p _ _ (simp (mod-add-mod, add-mod-mod, add_assoc));
  plus_commutative = λ a b. residue_class p _ _ (ap (λ x. x % modulus p) (add_comm _ _));
  zero_plus = λ a. native.Mathlib.Fin.val_path (simp (mod-add-mod, zero-add) (mod-eq_of_lt a.1));
  minus_plus = λ a. residue_class p _ _ (rw mod-add-mod (ap (λ x. x % modulus p) (opposite_sum a) ∙ mod_self (modulus p) ∙ sym (zero-mod (modulus p))));
  times_associative = λ a b c. residue_class p _ _ (simp (mod_mul_mod, mul_mod_mod, mul_assoc));
  times_commutative = λ a b. residue_class p _ _ (ap (λ x. x % modulus p) (mul_comm _ _));
  one_times = λ a. native.Mathlib.Fin.val_path (simp (mod_mul_mod, one-mul) (mod-eq_of_lt a.1));
  times_plus = λ a b c. residue_class p _ _ (simp (mod-add-mod, add-mod-mod, mul_mod_mod, mul-add));
}
  where
    opposite_sum : (a : Residue p) → modulus p - a.0 + a.0 ≡ modulus p
    opposite_sum a = omega (arith, a.1)

module _ (p : ℕ) where
  open modulo p use {plus as ◌⊕◌, times as ◌⊗◌, minus as ⊖◌, zero as 𝟘, one as 𝟙}

  infixl 60 ◌⊕◌
  infixl 70 ◌⊗◌
  infix 80 ⊖◌
  pub residue_plus : (x y : ℕ) → residue p (x + y) ≡ residue p x ⊕ residue p y
  unfolding modulo residue_sum residue
  residue_plus x y = residue_class p _ _ (simp (mod-add-mod, add-mod-mod))

  pub residue_times : (x y : ℕ) → residue p (x * y) ≡ residue p x ⊗ residue p y
  unfolding modulo residue_product residue
  residue_times x y = residue_class p _ _ (simp (mod_mul_mod, mul_mod_mod))

  pub residue_zero : residue p 0 ≡ 𝟘
  unfolding modulo
  residue_zero = refl

  pub residue_one : residue p 1 ≡ 𝟙
  unfolding modulo
  residue_one = refl

  pub residue_modulus : 0 < p → residue p p ≡ 𝟘
  residue_modulus h = residue_equal p p 0 h (mod_self p ∙ sym (zero-mod p)) ∙ residue_zero

  pub residue_is_zero : (x : ℕ) → 0 < p → residue p x ≡ 𝟘 → x % p ≡ 0
  residue_is_zero x h e = equal_residue p x 0 h (e ∙ sym residue_zero) ∙ zero-mod p

  pub zero_residue : (x : ℕ) → 0 < p → x % p ≡ 0 → residue p x ≡ 𝟘
  zero_residue x h e = residue_equal p x 0 h (e ∙ sym (zero-mod p)) ∙ residue_zero

  pub residue_minus : (x : ℕ) → x ≤ p → 0 < p → residue p (p - x) ≡ ⊖ (residue p x)
  residue_minus x l h = minus_unique (modulo p) (residue p x) (residue p (p - x)) (sym (residue_plus x (p - x)) ∙ ap (residue p) (omega arith) ∙ residue_modulus h)

  pub minus_one_times : (a : Residue p) → 0 < p → residue p (p - 1) ⊗ a ≡ ⊖ a
  minus_one_times a h = ap (λ x. x ⊗ a) (residue_minus 1 h h ∙ ap ⊖◌ residue_one) ∙ minus_times (modulo p) 𝟙 a ∙ ap ⊖◌ (one_times (modulo p) a)

-- no number between 1 and p divides p
pub record Prime (p : ℕ) : Type 0 where
  pub large : 1 < p
  pub undivided : (d : ℕ) → 1 < d → d < p → p % d ≢ 0

module _ (p : ℕ) (P : Prime p) where
  open modulo p use {plus as ◌⊕◌, times as ◌⊗◌, minus as ⊖◌, zero as 𝟘, one as 𝟙}

  infixl 60 ◌⊕◌
  infixl 70 ◌⊗◌
  infix 80 ⊖◌
  pub positive : 0 < p
  positive = omega (arith, P.large)

  abbrev pub Invertible : Residue p → Type 0
  Invertible a = (b : Residue p) × (a ⊗ b ≡ 𝟙)

  -- where p = a q + r and r s = 1, a (-(q s)) = 1
  inverse_step : (a q r s : Residue p) → a ⊗ q ⊕ r ≡ 𝟘 → r ⊗ s ≡ 𝟙 → a ⊗ ⊖ (q ⊗ s) ≡ 𝟙
  inverse_step a q r s h e =
      let e₁ : a ⊗ ⊖ (q ⊗ s) ≡ r ⊗ s ⊕ ⊖ ((a ⊗ q ⊕ r) ⊗ s) =
      solve₄ (modulo p) (λ a q r s. a :* :- (q :* s)) (λ a q r s. r :* s :+ :- ((a :* q :+ r) :* s)) refl a q r s in
      e₁ ∙ rw (h, e, zero_times, minus_zero) (plus_zero (modulo p) 𝟙)

  inverse_at : (a : ℕ) → 0 < a → a < p → Dec (a ≡ 1) → ((b : ℕ) → b < a → 0 < b → b < p → Invertible (residue p b)) → Invertible (residue p a)
  inverse_at a l h (yes e) smaller = (𝟙, rw (e, residue_one) (one_times (modulo p) 𝟙))
  inverse_at a l h (no n) smaller =
      let less : p % a < a = mod-lt p l in
      let I = smaller (p % a) less (omega (arith, P.undivided a (omega arith) h)) (omega arith) in (
        ⊖ (residue p (p / a) ⊗ I.0),
        inverse_step (residue p a) (residue p (p / a)) (residue p (p % a)) I.0
            (sym (ap (λ x. x ⊕ residue p (p % a)) (residue_times p a (p / a))) ∙ sym (residue_plus p (a * (p / a)) (p % a)) ∙ ap (residue p) (div-add-mod p a) ∙ residue_modulus p positive) I.1,
      )

  inverse_upto : (n a : ℕ) → a ≤ n → 0 < a → a < p → Invertible (residue p a)
  inverse_upto zero a g l h = absurd (omega arith)
  inverse_upto (suc n) a g l h = inverse_at a l h (ℕ_discrete a 1) (λ b x y z. inverse_upto n b (omega arith) y z)

  pub inverse_modulo : (a : ℕ) → 0 < a → a < p → Invertible (residue p a)
  inverse_modulo a = inverse_upto a a (omega arith)

  pub one_is_not_zero : 𝟙 ≢ 𝟘
  one_is_not_zero e = let z : ◌≡◌ {A = ℕ} 1 0 = residue_injective p 1 0 P.large positive (residue_one p ∙ e ∙ sym (residue_zero p)) in omega arith
