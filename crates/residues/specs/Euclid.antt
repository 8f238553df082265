-- Euclid's algorithm on a prime p and a residue x: what holds of the two remainders a and b, at the start, after a step and at the end.
use Rattle.std.specs.Prelude.{◌≡◌, refl, ◌≢◌, ℕ, ◌+◌, ◌*◌, ◌-◌, ◌/◌, ◌%◌, ◌≤◌, ◌<◌}
use Rattle.std.proofs.Common.{sym, ◌∙◌, ap, ap₂, mod-lt, mul-le-mul, div-le_self, zero-mul, mul_comm, mod-eq_of_lt, arith}
use Rattle.std.specs.Int.{◌∣◌}
use Rattle.std.proofs.Math.Nat.{dvd_refl, dvd-mod_iff, dvd_of_mod-eq-zero, mod-eq-zero_of_dvd, div-add-mod}
use Rattle.algebra.specs.Solver.{◌:+◌, ◌:*◌, :-◌, solve₃, solve₄}
use Rattle.algebra.specs.Modular.{residue, modulo, Prime, positive, equal_residue, residue_plus, residue_times, residue_minus, residue_zero, residue_modulus, residue_remainder}
use Rattle.forms.specs.Reciprocals.{InverseOf}

-- a and b are s x and t x modulo p, and what divides both divides p; so, for a prime p, b is 1 or does not divide a
pub record Euclid (p x a b s t : ℕ) : Type 0 where
  pub falls : b < a
  pub upto : a ≤ p
  pub remains : 0 < b
  pub first_below : s < p
  pub second_below : t < p
  pub first : residue p (s * x) ≡ residue p a
  pub second : residue p (t * x) ≡ residue p b
  pub common : (d : ℕ) → d ∣ a → d ∣ b → d ∣ p

module _ {p : ℕ} (P : Prime p) where
  open modulo p use {plus as ◌⊕◌, times as ◌⊗◌, minus as ⊖◌}

  infixl 60 ◌⊕◌
  infixl 70 ◌⊗◌
  infix 80 ⊖◌
  pub euclid_start : {x : ℕ} → 0 < x → x < p → Euclid p x p x 0 1
  euclid_start l h = record {
    falls = h;
    upto = omega arith;
    remains = l;
    first_below = positive p P;
    second_below = P.large;
    first = ap (residue p) (zero-mul _) ∙ residue_zero p ∙ sym (residue_modulus p (positive p P));
    second = ap (residue p) (omega arith);
    common = λ d a b. a;
  }

  -- the sum of which a step takes the remainder
  pub euclid_fits : {x a b s t : ℕ} → Euclid p x a b s t → p < 256 → s + (p - t) * (a / b) < 65536
  euclid_fits {x} {a} {b} {s} {t} h l =
      let quotient : a / b ≤ 255 = omega (arith, div-le_self a b) in
      let factor : p - t ≤ 255 = omega arith in
      omega (arith, mul-le-mul factor quotient)

  -- (s - t q) x = a - b q = r modulo p, where a = b q + r
  euclid_next : (x a b s t : ℕ) → t < p → residue p (s * x) ≡ residue p a → residue p (t * x) ≡ residue p b
      → residue p ((s + (p - t) * (a / b)) % p * x) ≡ residue p (a % b)
  euclid_next x a b s t l e f =
      let S = residue p s in
      let T = residue p t in
      let X = residue p x in
      let B = residue p b in
      let Q = residue p (a / b) in
      let R = residue p (a % b) in
      let next : residue p ((s + (p - t) * (a / b)) % p) ≡ S ⊕ ⊖ T ⊗ Q =
      residue_remainder p _ (positive p P) ∙ residue_plus p s _ ∙ ap (λ y. S ⊕ y) (residue_times p (p - t) (a / b) ∙ ap (λ y. y ⊗ Q) (residue_minus p t (omega arith) (positive p P))) in
      let divided : residue p a ≡ B ⊗ Q ⊕ R =
      sym (ap (residue p) (div-add-mod a b)) ∙ residue_plus p (b * (a / b)) (a % b) ∙ ap (λ y. y ⊕ R) (residue_times p b (a / b)) in
      let moved : (S ⊕ ⊖ T ⊗ Q) ⊗ X ≡ S ⊗ X ⊕ ⊖ (T ⊗ X ⊗ Q) =
      solve₄ (modulo p) (λ s t q x. (s :+ :- t :* q) :* x) (λ s t q x. s :* x :+ :- (t :* x :* q)) refl S T Q X in
      let rest : B ⊗ Q ⊕ R ⊕ ⊖ (B ⊗ Q) ≡ R = solve₃ (modulo p) (λ b q r. b :* q :+ r :+ :- (b :* q)) (λ b q r. r) refl B Q R in
      residue_times p _ x ∙ ap (λ y. y ⊗ X) next ∙ moved
      ∙ ap₂ (λ y z. y ⊕ ⊖ (z ⊗ Q)) (sym (residue_times p s x) ∙ e ∙ divided) (sym (residue_times p t x) ∙ f) ∙ rest

  pub euclid_step : {x a b s t : ℕ} → Euclid p x a b s t → 1 < b → Euclid p x b (a % b) t ((s + (p - t) * (a / b)) % p)
  euclid_step {x} {a} {b} {s} {t} h l =
      let uneven : a % b ≢ 0 = λ e. P.undivided b l (omega arith) (mod-eq-zero_of_dvd b (h.common b (dvd_of_mod-eq-zero b e) (dvd_refl b))) in
      record {
        falls = mod-lt a h.remains;
        upto = omega arith;
        remains = omega arith;
        first_below = h.second_below;
        second_below = mod-lt _ (positive p P);
        first = h.second;
        second = euclid_next x a b s t h.second_below h.first h.second;
        common = λ d m n. h.common d ((dvd-mod_iff d m).0 n) m;
      }

  pub euclid_end : {x a b s t : ℕ} → Euclid p x a b s t → b ≤ 1 → 0 < x → InverseOf p x t
  euclid_end {x} {a} {b} {s} {t} h l m = record {
    small = h.second_below;
    of_zero = λ e. absurd (omega arith);
    of_other = λ g. ap (λ (y : ℕ). y % p) (mul_comm x t) ∙ equal_residue p (t * x) 1 (positive p P) (h.second ∙ ap (residue p) (omega arith)) ∙ mod-eq_of_lt P.large;
  }
