-- Divisibility in a ring.
use Rattle.std.specs.Prelude.{◌≡◌}
use Rattle.std.proofs.Common.{sym, ◌∙◌, ap, ap₂, arith}
use Prim.Native.Nat.{ℕ, zero, suc, ◌≤◌, ◌<◌}
use Rattle.std.proofs.Math.Decide.{ℕ_discrete}
use Rattle.algebra.specs.Ring.{Ring, times_associative, times_left_commutative, times_one, times_plus, times_zero}
use Rattle.algebra.specs.Sum.{sum}

module _ {R : Type 0} (K : Ring R) where
  open K use {plus as ◌⊕◌, times as ◌⊗◌, minus as ⊖◌, zero as 𝟘, one as 𝟙}

  infixl 60 ◌⊕◌
  infixl 70 ◌⊗◌
  infix 80 ⊖◌
  pub record Divides (a b : R) : Type 0 where
    pub by : R
    pub is : b ≡ a ⊗ by

  pub divides_zero : (a : R) → Divides a 𝟘
  divides_zero a = record { by = 𝟘; is = sym (times_zero K a) }

  pub divides_self : (a : R) → Divides a a
  divides_self a = record { by = 𝟙; is = sym (times_one K a) }

  pub divides_plus : (a b c : R) → Divides a b → Divides a c → Divides a (b ⊕ c)
  divides_plus a b c h k = record { by = h.by ⊕ k.by; is = ap₂ ◌⊕◌ h.is k.is ∙ sym (times_plus K _ _ _) }

  pub divides_times : (a b c : R) → Divides a b → Divides a (c ⊗ b)
  divides_times a b c h = record { by = c ⊗ h.by; is = ap (λ x. c ⊗ x) h.is ∙ times_left_commutative K _ _ _ }

  pub divides_transitive : (a b c : R) → Divides a b → Divides b c → Divides a c
  divides_transitive a b c h k = record { by = h.by ⊗ k.by; is = k.is ∙ ap (λ x. x ⊗ k.by) h.is ∙ times_associative K _ _ _ }

  pub divides_sum : (a : R) (f : ℕ → R) (n : ℕ) → ((i : ℕ) → i < n → Divides a (f i)) → Divides a (sum K f n)
  unfolding sum
  divides_sum a f zero h = divides_zero a
  divides_sum a f (suc n) h = divides_plus a _ _ (divides_sum a f n (λ i l. h i (omega arith))) (h n (omega arith))

  pub divides_equal : (a b c : R) → b ≡ c → Divides a b → Divides a c
  divides_equal a b c e h = rw e at h

  -- where each divides the next, each divides those behind it
  pub divides_chain : (d : ℕ → R) (n : ℕ) → ((i : ℕ) → suc i < n → Divides (d i) (d (suc i))) → (i j : ℕ) → i ≤ j → j < n → Divides (d i) (d j)
  divides_chain d n h i zero l m = divides_equal (d i) (d i) (d zero) (ap d (omega arith)) (divides_self (d i))
  divides_chain d n h i (suc j) l m = elim (ℕ_discrete i (suc j)) [
    | yes e ↦ divides_equal (d i) (d i) (d (suc j)) (ap d e) (divides_self (d i))
    | no e ↦ divides_transitive (d i) (d j) (d (suc j)) (divides_chain d n h i j (omega arith) (omega arith)) (h j m)
  ]
