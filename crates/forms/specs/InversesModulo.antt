-- Inverses modulo p are one: r = r (x t) = (r x) t = t.
use Rattle.std.specs.Prelude.{◌≡◌, ℕ, ◌*◌, ◌%◌, ◌<◌}
use Rattle.std.proofs.Common.{sym, ◌∙◌, ap, mod-eq_of_lt, arith}
use Rattle.algebra.specs.Ring.{Ring, times_associative, times_commutative, one_times}
use Rattle.algebra.specs.Modular.{Residue, residue, residue_equal, residue_injective, modulo, residue_times, residue_one}

module _ (p x : ℕ) (l : 1 < p) where
  abbrev K : Ring (Residue p)
  K = modulo p

  one_modulo : (s : ℕ) → (x * s) % p ≡ 1 → K.times (residue p x) (residue p s) ≡ K.one
  one_modulo s h = sym (residue_times p x s) ∙ residue_equal p (x * s) 1 (omega arith) (h ∙ sym (mod-eq_of_lt l)) ∙ residue_one p

  pub inverse_modulo_unique : (r t : ℕ) → r < p → t < p → (x * r) % p ≡ 1 → (x * t) % p ≡ 1 → r ≡ t
  inverse_modulo_unique r t a b e f = residue_injective p r t a b (
      sym (one_times K (residue p r)) ∙ ap (λ y. K.times y (residue p r)) (sym (one_modulo t f) ∙ times_commutative K (residue p x) (residue p t))
      ∙ times_associative K (residue p t) (residue p x) (residue p r) ∙ ap (K.times (residue p t)) (one_modulo r e)
      ∙ times_commutative K (residue p t) K.one ∙ one_times K (residue p t))
