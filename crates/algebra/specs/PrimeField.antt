-- Modulo a prime the residues are a field.
use Rattle.std.proofs.Common.{sym, ◌∙◌, ap, subst, arith}
use Rattle.std.specs.Prelude.{◌≢◌, ℕ, ◌<◌}
use Rattle.std.proofs.Math.Decide.{ℕ_discrete, Fin-discrete}
use Rattle.algebra.specs.Modular.{Residue, modulus, residue, residue_of_value, residue_zero, modulo, Prime, Invertible, inverse_modulo, one_is_not_zero}
use Rattle.algebra.specs.Domain.{Field, Domain, field_domain}

module _ (p : ℕ) (P : Prime p) where
  value_positive : (a : Residue p) → a ≢ (modulo p).zero → 0 < a.0
  value_positive a h = elim (ℕ_discrete a.0 0) [
    | yes e ↦ absurd (h (sym (residue_of_value p a) ∙ ap (residue p) e ∙ residue_zero p))
    | no n ↦ omega arith
  ]

  pub prime_field : Field (modulo p)
  prime_field = record {
    decide = λ a. Fin-discrete (modulus p) a (modulo p).zero;
    inverse = λ a h. subst (Invertible p P) (residue_of_value p a) (inverse_modulo p P a.0 (value_positive a h) (omega (arith, a.1, P.large)));
    one_nonzero = one_is_not_zero p P;
  }

  pub prime_domain : Domain (modulo p)
  prime_domain = field_domain (modulo p) prime_field
