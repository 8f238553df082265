-- The constants among the polynomials over F_p, by the numbers they are given by.
use Rattle.std.specs.Prelude.{◌≡◌, Bool, cond, eqb}
use Rattle.std.proofs.Math.Path.{refl, sym, ap}
use Rattle.std.proofs.Common.{◌∙◌}
use Prim.Native.Nat.{ℕ, zero, suc, ◌-◌, ◌%◌, ◌≤◌, ◌<◌}
use Rattle.std.proofs.Math.Dec.{eqb-suc-zero}
use Rattle.algebra.specs.Ring.{Ring, minus_unique, plus_minus}
use Rattle.algebra.specs.Sum.{delta}
use Rattle.algebra.specs.Matrix.{Matrix, Within, identity_inside}
use Rattle.algebra.specs.Series.{cons, constant}
use Rattle.algebra.specs.Polynomial.{Polynomial, polynomials, scalar, scalar_zero, scalar_plus, scalar_plus_X_times, X}
use Rattle.algebra.specs.Characteristic.{scalars, scalars_within, scalars_identity}
use Rattle.algebra.specs.Modular.{Residue, residue, residue_zero, residue_minus, residue_remainder, modulo}
use Rattle.forms.specs.Matrices.{unit}
use Rattle.forms.specs.Rings.{field, field_within, field_inside, field_of_unit}

module _ (p : ℕ) where
  abbrev K : Ring (Residue p)
  K = modulo p

  abbrev L : Ring (Polynomial K)
  L = polynomials K

  pub scalar_of : ℕ → Polynomial K
  scalar_of x = scalar K (residue p x)

  pub scalar_of_is : (x : ℕ) → scalar_of x ≡ scalar K (residue p x)
  unfolding scalar_of
  scalar_of_is x = refl

  pub scalar_of_zero : scalar_of 0 ≡ L.zero
  unfolding scalar_of
  scalar_of_zero = ap (scalar K) (residue_zero p) ∙ scalar_zero K

  pub scalar_of_coefficient : (x k : ℕ) → (scalar_of x).0 k ≡ residue p (cond (eqb k 0) x 0)
  unfolding scalar_of scalar constant cons
  scalar_of_coefficient x zero = refl
  scalar_of_coefficient x (suc k) = sym (ap (λ (b : Bool). residue p (cond b x 0)) (eqb-suc-zero k) ∙ residue_zero p)

  pub scalar_of_minus : (x : ℕ) → x ≤ p → 0 < p → scalar_of (p - x) ≡ L.minus (scalar_of x)
  unfolding scalar_of
  scalar_of_minus x l h = minus_unique L (scalar K (residue p x)) (scalar K (residue p (p - x)))
      (sym (scalar_plus K _ _) ∙ ap (scalar K) (ap (λ y. K.plus (residue p x) y) (residue_minus p x l h) ∙ plus_minus K _) ∙ scalar_zero K)

  pub scalar_of_opposite : (x : ℕ) → x ≤ p → 0 < p → scalar_of ((p - x) % p) ≡ L.minus (scalar_of x)
  scalar_of_opposite x l h = same ∙ scalar_of_minus x l h
    where
      same : scalar_of ((p - x) % p) ≡ scalar_of (p - x)
      same = scalar_of_is _ ∙ ap (scalar K) (residue_remainder p (p - x) h) ∙ sym (scalar_of_is _)

  pub scalar_of_plus_X_times : (x : ℕ) (g : Polynomial K) → (L.plus (scalar_of x) (L.times (X K) g)).0 ≡ cons K (residue p x) g.0
  unfolding scalar_of
  scalar_of_plus_X_times x g = scalar_plus_X_times K (residue p x) g

  pub scalar_of_unit : (n i j : ℕ) → i < n → j < n → scalar_of (unit i j) ≡ delta L i j
  unfolding scalar_of scalars
  scalar_of_unit n i j l m = ap (scalar K) (sym (field_inside p n unit i j l m)) ∙ ap (λ (A : Matrix K). scalar K (A i j)) (field_of_unit p n) ∙ ap (λ (A : Matrix L). A i j) (scalars_identity K n) ∙ identity_inside L n i j l

  -- a matrix of numbers over F_p, with constants for its entries
  unfoldable pub scalars_of : ℕ → (ℕ → ℕ → ℕ) → Matrix L
  scalars_of n A = scalars K (field p n A)

  pub scalars_of_inside : (n : ℕ) (A : ℕ → ℕ → ℕ) (i j : ℕ) → i < n → j < n → scalars_of n A i j ≡ scalar_of (A i j)
  unfolding scalars_of scalar_of scalars
  scalars_of_inside n A i j l m = ap (scalar K) (field_inside p n A i j l m)

  pub scalars_of_within : (n : ℕ) (A : ℕ → ℕ → ℕ) → Within L n (scalars_of n A)
  unfolding scalars_of
  scalars_of_within n A = scalars_within K n (field p n A) (field_within p n A)
