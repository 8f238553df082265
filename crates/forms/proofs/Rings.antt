-- XE-A is algebra's characteristic matrix.
use Rattle.std.proofs.Math.Path.{◌≡◌, refl, sym, ap, ap₂}
use Rattle.std.proofs.Common.{◌∙◌, arith}
use Rattle.std.specs.Prelude.{Bool, eqb}
use Rattle.std.proofs.Math.Bool.{cond}
use Prim.Native.Nat.{ℕ, zero, suc, ◌-◌, ◌<◌}
use Rattle.std.proofs.Math.Dec.{eqb-suc-zero, eqb-suc-suc}
use Rattle.algebra.specs.Ring.{Ring, plus_zero, zero_plus, minus_zero}
use Rattle.algebra.specs.Sum.{delta}
use Rattle.algebra.specs.Matrix.{identity_inside, matrix_plus, matrix_minus, scale}
use Rattle.algebra.specs.Series.{Series, constant, cons}
use Rattle.algebra.specs.Polynomial.{Polynomial, polynomials, plus_coefficient, minus_coefficient, scalar, scalar_zero, scalar_plus_X_times, X}
use Rattle.algebra.specs.Characteristic.{scalars, characteristic, characteristic_within}
use Rattle.algebra.specs.Modular.{Residue, residue, residue_minus, modulo}
use Rattle.forms.specs.Matrices as definitions
use Rattle.forms.specs.Matrices.{Entries, unit, polynomial_unit}
use Rattle.forms.specs.Rings.{field, field_within, field_inside, Over, delta_coefficient}

module _ (p : ℕ) where
  abbrev K : Ring (Residue p)
  K = modulo p

  abbrev L : Ring (Polynomial K)
  L = polynomials K

  open K use {plus as ◌⊕◌, times as ◌⊗◌, minus as ⊖◌, zero as 𝟘, one as 𝟙}

  infixl 60 ◌⊕◌
  infixl 70 ◌⊗◌
  infix 80 ⊖◌
  unit_at_zero : (i j : ℕ) → polynomial_unit i j 0 ≡ unit i j
  unfolding polynomial_unit
  unit_at_zero i j = refl

  unit_above : (i j k : ℕ) → polynomial_unit i j (suc k) ≡ 0
  unfolding polynomial_unit
  unit_above i j k = ap (λ (b : Bool). cond b (unit i j) 0) (eqb-suc-zero k)

  -- the coefficients of X E and of a constant matrix
  X_delta_coefficient : (i j k : ℕ) → (L.times (X K) (delta L i j)).0 k ≡ cons K 𝟘 (delta L i j).0 k
  X_delta_coefficient i j k = ap (λ (f : Polynomial K). f.0 k) (sym (zero_plus L _) ∙ ap (λ (f : Polynomial K). L.plus f (L.times (X K) (delta L i j))) (sym (scalar_zero K))) ∙ ap (λ (f : Series K). f k) (scalar_plus_X_times K 𝟘 (delta L i j))

  entry_coefficient : (i j a k : ℕ) → a < p → (L.plus (L.times (X K) (delta L i j)) (L.minus (scalar K (residue p a)))).0 k ≡ residue p (cond (eqb k 0) (p - a) (cond (eqb k 1) (unit i j) 0))
  unfolding cons scalar constant
  entry_coefficient i j a k l = plus_coefficient K _ _ k ∙ ap₂ ◌⊕◌ (X_delta_coefficient i j k) (minus_coefficient K _ k) ∙ at k
    where
      at : (k : ℕ) → cons K 𝟘 (delta L i j).0 k ⊕ ⊖ (constant K (residue p a) k) ≡ residue p (cond (eqb k 0) (p - a) (cond (eqb k 1) (unit i j) 0))
      at zero = zero_plus K _ ∙ sym (residue_minus p a (omega arith) (omega arith))
      at (suc zero) = ap₂ ◌⊕◌ (delta_coefficient p i j 0) (minus_zero K) ∙ plus_zero K _ ∙ ap (residue p) (unit_at_zero i j)
      at (suc (suc k)) = ap₂ ◌⊕◌ (delta_coefficient p i j (suc k) ∙ ap (residue p) (unit_above i j k)) (minus_zero K) ∙ plus_zero K _ ∙ ap (residue p) (sym (ap (λ (b : Bool). cond b (p - a) (cond (eqb (suc (suc k)) 1) (unit i j) 0)) (eqb-suc-zero (suc k)) ∙ ap (λ (b : Bool). cond b (unit i j) 0) (eqb-suc-suc (suc k) 0 ∙ eqb-suc-zero k)))

  pub characteristic_over : (n : ℕ) (A : Entries) → ((i j : ℕ) → i < n → j < n → A i j < p) → Over p n (characteristic K n (field p n A)) (definitions.characteristic p A)
  unfolding characteristic matrix_plus matrix_minus scale scalars definitions.characteristic
  characteristic_over n A r = record {
    within = characteristic_within K n (field p n A) (field_within p n A);
    coefficient = λ i j k l g. ap₂ (λ (f : Polynomial K) (x : Residue p). (L.plus (L.times (X K) f) (L.minus (scalar K x))).0 k) (identity_inside L n i j l) (field_inside p n A i j l g) ∙ entry_coefficient i j (A i j) k (r i j l g);
  }
