-- XE-F for the Frobenius form F built from D, over F_p[X]: its reduction by the blocks, with the polynomials of D at the heads.
use Rattle.std.specs.Prelude.{◌≡◌, ◌≢◌, Bool}
use Rattle.std.proofs.Math.Path.{refl, sym, ap, ap₂}
use Rattle.std.proofs.Common.{◌∙◌, add-zero, add-suc, suc-add, arith}
use Rattle.std.proofs.Math.Bool.{true, false}
use Prim.Native.Nat.{ℕ, zero, suc, ◌+◌, ◌<◌}
use Rattle.std.proofs.Math.Decide.{ℕ_discrete}
use Rattle.algebra.specs.Ring.{Ring, zero_plus, plus_zero, times_one, times_zero, minus_zero}
use Rattle.algebra.specs.Sum.{delta, delta_same, delta_other}
use Rattle.algebra.specs.Matrix.{restrict_inside, restrict_within, matrix_equal, identity_inside, matrix_plus, matrix_minus, scale, product}
use Rattle.algebra.specs.Shapes.{diagonal}
use Rattle.algebra.specs.Series.{Series, cons, constant}
use Rattle.algebra.specs.Polynomial.{Polynomial, polynomials, polynomial_equal, one_series, scalar, X}
use Rattle.algebra.specs.Characteristic.{scalars, characteristic, characteristic_within}
use Rattle.algebra.specs.BlockFactors.{CompanionBlocks, companion_entry, companion_first, companion_next, left_factor, right_factor, factor, factor_first, factor_next}
use Rattle.algebra.specs.BlockReduction.{block_reduction}
use Rattle.algebra.specs.Modular.{Residue, residue, residue_zero, residue_one, modulo}
use Rattle.forms.specs.Polynomials.{Coefficients}
use Rattle.forms.specs.Frobenius.{frobenius}
use Rattle.forms.specs.Rings.{field, field_inside, field_within, polynomial, polynomial_coefficient}
use Rattle.forms.specs.Scalars.{scalar_of, scalar_of_is, scalar_of_zero, scalar_of_opposite, scalar_of_plus_X_times, scalar_of_unit}
use Rattle.forms.specs.BlockIndices.{degrees, block, head, last, position, is_head, block_below, block_next, block_last, head_of, head_equal, head_position, last_below, last_after, last_equal, last_of, last_position, after_last, position_next, zero_is_head, row_cases}
use Rattle.forms.specs.SmithDiagonals.{SmithDiagonal}
use Rattle.forms.specs.BlockPermutation.{to, to_head, to_below, to_other_below, one_degree}
use Rattle.forms.proofs.FrobeniusEntries.{frobenius_last, frobenius_head, frobenius_next}

module _ (p n : ℕ) (f : ℕ → Coefficients) (S : SmithDiagonal p n f) where
  abbrev K : Ring (Residue p)
  K = modulo p

  abbrev L : Ring (Polynomial K)
  L = polynomials K

  open L use {plus as ◌⊕◌, times as ◌⊗◌, minus as ⊖◌, zero as 𝟘, one as 𝟙}

  infixl 60 ◌⊕◌
  infixl 70 ◌⊗◌
  infix 80 ⊖◌
  abbrev d : ℕ → ℕ
  d = degrees n f

  -- f b from coefficient s on
  pub shifted : ℕ → ℕ → Polynomial K
  shifted b s = polynomial p (suc (d b)) (λ k. f b (s + k)) (λ k l. S.above b (s + k) (omega arith))

  pub shifted_coefficient : (b s k : ℕ) → (shifted b s).0 k ≡ residue p (f b (s + k))
  unfolding shifted
  shifted_coefficient b s k = polynomial_coefficient p (suc (d b)) (λ k. f b (s + k)) (λ k l. S.above b (s + k) (omega arith)) k

  pub shifted_split : (b s : ℕ) → shifted b s ≡ scalar_of p (f b s) ⊕ X K ⊗ shifted b (suc s)
  unfolding cons
  shifted_split b s = polynomial_equal K _ _ (λ k. shifted_coefficient b s k ∙ at k ∙ sym (ap (λ (g : Series K). g k) (scalar_of_plus_X_times p (f b s) (shifted b (suc s)))))
    where
      at : (k : ℕ) → residue p (f b (s + k)) ≡ cons K (residue p (f b s)) (shifted b (suc s)).0 k
      at zero = ap (λ (x : ℕ). residue p (f b x)) (add-zero s)
      at (suc k) = ap (λ (x : ℕ). residue p (f b x)) (add-suc s k ∙ sym (suc-add s k)) ∙ sym (shifted_coefficient b (suc s) k)

  -- what is left from the leading coefficient on
  pub shifted_degree : (b : ℕ) → b < n → shifted b (d b) ≡ 𝟙
  unfolding constant cons
  shifted_degree b l = polynomial_equal K _ _ (λ k. shifted_coefficient b (d b) k ∙ at k ∙ sym (ap (λ (g : Series K). g k) (one_series K)))
    where
      at : (k : ℕ) → residue p (f b (d b + k)) ≡ constant K K.one k
      at zero = ap (residue p) (ap (f b) (add-zero (d b)) ∙ S.monic b l) ∙ residue_one p
      at (suc k) = ap (residue p) (S.above b (d b + suc k) (omega arith)) ∙ residue_zero p

  unfoldable pub companion_blocks : CompanionBlocks L n (X K)
  companion_blocks = record {
    first = is_head d n;
    head = head d n;
    last = last d n;
    coefficient = λ i. scalar_of p (f (block d n i) (position d n i));
    quotient = λ i. shifted (block d n i) (position d n i);
    rest = λ i. shifted (block d n i) (suc (position d n i));
    first_zero = zero_is_head d n S.sums S.low;
    head_first = head_of d n S.sums;
    head_next = λ i l e. head_equal d n S.sums (suc i) i (block_next d n S.sums i l e);
    head_last = λ i l. head_equal d n S.sums (last d n i) i (block_last d n S.sums i l);
    last_below = λ i l. last_below d n S.sums i S.low;
    last_next = λ i l e. last_equal d n S.sums (suc i) i (block_next d n S.sums i l e);
    last_end = last_of d n S.sums;
    after_last = after_last d n S.sums;
    quotient_split = λ i l. shifted_split (block d n i) (position d n i);
    rest_next = λ i l e. ap₂ shifted (sym (block_next d n S.sums i l e)) (sym (position_next d n S.sums i l e));
    rest_last = λ i l. ap₂ shifted (block_last d n S.sums i l) (last_position d n S.sums i l) ∙ shifted_degree (block d n i) (block_below d n i S.low);
  }

  abbrev blocks : CompanionBlocks L n (X K)
  blocks = companion_blocks

  -- at the head of a block its polynomial stands, else one: that of D at the place the row goes to
  pub factor_is : (i : ℕ) → i < n → factor L n (X K) blocks i ≡ shifted (to d n i) 0
  unfolding companion_blocks
  factor_is i l = test (is_head d n i) refl
    where
      test : (b : Bool) → is_head d n i ≡ b → factor L n (X K) blocks i ≡ shifted (to d n i) 0
      test true e = factor_first L n (X K) blocks i e
          ∙ ap₂ shifted (sym (to_head d n S.sums S.low S.rising i e)) (let x = head_of d n S.sums i l e in let y = head_position d n S.sums i l in omega arith)
      test false e = factor_next L n (X K) blocks i e
          ∙ sym (ap (shifted (to d n i)) (sym (one_degree d n S.sums S.low S.rising (to d n i) (to_other_below d n S.sums S.low S.rising i l e))) ∙ shifted_degree (to d n i) (to_below d n S.sums S.low S.rising i l))

  abbrev F : ℕ → ℕ → ℕ
  F = frobenius p n f

  -- F's entries are those of the companion blocks: the last column, and the others by the kind of the row
  companion_last : (i : ℕ) → i < n → companion_entry L n (X K) blocks i (last d n i) ≡ ⊖ (blocks.coefficient i)
  unfolding companion_blocks
  companion_last = row_cases d n S.sums (λ i. companion_entry L n (X K) blocks i (last d n i) ≡ ⊖ (blocks.coefficient i))
      (λ i l e. companion_first L n (X K) blocks i (last d n i) e ∙ ap (λ y. ⊖ (blocks.coefficient i ⊗ y)) (delta_same L (last d n i)) ∙ ap ⊖◌ (times_one L _))
      (λ i l e. companion_next L n (X K) blocks i (last d n (suc i)) e
      ∙ ap₂ (λ y z. y ⊕ ⊖ (blocks.coefficient (suc i) ⊗ z)) (delta_other L i (last d n (suc i)) (let h = last_after d n S.sums (suc i) l in omega arith)) (delta_same L (last d n (suc i)))
      ∙ zero_plus L _ ∙ ap ⊖◌ (times_one L _))

  last_entry : (i : ℕ) → i < n → scalar_of p (F i (last d n i)) ≡ companion_entry L n (X K) blocks i (last d n i)
  unfolding companion_blocks
  last_entry i l =
      let h = S.small (block d n i) (position d n i) in
      ap (scalar_of p) (frobenius_last p n f S.sums i l)
      ∙ scalar_of_opposite p (f (block d n i) (position d n i)) (omega arith) (omega arith)
      ∙ sym (companion_last i l)

  other_entry : (j : ℕ) → j < n → (i : ℕ) → i < n → j ≢ last d n i → scalar_of p (F i j) ≡ companion_entry L n (X K) blocks i j
  unfolding companion_blocks
  other_entry j m = row_cases d n S.sums (λ i. j ≢ last d n i → scalar_of p (F i j) ≡ companion_entry L n (X K) blocks i j)
      (λ i l e q. ap (scalar_of p) (frobenius_head p n f S.sums i j l m e q) ∙ scalar_of_zero p
      ∙ sym (companion_first L n (X K) blocks i j e ∙ ap (λ y. ⊖ (blocks.coefficient i ⊗ y)) (delta_other L j (last d n i) q) ∙ ap ⊖◌ (times_zero L _) ∙ minus_zero L))
      (λ i l e q. ap (scalar_of p) (frobenius_next p n f S.sums i j l m e q) ∙ scalar_of_unit p n i j (omega arith) m
      ∙ sym (companion_next L n (X K) blocks i j e ∙ ap (λ y. delta L i j ⊕ ⊖ (blocks.coefficient (suc i) ⊗ y)) (delta_other L j (last d n (suc i)) q)
      ∙ ap (λ y. delta L i j ⊕ ⊖ y) (times_zero L _) ∙ ap (λ y. delta L i j ⊕ y) (minus_zero L) ∙ plus_zero L _))

  frobenius_is : (i j : ℕ) → i < n → j < n → scalar_of p (F i j) ≡ companion_entry L n (X K) blocks i j
  frobenius_is i j l m = elim (ℕ_discrete j (last d n i)) [
    | yes q ↦ ap (λ (k : ℕ). scalar_of p (F i k)) q ∙ last_entry i l ∙ ap (companion_entry L n (X K) blocks i) (sym q)
    | no q ↦ other_entry j m i l q
  ]

  pub characteristic_reduced : characteristic K n (field p n F) ≡ product L n (left_factor L n (X K) blocks) (product L n (diagonal L n (factor L n (X K) blocks)) (right_factor L n (X K) blocks))
  unfolding characteristic matrix_plus matrix_minus scale scalars
  characteristic_reduced = matrix_equal L n _ _ (characteristic_within K n (field p n F) (field_within p n F)) (restrict_within L n _) (λ i j l m.
      ap₂ (λ y z. X K ⊗ y ⊕ ⊖ z) (identity_inside L n i j l) (ap (scalar K) (field_inside p n F i j l m) ∙ sym (scalar_of_is p (F i j)) ∙ frobenius_is i j l m) ∙ sym (restrict_inside L n _ i j l m))
      ∙ block_reduction L n (X K) blocks
