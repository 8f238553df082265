-- The closed forms satisfy rules 4 to 6: P and PI are inverse to each other, so are Q and QI, and P(XE-A)Q = D, over F_p[X].
use Rattle.std.specs.Prelude.{◌≡◌, ℕ, ◌<◌}
use Rattle.std.proofs.Math.Path.{sym, ap}
use Rattle.std.proofs.Common.{◌∙◌, ap₂, zero-add}
use Rattle.algebra.specs.Ring.{Ring}
use Rattle.algebra.specs.Domain.{Domain}
use Rattle.algebra.specs.Sum.{delta}
use Rattle.algebra.specs.Matrix.{Matrix, matrix_equal, product, product_associative, product_within, product_identity}
use Rattle.algebra.specs.Inverse.{Inverse, Basis, inverse_symmetric, inverse_of_product, cancel_left}
use Rattle.algebra.specs.OneSided.{inverse_of_right}
use Rattle.algebra.specs.Shapes.{delta_permuted, diagonal, diagonal_within, diagonal_inside, permutation, permutation_within, permutes_back, Permutes, product_permutation, permutation_product, permutation_inverse}
use Rattle.algebra.specs.Polynomial.{Polynomial, polynomials, X}
use Rattle.algebra.specs.Euclid.{polynomial_domain}
use Rattle.algebra.specs.Characteristic.{scalars_inverse, characteristic, characteristic_similar}
use Rattle.algebra.specs.BlockFactors.{CompanionBlocks, left_factor, right_factor, right_inverse, right_inverse_within, factor}
use Rattle.algebra.specs.BlockReduction.{right_factor_inverse}
use Rattle.algebra.specs.Modular.{Residue, Prime, residue, modulo, positive}
use Rattle.algebra.specs.PrimeField.{prime_field}
use Rattle.forms.specs.Polynomials.{Coefficients}
use Rattle.forms.specs.Matrices.{Entries, PolynomialEntries, unit, field_product}
use Rattle.forms.specs.Frobenius.{frobenius}
use Rattle.forms.specs.Words.{FieldEqual}
use Rattle.forms.specs.Rings.{field, field_within, Over, product_over, equal_over, diagonal_over}
use Rattle.forms.proofs.Rings.{characteristic_over}
use Rattle.forms.specs.Inverses.{field_basis, inverse_polynomial}
use Rattle.forms.specs.Scalars.{scalars_of}
use Rattle.forms.specs.BlockIndices.{degrees}
use Rattle.forms.specs.BlockPermutation.{to, from, to_permutes}
use Rattle.forms.specs.SmithDiagonals.{SmithDiagonal}
use Rattle.forms.proofs.FrobeniusReduction.{shifted, shifted_coefficient, companion_blocks, factor_is, characteristic_reduced}
use Rattle.forms.specs.ClosedForms.{PI_column, P_row, Q_column, QI_row, closed_P, closed_PI, closed_Q, closed_QI}
use Rattle.forms.proofs.ClosedMatrices.{PI_over, Q_over, QI_over, P_matrix, P_over, left_factor_P}
use Rattle.forms.specs.ClosedRules.{SmithRules}

module _ (p n : ℕ) (prime : Prime p) (f : ℕ → Coefficients) (S : SmithDiagonal p n f)
    (A T TI : Entries) (A_small : (i j : ℕ) → i < n → j < n → A i j < p) (T_small : (i j : ℕ) → T i j < p) (TI_small : (i j : ℕ) → TI i j < p)
    (T_TI : FieldEqual p n (field_product n T TI) unit) (A_T : FieldEqual p n (field_product n A T) (field_product n T (frobenius p n f))) where
  abbrev K : Ring (Residue p)
  K = modulo p

  abbrev L : Ring (Polynomial K)
  L = polynomials K

  abbrev ◌·◌ : Matrix L → Matrix L → Matrix L
  ◌·◌ = product L n

  infixl 70 ◌·◌
  abbrev d : ℕ → ℕ
  d = degrees n f

  abbrev blocks : CompanionBlocks L n (X K)
  blocks = companion_blocks p n f S

  abbrev T_scalars : Matrix L
  T_scalars = scalars_of p n T

  abbrev TI_scalars : Matrix L
  TI_scalars = scalars_of p n TI

  domain : Domain L
  domain = polynomial_domain K (prime_field p prime)

  basis : Basis K n (field p n A) (field p n (frobenius p n f)) (field p n T) (field p n TI)
  basis = field_basis p prime n A (frobenius p n f) T TI T_TI A_T

  scalars_of_inverse : Inverse L n T_scalars TI_scalars
  unfolding scalars_of
  scalars_of_inverse = scalars_inverse K n (field p n T) (field p n TI) basis.inverse

  -- in the order of F's rows
  abbrev left : Matrix L
  left = left_factor L n (X K) blocks

  abbrev right : Matrix L
  right = right_factor L n (X K) blocks

  abbrev back : Matrix L
  back = right_inverse L n (X K) blocks

  abbrev middle : Matrix L
  middle = diagonal L n (factor L n (X K) blocks)

  abbrev P_by_rows : Matrix L
  P_by_rows = P_matrix p n f S TI

  P_inverse : Inverse L n (T_scalars · left) P_by_rows
  P_inverse = inverse_of_right L domain n _ _ (PI_over p n f S T T_small).within (P_over p n f S TI).within
      (product_associative L n T_scalars left P_by_rows ∙ ap (λ x. T_scalars · x) (left_factor_P p n f S TI) ∙ scalars_of_inverse.right)

  Q_inverse : Inverse L n (right · TI_scalars) (T_scalars · back)
  Q_inverse = inverse_of_right L domain n _ _ (QI_over p n f S TI TI_small).within (Q_over p n f S T T_small).within
      (product_associative L n right TI_scalars (T_scalars · back) ∙ ap (λ x. right · x) (cancel_left L n TI_scalars T_scalars back (right_inverse_within L n (X K) blocks) scalars_of_inverse.left) ∙ right_factor_inverse L n (X K) blocks)

  -- in the order of D
  permutes : Permutes n (to d n) (from d n)
  permutes = to_permutes d n S.sums S.low S.rising

  abbrev onto : Matrix L
  onto = permutation L n (to d n)

  abbrev off : Matrix L
  off = permutation L n (from d n)

  permutation_inverses : Inverse L n onto off
  permutation_inverses = permutation_inverse L n (to d n) (from d n) permutes

  rows_over : (G : Matrix L) (F : PolynomialEntries) → Over p n G F → Over p n (onto · G) (λ r c k. F (from d n r) c k)
  rows_over G F o = record {
    within = product_within L n _ _ (permutation_within L n (to d n)) o.within;
    coefficient = λ r c k l m. ap (λ (g : Polynomial K). g.0 k) (permutation_product L n (to d n) (from d n) permutes G r c l) ∙ o.coefficient (from d n r) c k (permutes.back_below r l) m;
  }

  columns_over : (G : Matrix L) (F : PolynomialEntries) → Over p n G F → Over p n (G · off) (λ r c k. F r (from d n c) k)
  columns_over G F o = record {
    within = product_within L n _ _ o.within (permutation_within L n (from d n));
    coefficient = λ r c k l m. ap (λ (g : Polynomial K). g.0 k) (product_permutation L n (from d n) (to d n) (permutes_back n _ _ permutes) G r c m) ∙ o.coefficient r (from d n c) k l (permutes.back_below c m);
  }

  P_is : Over p n (onto · P_by_rows) (closed_P n f TI)
  unfolding closed_P
  P_is = rows_over P_by_rows (P_row n f TI) (P_over p n f S TI)

  PI_is : Over p n (T_scalars · left · off) (closed_PI p n f T)
  unfolding closed_PI
  PI_is = columns_over (T_scalars · left) (PI_column p n f T) (PI_over p n f S T T_small)

  Q_is : Over p n (T_scalars · back · off) (closed_Q p n f T)
  unfolding closed_Q
  Q_is = columns_over (T_scalars · back) (Q_column p n f T) (Q_over p n f S T T_small)

  QI_is : Over p n (onto · (right · TI_scalars)) (closed_QI p n f TI)
  unfolding closed_QI
  QI_is = rows_over (right · TI_scalars) (QI_row p n f TI) (QI_over p n f S TI TI_small)

  P_PI_inverse : Inverse L n (onto · P_by_rows) (T_scalars · left · off)
  P_PI_inverse = inverse_of_product L n onto off P_by_rows (T_scalars · left) permutation_inverses (inverse_symmetric L n _ _ P_inverse)

  Q_QI_inverse : Inverse L n (T_scalars · back · off) (onto · (right · TI_scalars))
  Q_QI_inverse = inverse_of_product L n (T_scalars · back) (right · TI_scalars) off onto (inverse_symmetric L n _ _ Q_inverse) (inverse_symmetric L n _ _ permutation_inverses)

  -- (XE-A) T back = T left middle
  abbrev XE_A : Matrix L
  XE_A = characteristic K n (field p n A)

  reduced_middle : characteristic K n (field p n (frobenius p n f)) · back ≡ left · middle
  reduced_middle = ap (λ x. x · back) (characteristic_reduced p n f S) ∙ product_associative L n left (middle · right) back
      ∙ ap (λ x. left · x) (product_associative L n middle right back ∙ ap (λ x. middle · x) (right_factor_inverse L n (X K) blocks) ∙ product_identity L n middle (diagonal_within L n _))

  moved : XE_A · (T_scalars · back) ≡ T_scalars · left · middle
  unfolding scalars_of
  moved = sym (product_associative L n XE_A T_scalars back) ∙ ap (λ x. x · back) (characteristic_similar K n (field p n A) (field p n (frobenius p n f)) (field p n T) (field_within p n T) basis.moves)
      ∙ product_associative L n T_scalars _ back ∙ ap (λ x. T_scalars · x) reduced_middle ∙ sym (product_associative L n T_scalars left middle)

  permuted : onto · P_by_rows · XE_A · (T_scalars · back · off) ≡ onto · (middle · off)
  permuted = product_associative L n (onto · P_by_rows) XE_A (T_scalars · back · off) ∙ product_associative L n onto P_by_rows _
      ∙ ap (λ x. onto · x) (ap (λ x. P_by_rows · x) (sym (product_associative L n XE_A (T_scalars · back) off) ∙ ap (λ x. x · off) moved ∙ product_associative L n (T_scalars · left) middle off)
      ∙ cancel_left L n P_by_rows (T_scalars · left) (middle · off) (product_within L n middle off (diagonal_within L n _) (permutation_within L n (from d n))) P_inverse.left)

  from_apart : (r c : ℕ) → r < n → c < n → delta L (from d n r) (from d n c) ≡ delta L r c
  from_apart r c l m = sym (delta_permuted L n (to d n) (from d n) permutes r (from d n c) l (permutes.back_below c m)) ∙ ap (delta L r) (permutes.forth c m)

  middle_permuted : onto · (middle · off) ≡ diagonal L n (λ r. shifted p n f S r 0)
  middle_permuted = matrix_equal L n _ _
      (product_within L n onto _ (permutation_within L n (to d n)) (product_within L n middle off (diagonal_within L n _) (permutation_within L n (from d n)))) (diagonal_within L n _) (λ r c l m.
      permutation_product L n (to d n) (from d n) permutes (middle · off) r c l
      ∙ product_permutation L n (from d n) (to d n) (permutes_back n _ _ permutes) middle (from d n r) c m
      ∙ diagonal_inside L n _ (from d n r) (from d n c) (permutes.back_below r l) (permutes.back_below c m)
      ∙ ap₂ L.times (from_apart r c l m) (factor_is p n f S (from d n r) (permutes.back_below r l) ∙ ap (λ (x : ℕ). shifted p n f S x 0) (permutes.forth r l))
      ∙ sym (diagonal_inside L n _ r c l m))

  pub closed_smith_rules : SmithRules p n A f (closed_P n f TI) (closed_PI p n f T) (closed_Q p n f T) (closed_QI p n f TI)
  closed_smith_rules = record {
    P_PI = inverse_polynomial p prime n _ _ _ _ P_is PI_is P_PI_inverse;
    PI_P = inverse_polynomial p prime n _ _ _ _ PI_is P_is (inverse_symmetric L n _ _ P_PI_inverse);
    Q_QI = inverse_polynomial p prime n _ _ _ _ Q_is QI_is Q_QI_inverse;
    QI_Q = inverse_polynomial p prime n _ _ _ _ QI_is Q_is (inverse_symmetric L n _ _ Q_QI_inverse);
    smith = equal_over p n _ _ _ _ (positive p prime) (product_over p n _ _ _ _ (product_over p n _ _ _ _ P_is (characteristic_over p n A A_small)) Q_is)
        (diagonal_over p n (λ r. shifted p n f S r 0) f (λ r k l. shifted_coefficient p n f S r 0 k ∙ ap (λ (x : ℕ). residue p (f r x)) (zero-add k))) (permuted ∙ middle_permuted);
  }
