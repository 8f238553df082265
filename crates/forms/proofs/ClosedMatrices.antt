-- The closed forms, row by row of F, as matrices over F_p[X]: P's inverse is T left_factor, Q is T right_inverse, Q's inverse is
-- right_factor T⁻¹, and left_factor P is T⁻¹.
use Rattle.std.proofs.Math.Path.{◌≡◌, refl, sym, ap, ap₂}
use Rattle.std.proofs.Common.{◌∙◌, add-zero, add-suc, suc-add, arith, le→leb}
use Rattle.std.specs.Prelude.{Bool, eqb, leb}
use Rattle.std.proofs.Math.Bool.{true, false, cond}
use Prim.Native.Nat.{ℕ, zero, suc, ◌+◌, ◌*◌, ◌-◌, ◌%◌, ◌≤◌, ◌<◌}
use Rattle.std.proofs.Math.Nat.{suc-sub-suc, sub-zero}
use Rattle.std.proofs.Math.Decide.{dec_lt}
use Rattle.std.proofs.Math.Dec.{eqb-suc-zero, eqb-suc-suc, leb→le}
use Rattle.algebra.specs.Ring.{Ring, times_commutative, times_minus}
use Rattle.algebra.specs.Solver.{◌:+◌, ◌:*◌, :-◌, :0, solve₃}
use Rattle.algebra.specs.Sum.{sum_equal}
use Rattle.algebra.specs.Matrix.{Matrix, matrix_equal, product, product_within}
use Rattle.algebra.specs.Series.{Series, cons}
use Rattle.algebra.specs.Polynomial.{Polynomial, polynomials, polynomial_equal, plus_coefficient, sum_coefficient, scalar_times_coefficient, X}
use Rattle.algebra.specs.BlockFactors.{CompanionBlocks, left_factor, left_factor_within, left_factor_next, left_factor_end, product_left_factor_zero, product_left_factor, right_factor, right_factor_within, right_factor_first, right_factor_next, right_inverse, right_inverse_within, product_right_inverse_next, product_right_inverse_head}
use Rattle.algebra.specs.Modular.{Residue, residue, residue_plus, residue_times, residue_remainder, modulo}
use Rattle.forms.specs.Numbers.{total}
use Rattle.forms.specs.Tests.{cond_holds, cond_fails}
use Rattle.forms.specs.Polynomials.{Coefficients, degree}
use Rattle.forms.specs.Matrices.{Entries}
use Rattle.forms.specs.Rings.{total_residue, Over, lift, lift_over}
use Rattle.forms.specs.Scalars.{scalar_of, scalar_of_is, scalar_of_coefficient, scalar_of_minus, scalar_of_opposite, scalar_of_plus_X_times, scalars_of, scalars_of_inside, scalars_of_within}
use Rattle.forms.specs.BlockIndices.{degrees, block, head, last, position, is_head, block_next, block_of_head, head_of, head_row, head_equal, head_position, last_below, last_after, last_of, last_equal, position_below, row_cases}
use Rattle.forms.specs.SmithDiagonals.{SmithDiagonal}
use Rattle.forms.proofs.FrobeniusReduction.{shifted, shifted_coefficient, companion_blocks}
use Rattle.forms.specs.ClosedForms.{opposite, P_row, PI_column, Q_column, QI_row}
use Rattle.forms.specs.ClosedBounds.{P_row_short}

module _ (p n : ℕ) (f : ℕ → Coefficients) (S : SmithDiagonal p n f) where
  abbrev K : Ring (Residue p)
  K = modulo p

  abbrev L : Ring (Polynomial K)
  L = polynomials K

  open L use {plus as ◌⊕◌, times as ◌⊗◌, minus as ⊖◌, zero as 𝟘, one as 𝟙}

  infixl 60 ◌⊕◌
  infixl 70 ◌⊗◌
  infix 80 ⊖◌
  abbrev d : ℕ → ℕ
  d = degrees n f

  abbrev blocks : CompanionBlocks L n (X K)
  blocks = companion_blocks p n f S

  abbrev ◌·◌ : Matrix L → Matrix L → Matrix L
  ◌·◌ = product L n

  infixl 70 ◌·◌
  abbrev left : Matrix L
  left = left_factor L n (X K) blocks

  abbrev right : Matrix L
  right = right_factor L n (X K) blocks

  abbrev back : Matrix L
  back = right_inverse L n (X K) blocks

  modulus_positive : 0 < p
  modulus_positive = let h = S.small 0 0 in omega arith

  module _ (T : Entries) (small : (i j : ℕ) → T i j < p) where
    abbrev T_scalars : Matrix L
    T_scalars = scalars_of p n T

    scalar_opposite : (r i : ℕ) → ⊖ (scalar_of p (T r i)) ≡ scalar_of p (opposite p (T r i))
    scalar_opposite r i = sym (scalar_of_opposite p (T r i) (let h = small r i in omega arith) modulus_positive)

    -- column i of T, less X times the column before
    PI_head : (r i k : ℕ) → is_head d n i ≡ true → (scalar_of p (T r i)).0 k ≡ residue p (PI_column p n f T r i k)
    unfolding PI_column
    PI_head r i k e = scalar_of_coefficient p (T r i) k ∙ sym (ap (λ (b : Bool). residue p (cond (eqb k 0) (T r i) (cond (eqb k 1) (cond b 0 (opposite p (T r (i - 1)))) 0))) e ∙ ap (λ (x : ℕ). residue p (cond (eqb k 0) (T r i) x)) (same (eqb k 1)))
      where
        same : (b : Bool) → ◌≡◌ {A = ℕ} (cond b 0 0) 0
        same true = refl
        same false = refl

    PI_next : (r i k : ℕ) → is_head d n (suc i) ≡ false → (scalar_of p (T r (suc i)) ⊕ X K ⊗ scalar_of p (opposite p (T r i))).0 k ≡ residue p (PI_column p n f T r (suc i) k)
    unfolding PI_column cons
    PI_next r i k e =
        ap (λ (g : Series K). g k) (scalar_of_plus_X_times p (T r (suc i)) (scalar_of p (opposite p (T r i)))) ∙ at k
        ∙ ap₂ (λ (b : Bool) (j : ℕ). residue p (cond (eqb k 0) (T r (suc i)) (cond (eqb k 1) (cond b 0 (opposite p (T r j))) 0))) (sym e) (sym (suc-sub-suc i 0 ∙ sub-zero i))
      where
        at : (k : ℕ) → cons K (residue p (T r (suc i))) (scalar_of p (opposite p (T r i))).0 k ≡ residue p (cond (eqb k 0) (T r (suc i)) (cond (eqb k 1) (opposite p (T r i)) 0))
        at zero = refl
        at (suc k) = scalar_of_coefficient p (opposite p (T r i)) k ∙ sym (ap₂ (λ (b c : Bool). residue p (cond b (T r (suc i)) (cond c (opposite p (T r i)) 0))) (eqb-suc-zero k) (eqb-suc-suc k 0))

    PI_before : (r i : ℕ) → suc i < n → (b : Bool) → is_head d n (suc i) ≡ b → (T_scalars · left) r (suc i) ≡ T_scalars r (suc i) ⊕ ⊖ (cond b 𝟘 (X K) ⊗ T_scalars r i)
    unfolding companion_blocks
    PI_before r i m b e = product_left_factor L n (X K) blocks T_scalars r i m ∙ ap (λ (c : Bool). T_scalars r (suc i) ⊕ ⊖ (cond c 𝟘 (X K) ⊗ T_scalars r i)) e

    PI_head_entry : (r i : ℕ) → r < n → i < n → is_head d n i ≡ true → (T_scalars · left) r i ≡ scalar_of p (T r i)
    PI_head_entry r zero l m e = product_left_factor_zero L n (X K) blocks T_scalars r m l ∙ scalars_of_inside p n T r 0 l m
    PI_head_entry r (suc i) l m e = PI_before r i m true e ∙ solve₃ L (λ x y z. x :+ :- (:0 :* y)) (λ x y z. x) refl (T_scalars r (suc i)) (T_scalars r i) 𝟘 ∙ scalars_of_inside p n T r (suc i) l m

    PI_next_entry : (r i : ℕ) → r < n → suc i < n → is_head d n (suc i) ≡ false → (T_scalars · left) r (suc i) ≡ scalar_of p (T r (suc i)) ⊕ X K ⊗ scalar_of p (opposite p (T r i))
    PI_next_entry r i l m e = PI_before r i m false e
        ∙ ap₂ (λ x y. x ⊕ ⊖ (X K ⊗ y)) (scalars_of_inside p n T r (suc i) l m) (scalars_of_inside p n T r i l (omega arith))
        ∙ ap (λ x. scalar_of p (T r (suc i)) ⊕ x) (sym (times_minus L _ _) ∙ ap (λ x. X K ⊗ x) (scalar_opposite r i))

    pub PI_over : Over p n (T_scalars · left) (PI_column p n f T)
    PI_over = record {
      within = product_within L n _ _ (scalars_of_within p n T) (left_factor_within L n (X K) blocks);
      coefficient = λ r i k l. row_cases d n S.sums (λ i. ((T_scalars · left) r i).0 k ≡ residue p (PI_column p n f T r i k))
          (λ i m e. ap (λ (g : Polynomial K). g.0 k) (PI_head_entry r i l m e) ∙ PI_head r i k e) (λ i m e. ap (λ (g : Polynomial K). g.0 k) (PI_next_entry r i l m e) ∙ PI_next r i k e) i;
    }

    -- minus the column before; at a head a sum over the block
    Q_next : (r i k : ℕ) → r < n → suc i < n → is_head d n (suc i) ≡ false → ((T_scalars · back) r (suc i)).0 k ≡ residue p (Q_column p n f T r (suc i) k)
    unfolding companion_blocks Q_column
    Q_next r i k l m e = ap (λ (g : Polynomial K). g.0 k) (product_right_inverse_next L n (X K) blocks T_scalars r i m e ∙ ap ⊖◌ (scalars_of_inside p n T r i l (omega arith)) ∙ scalar_opposite r i) ∙ scalar_of_coefficient p (opposite p (T r i)) k
        ∙ ap₂ (λ (b : Bool) (j : ℕ). residue p (cond b (total (degree n (f (block d n (suc i)))) (λ s. T r (suc i + s) * f (block d n (suc i)) (suc s + k)) % p) (cond (eqb k 0) (opposite p (T r j)) 0))) (sym e) (sym (suc-sub-suc i 0 ∙ sub-zero i))

    head_rows : (i k : ℕ) → i < n → head d n i ≡ i → k < n → head d n k ≡ i → (i ≤ k) × (k < i + d (block d n i))
    head_rows i k l h m e =
        let b = block_of_head d n S.sums i k l m e in
        let q = position_below d n S.sums k m in let t : d (block d n k) ≡ d (block d n i) = ap d b in
        let z = head_position d n S.sums k m in (omega arith, omega arith)

    Q_head : (r i k : ℕ) → r < n → i < n → is_head d n i ≡ true → ((T_scalars · back) r i).0 k ≡ residue p (Q_column p n f T r i k)
    unfolding companion_blocks Q_column
    Q_head r i k l m e =
        let h : head d n i ≡ i = head_of d n S.sums i m e in
        let b : ℕ = block d n i in
        let z : 0 < d b = (let q = position_below d n S.sums i m in omega arith) in
        ap (λ (g : Polynomial K). g.0 k) (product_right_inverse_head L n (X K) blocks T_scalars r i (d b) e z (let q = (head_row d n S.sums i (d b - 1) m h (omega arith)).0 in omega arith)
        (λ s q. head_equal d n S.sums (i + s) i (head_row d n S.sums i s m h q).1 ∙ h) (λ j q t. head_rows i j m h q t))
        ∙ sum_coefficient K _ (d b) k
        ∙ sum_equal K _ _ (d b) (λ s q. term s (head_row d n S.sums i s m h q))
        ∙ sym (total_residue p (d b) _) ∙ sym (residue_remainder p _ modulus_positive)
        ∙ ap (λ (c : Bool). residue p (cond c (total (degree n (f b)) (λ s. T r (i + s) * f b (suc s + k)) % p) (cond (eqb k 0) (opposite p (T r (i - 1))) 0))) (sym e)
      where
        term : (s : ℕ) → (i + s < n) × (block d n (i + s) ≡ block d n i) × (position d n (i + s) ≡ s)
            → (T_scalars r (i + s) ⊗ shifted p n f S (block d n (i + s)) (suc (position d n (i + s)))).0 k ≡ residue p (T r (i + s) * f (block d n i) (suc s + k))
        term s (x, y, z) = ap₂ (λ g h. (g ⊗ h).0 k) (scalars_of_inside p n T r (i + s) l x ∙ scalar_of_is p _) (ap₂ (λ (u v : ℕ). shifted p n f S u (suc v)) y z)
            ∙ scalar_times_coefficient K _ _ k ∙ ap (λ g. K.times (residue p (T r (i + s))) g) (shifted_coefficient p n f S (block d n i) (suc s) k) ∙ sym (residue_times p _ _)

    pub Q_over : Over p n (T_scalars · back) (Q_column p n f T)
    Q_over = record {
      within = product_within L n _ _ (scalars_of_within p n T) (right_inverse_within L n (X K) blocks);
      coefficient = λ r i k l. row_cases d n S.sums (λ i. ((T_scalars · back) r i).0 k ≡ residue p (Q_column p n f T r i k)) (λ i. Q_head r i k l) (λ i. Q_next r i k l) i;
    }

  module _ (TI : Entries) (small : (i j : ℕ) → TI i j < p) where
    abbrev TI_scalars : Matrix L
    TI_scalars = scalars_of p n TI

    -- the last row of the block at a head; else that row times f from the position on, less the row before
    QI_head : (i c k : ℕ) → i < n → c < n → is_head d n i ≡ true → ((right · TI_scalars) i c).0 k ≡ residue p (QI_row p n f TI i c k)
    unfolding companion_blocks QI_row
    QI_head i c k l m e = ap (λ (g : Polynomial K). g.0 k) (right_factor_first L n (X K) blocks TI_scalars i c l e ∙ scalars_of_inside p n TI (last d n i) c (last_below d n S.sums i S.low) m)
        ∙ scalar_of_coefficient p (TI (last d n i) c) k
        ∙ ap (λ (b : Bool). residue p (cond b (cond (eqb k 0) (TI (last d n i) c) 0) ((f (block d n i) (position d n i + k) * TI (last d n i) c + cond (eqb k 0) (p - TI (i - 1) c) 0) % p))) (sym e)

    QI_next : (i c k : ℕ) → suc i < n → c < n → is_head d n (suc i) ≡ false → ((right · TI_scalars) (suc i) c).0 k ≡ residue p (QI_row p n f TI (suc i) c k)
    unfolding companion_blocks QI_row
    QI_next i c k l m e =
        let j : ℕ = suc i in
        let b : ℕ = block d n j in
        ap (λ (g : Polynomial K). g.0 k) (right_factor_next L n (X K) blocks TI_scalars i c l e
        ∙ ap₂ (λ x y. shifted p n f S b (position d n j) ⊗ x ⊕ y) (scalars_of_inside p n TI (last d n j) c (last_below d n S.sums j S.low) m ∙ scalar_of_is p _)
        (ap ⊖◌ (scalars_of_inside p n TI i c (omega arith) m) ∙ sym (scalar_of_minus p (TI i c) (let h = small i c in omega arith) modulus_positive))
        ∙ ap (λ x. x ⊕ scalar_of p (p - TI i c)) (times_commutative L _ _))
        ∙ plus_coefficient K _ _ k
        ∙ ap₂ K.plus (scalar_times_coefficient K _ _ k ∙ times_commutative K _ _ ∙ ap (λ g. K.times g (residue p (TI (last d n j) c))) (shifted_coefficient p n f S b (position d n j) k) ∙ sym (residue_times p _ _)) (scalar_of_coefficient p (p - TI i c) k)
        ∙ sym (residue_plus p _ _) ∙ sym (residue_remainder p _ modulus_positive)
        ∙ ap₂ (λ (t : Bool) (x : ℕ). residue p (cond t (cond (eqb k 0) (TI (last d n j) c) 0) ((f b (position d n j + k) * TI (last d n j) c + cond (eqb k 0) (p - TI x c) 0) % p))) (sym e) (sym (suc-sub-suc i 0 ∙ sub-zero i))

    pub QI_over : Over p n (right · TI_scalars) (QI_row p n f TI)
    QI_over = record {
      within = product_within L n _ _ (right_factor_within L n (X K) blocks) (scalars_of_within p n TI);
      coefficient = λ i c k l m. row_cases d n S.sums (λ i. ((right · TI_scalars) i c).0 k ≡ residue p (QI_row p n f TI i c k)) (λ i q e. QI_head i c k q m e) (λ i q e. QI_next i c k q m e) i l;
    }

  -- P, from the rows of T's inverse
  module _ (TI : Entries) where
    pub P_matrix : Matrix L
    P_matrix = lift p n n (P_row n f TI) (P_row_short p n f S TI)

    pub P_over : Over p n P_matrix (P_row n f TI)
    unfolding P_matrix
    P_over = lift_over p n n (P_row n f TI) (P_row_short p n f S TI)

    P_row_first : (i c : ℕ) → i < n → P_row n f TI i c 0 ≡ TI i c
    unfolding P_row
    P_row_first i c l = cond_holds (leb (i + 0) (last d n i)) _ 0 (le→leb (i + 0) (last d n i) (let h = last_after d n S.sums i l in omega arith)) ∙ ap (λ (j : ℕ). TI j c) (add-zero i)

    P_row_next : (i c k : ℕ) → suc i < n → is_head d n (suc i) ≡ false → P_row n f TI i c (suc k) ≡ P_row n f TI (suc i) c k
    unfolding P_row
    P_row_next i c k l e = ap₂ (λ (j q : ℕ). cond (leb j q) (TI j c) 0) (add-suc i k ∙ sym (suc-add i k)) (sym (last_equal d n S.sums (suc i) i (block_next d n S.sums i l e)))

    P_row_end : (i c k : ℕ) → last d n i ≡ i → P_row n f TI i c (suc k) ≡ 0
    unfolding P_row
    P_row_end i c k e = cond_fails (leb (i + suc k) (last d n i)) _ 0 (λ t. (let h = leb→le (i + suc k) (last d n i) t in omega arith))

    P_next : (i c : ℕ) → suc i < n → c < n → is_head d n (suc i) ≡ false → P_matrix i c ≡ scalar_of p (TI i c) ⊕ X K ⊗ P_matrix (suc i) c
    unfolding cons
    P_next i c l m e = polynomial_equal K _ _ (λ k. P_over.coefficient i c k (omega arith) m ∙ at k
        ∙ sym (ap (λ (g : Series K). g k) (scalar_of_plus_X_times p (TI i c) (P_matrix (suc i) c))))
      where
        at : (k : ℕ) → residue p (P_row n f TI i c k) ≡ cons K (residue p (TI i c)) (P_matrix (suc i) c).0 k
        at zero = ap (residue p) (P_row_first i c (omega arith))
        at (suc k) = ap (residue p) (P_row_next i c k l e) ∙ sym (P_over.coefficient (suc i) c k l m)

    P_end : (i c : ℕ) → i < n → c < n → last d n i ≡ i → P_matrix i c ≡ scalar_of p (TI i c)
    P_end i c l m e = polynomial_equal K _ _ (λ k. P_over.coefficient i c k l m ∙ at k ∙ sym (scalar_of_coefficient p (TI i c) k))
      where
        at : (k : ℕ) → residue p (P_row n f TI i c k) ≡ residue p (cond (eqb k 0) (TI i c) 0)
        at zero = ap (residue p) (P_row_first i c l)
        at (suc k) = ap (residue p) (P_row_end i c k e ∙ sym (ap (λ (b : Bool). cond b (TI i c) 0) (eqb-suc-zero k)))

    left_entry : (i c : ℕ) → i < n → c < n → (b : Bool) → is_head d n (suc i) ≡ b → Dec (suc i < n) → (left · P_matrix) i c ≡ scalar_of p (TI i c)
    unfolding companion_blocks
    left_entry i c l m false e (yes q) = left_factor_next L n (X K) blocks P_matrix i c q e ∙ ap (λ x. x ⊕ ⊖ (X K ⊗ P_matrix (suc i) c)) (P_next i c q m e) ∙ solve₃ L (λ x y z. x :+ y :* z :+ :- (y :* z)) (λ x y z. x) refl (scalar_of p (TI i c)) (X K) (P_matrix (suc i) c)
    left_entry i c l m true e q = left_factor_end L n (X K) blocks P_matrix i c l (λ h. e) ∙ P_end i c l m (last_of d n S.sums i l (λ h. e))
    left_entry i c l m false e (no q) = left_factor_end L n (X K) blocks P_matrix i c l (λ h. absurd (q h)) ∙ P_end i c l m (last_of d n S.sums i l (λ h. absurd (q h)))

    pub left_factor_P : left · P_matrix ≡ scalars_of p n TI
    left_factor_P = matrix_equal L n _ _ (product_within L n _ _ (left_factor_within L n (X K) blocks) P_over.within) (scalars_of_within p n TI)
        (λ i c l m. left_entry i c l m (is_head d n (suc i)) refl (dec_lt (suc i) n) ∙ sym (scalars_of_inside p n TI i c l m))
