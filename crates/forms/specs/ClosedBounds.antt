-- The closed forms have at most n coefficients an entry, and residues for coefficients where T and its inverse have.
use Rattle.std.specs.Prelude.{◌≡◌, Bool, ℕ, zero, suc, ◌+◌, ◌*◌, ◌-◌, ◌%◌, ◌≤◌, ◌<◌, eqb, leb}
use Rattle.std.proofs.Math.Path.{refl, ap, ap₂}
use Rattle.std.proofs.Common.{◌∙◌, mod-lt, zero-mul, arith}
use Rattle.std.proofs.Math.Bool.{true, false, cond}
use Rattle.std.proofs.Math.Nat.{zero-mod, mul-zero}
use Rattle.std.proofs.Math.Decide.{ℕ_discrete}
use Rattle.std.proofs.Math.Dec.{eqb→eq, leb→le, eqb-suc-zero}
use Rattle.algebra.specs.Pigeonhole.{preimage_below}
use Rattle.forms.specs.Numbers.{total}
use Rattle.forms.specs.Tests.{cond_fails, total_of_zeros}
use Rattle.forms.specs.Polynomials.{Coefficients, degree}
use Rattle.forms.specs.Matrices.{Entries, PolynomialEntries}
use Rattle.forms.specs.Bounds.{ShortEntries, degree_limited}
use Rattle.forms.specs.BlockIndices.{degrees, block, head_position, head_before, last, last_below, position, is_head, is_head_of}
use Rattle.forms.specs.SmithDiagonals.{SmithDiagonal}
use Rattle.forms.specs.BlockPermutation.{to, from}
use Rattle.forms.specs.ClosedForms.{opposite, P_row, PI_column, Q_column, QI_row, closed_P, closed_PI, closed_Q, closed_QI}

-- every coefficient is a residue
abbrev pub Reduced : ℕ → PolynomialEntries → Type 0
Reduced p P = (r c k : ℕ) → P r c k < p

constant_above : (x k : ℕ) → 0 < k → cond (eqb k 0) x 0 ≡ 0
constant_above x zero l = absurd (omega arith)
constant_above x (suc k) l = ap (λ (b : Bool). cond b x 0) (eqb-suc-zero k)

module _ (p n : ℕ) (f : ℕ → Coefficients) where
  abbrev d : ℕ → ℕ
  d = degrees n f

  module _ (S : SmithDiagonal p n f) where
    beyond : (b k : ℕ) → n < k → f b k ≡ 0
    beyond b k l = S.above b k (let h = degree_limited n (f b) in omega arith)

    from_below : (r : ℕ) → from d n r < n
    unfolding from
    from_below r = preimage_below n (to d n) r S.low

    pub P_row_short : (TI : Entries) (i c k : ℕ) → n ≤ k → P_row n f TI i c k ≡ 0
    unfolding P_row
    P_row_short TI i c k h = cond_fails (leb (i + k) (last d n i)) _ 0 (λ t. (let e = leb→le (i + k) (last d n i) t in let g = last_below d n S.sums i S.low in omega arith))

    PI_column_short : (T : Entries) (r i k : ℕ) → i < n → n ≤ k → PI_column p n f T r i k ≡ 0
    unfolding PI_column
    PI_column_short T r i k l h = cond_fails (eqb k 0) _ _ (λ t. (let e = eqb→eq k 0 t in let z = S.low in omega arith)) ∙ elim (ℕ_discrete k 1) [
      | yes e ↦ (let g = head_position d n S.sums i l in let q = is_head_of d n S.sums i (omega arith) in both (eqb k 1) (ap (λ (b : Bool). cond b 0 (opposite p (T r (i - 1)))) q))
      | no e ↦ cond_fails (eqb k 1) _ 0 (λ t. e (eqb→eq k 1 t))
    ]
      where
        both : (b : Bool) {x : ℕ} → x ≡ 0 → cond b x 0 ≡ 0
        both true e = e
        both false e = refl

    Q_column_short : (T : Entries) (r i k : ℕ) → i < n → n ≤ k → Q_column p n f T r i k ≡ 0
    unfolding Q_column
    Q_column_short T r i k l h = test (is_head d n i)
      where
        zeros : total (degree n (f (block d n i))) (λ s. T r (i + s) * f (block d n i) (suc s + k)) ≡ 0
        zeros = total_of_zeros _ _ (λ s q. ap (λ (x : ℕ). T r (i + s) * x) (beyond (block d n i) (suc s + k) (omega arith)) ∙ mul-zero _)

        test : (b : Bool) → cond b (total (degree n (f (block d n i))) (λ s. T r (i + s) * f (block d n i) (suc s + k)) % p) (cond (eqb k 0) (opposite p (T r (i - 1))) 0) ≡ 0
        test true = ap (λ (x : ℕ). x % p) zeros ∙ zero-mod p
        test false = constant_above _ k (let z = S.low in omega arith)

    QI_row_short : (TI : Entries) (i c k : ℕ) → i < n → n ≤ k → QI_row p n f TI i c k ≡ 0
    unfolding QI_row
    QI_row_short TI i c k l h = test (is_head d n i) refl
      where
        test : (b : Bool) → is_head d n i ≡ b → cond b (cond (eqb k 0) (TI (last d n i) c) 0) ((f (block d n i) (position d n i + k) * TI (last d n i) c + cond (eqb k 0) (p - TI (i - 1) c) 0) % p) ≡ 0
        test true e = constant_above _ k (let z = S.low in omega arith)
        test false e =
            let g = head_before d n S.sums i l e in let q = head_position d n S.sums i l in
            ap₂ (λ (x y : ℕ). (x * TI (last d n i) c + y) % p) (beyond (block d n i) (position d n i + k) (omega arith)) (constant_above (p - TI (i - 1) c) k (let z = S.low in omega arith)) ∙ ap (λ (x : ℕ). (x + 0) % p) (zero-mul _) ∙ zero-mod p

    -- every entry has at most n coefficients: its degree is at most n - 1
    pub degree_bound : (T TI : Entries) → ShortEntries n (closed_P n f TI) × ShortEntries n (closed_PI p n f T) × ShortEntries n (closed_Q p n f T) × ShortEntries n (closed_QI p n f TI)
    unfolding closed_P closed_PI closed_Q closed_QI
    degree_bound T TI = (
      (λ r c k h. P_row_short TI (from d n r) c k h),
      (λ r c k h. PI_column_short T r (from d n c) k (from_below c) h),
      (λ r c k h. Q_column_short T r (from d n c) k (from_below c) h),
      (λ r c k h. QI_row_short TI (from d n r) c k (from_below r) h),
    )

  -- with residues in T and in its inverse every coefficient is a residue
  module _ (positive : 0 < p) where
    residue_choice : (b : Bool) {x y : ℕ} → x < p → y < p → cond b x y < p
    residue_choice true l h = l
    residue_choice false l h = h

    opposite_below : (x : ℕ) → opposite p x < p
    opposite_below x = mod-lt (p - x) positive

    P_row_below : (TI : Entries) → ((i j : ℕ) → TI i j < p) → (i c k : ℕ) → P_row n f TI i c k < p
    unfolding P_row
    P_row_below TI h i c k = residue_choice (leb (i + k) (last d n i)) (h (i + k) c) positive

    PI_column_below : (T : Entries) → ((i j : ℕ) → T i j < p) → (r i k : ℕ) → PI_column p n f T r i k < p
    unfolding PI_column
    PI_column_below T h r i k = residue_choice (eqb k 0) (h r i) (residue_choice (eqb k 1) (residue_choice (is_head d n i) positive (opposite_below (T r (i - 1)))) positive)

    Q_column_below : (T : Entries) (r i k : ℕ) → Q_column p n f T r i k < p
    unfolding Q_column
    Q_column_below T r i k = let b = block d n i in
        residue_choice (is_head d n i) (mod-lt (total (degree n (f b)) (λ s. T r (i + s) * f b (suc s + k))) positive) (residue_choice (eqb k 0) (opposite_below (T r (i - 1))) positive)

    QI_row_below : (TI : Entries) → ((i j : ℕ) → TI i j < p) → (i c k : ℕ) → QI_row p n f TI i c k < p
    unfolding QI_row
    QI_row_below TI h i c k = let end = last d n i in
        residue_choice (is_head d n i) (residue_choice (eqb k 0) (h end c) positive) (mod-lt (f (block d n i) (position d n i + k) * TI end c + cond (eqb k 0) (p - TI (i - 1) c) 0) positive)

    pub closed_reduced : (T TI : Entries) → ((i j : ℕ) → T i j < p) → ((i j : ℕ) → TI i j < p)
        → Reduced p (closed_P n f TI) × Reduced p (closed_PI p n f T) × Reduced p (closed_Q p n f T) × Reduced p (closed_QI p n f TI)
    unfolding closed_P closed_PI closed_Q closed_QI
    closed_reduced T TI a b = (
      (λ r c k. P_row_below TI b (from d n r) c k),
      (λ r c k. PI_column_below T a r (from d n c) k),
      (λ r c k. Q_column_below T r (from d n c) k),
      (λ r c k. QI_row_below TI b (from d n r) c k),
    )
