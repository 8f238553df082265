-- Which coefficients of an entry of P, Q and their inverses can be other than zero, and what each of them is.
use Rattle.std.proofs.Math.Path.{◌≡◌, refl, sym, ap, ap₂, fun_ext}
use Rattle.std.proofs.Common.{◌∙◌, add-zero, zero-add, zero-mul, mul-one, one-mul, mod-eq_of_lt}
use Rattle.std.specs.Prelude.{Bool, cond, eqb}
use Rattle.std.proofs.Math.Bool.{true, false}
use Prim.Native.Nat.{ℕ, suc, ◌+◌, ◌*◌, ◌-◌, ◌%◌, ◌≤◌, ◌<◌}
use Rattle.std.proofs.Math.Nat.{mul-zero, zero-mod}
use native.Mathlib.Omega.{arith}
use borrow.Author.Tests.{le-leb, lt-leb, eq-eqb, ne_eqb}
use Rattle.forms.specs.Numbers.{total}
use Rattle.forms.specs.Tests.{total_suc, total_equal, total_of_zeros, total_short}
use Rattle.forms.specs.ClosedForms.{opposite}
use Rattle.matrices.specs.Matrices.{cell}
use Rattle.basis.specs.State.{Array}
use Rattle.heads.specs.Heads.{begins}
use Rattle.entries.specs.Coefficients.{block_coefficient, P_coefficient, PI_coefficient, head_sum, Q_coefficient, QI_coefficient}

-- the polynomial of a block
module _ (p : ℕ) (F : Array) (end : ℕ) where
  pub low_coefficient : (j : ℕ) → j ≤ end → block_coefficient p F end j ≡ opposite p (cell F j end)
  unfolding block_coefficient
  low_coefficient j l = simp (le-leb j end l)

  pub leading_coefficient : (j : ℕ) → j ≡ end + 1 → block_coefficient p F end j ≡ 1
  unfolding block_coefficient
  leading_coefficient j e = simp (lt-leb j end (omega arith), eq-eqb j (end + 1) e)

  pub no_coefficient : (j : ℕ) → end + 1 < j → block_coefficient p F end j ≡ 0
  unfolding block_coefficient
  no_coefficient j l = simp (lt-leb j end (omega arith), ne_eqb j (end + 1) (λ e. omega arith))

-- P
module _ (TI : Array) (end i c : ℕ) where
  pub P_inside : (row : ℕ) → i ≤ row → row ≤ end → cell TI row c ≡ P_coefficient TI end i c (row - i)
  unfolding P_coefficient
  P_inside row h l = let e : i + (row - i) ≡ row = omega arith in simp (e, le-leb row end l)

  pub P_short : (k : ℕ) → end < i + k → P_coefficient TI end i c k ≡ 0
  unfolding P_coefficient
  P_short k l = simp (lt-leb (i + k) end l)

-- the inverse of P
module _ (p : ℕ) (F T : Array) (r i : ℕ) where
  pub PI_first : cell T r i ≡ PI_coefficient p F T r i 0
  unfolding PI_coefficient
  PI_first = refl

  pub PI_second : begins F i ≡ false → opposite p (cell T r (i - 1)) ≡ PI_coefficient p F T r i 1
  unfolding PI_coefficient
  PI_second e = simp e

  pub PI_head_short : begins F i ≡ true → (k : ℕ) → 1 ≤ k → PI_coefficient p F T r i k ≡ 0
  unfolding PI_coefficient
  PI_head_short e k l = simp (e, ne_eqb k 0 (λ q. omega arith)) (test (eqb k 1))
    where
      test : (b : Bool) → ◌≡◌ {A = ℕ} (cond b 0 0) 0
      test true = refl
      test false = refl

  pub PI_short : (k : ℕ) → 2 ≤ k → PI_coefficient p F T r i k ≡ 0
  unfolding PI_coefficient
  PI_short k l = simp (ne_eqb k 0 (λ q. omega arith), ne_eqb k 1 (λ q. omega arith))

-- Q, in the column of a row that begins a block
module _ (p : ℕ) (F T : Array) (end r i k : ℕ) where
  term : ℕ → ℕ
  term s = cell T r (i + s) * block_coefficient p F end (i + s + 1 + k)

  term_none : (s : ℕ) → end < i + s + k → term s ≡ 0
  unfolding term
  term_none s l = ap (λ (x : ℕ). cell T r (i + s) * x) (no_coefficient p F end (i + s + 1 + k) (omega arith)) ∙ mul-zero _

  pub head_sum_short : end < i + k → head_sum p F T end r i k ≡ 0
  unfolding head_sum term
  head_sum_short l = ap (λ (x : ℕ). x % p) (total_of_zeros (end + 1 - i) term (λ s h. term_none s (omega arith))) ∙ zero-mod p

  -- the leading 1 first
  pub head_sum_is : i + k ≤ end → (cell T r (end - k) + total (end - i - k) (λ s. cell T r (i + s) * opposite p (cell F (i + s + 1 + k) end))) % p ≡ head_sum p F T end r i k
  unfolding head_sum term
  head_sum_is l = sym (ap (λ (x : ℕ). x % p) (
      ap (λ (z : ℕ). total z term) count ∙ total_short (suc (end - i - k)) term (λ s h. term_none s (omega arith)) k
      ∙ total_suc (end - i - k) term ∙ ap₂ ◌+◌ (total_equal (end - i - k) _ _ (λ s h. ap (λ (x : ℕ). cell T r (i + s) * x) (low_coefficient p F end (i + s + 1 + k) (omega arith)))) leading
      ∙ omega arith))
    where
      count : end + 1 - i ≡ suc (end - i - k) + k
      count = omega arith

      leading : term (end - i - k) ≡ cell T r (end - k)
      leading = ap₂ (λ (x y : ℕ). cell T r x * y) (omega arith) (leading_coefficient p F end (i + (end - i - k) + 1 + k) (omega arith)) ∙ mul-one _

-- Q
module _ (p : ℕ) (F T : Array) (end r i : ℕ) where
  pub Q_head : begins F i ≡ true → head_sum p F T end r i ≡ Q_coefficient p F T end r i
  unfolding Q_coefficient
  Q_head e = fun_ext (λ k. simp e)

  pub Q_first : begins F i ≡ false → opposite p (cell T r (i - 1)) ≡ Q_coefficient p F T end r i 0
  unfolding Q_coefficient
  Q_first e = simp e

  pub Q_short : begins F i ≡ false → (k : ℕ) → 1 ≤ k → Q_coefficient p F T end r i k ≡ 0
  unfolding Q_coefficient
  Q_short e k l = simp (e, ne_eqb k 0 (λ q. omega arith))

-- the inverse of Q; what is added to its constant term is added to no other
pub only_first : (k x : ℕ) → 1 ≤ k → 0 ≡ cond (eqb k 0) x 0
only_first k x l = sym (simp (ne_eqb k 0 (λ q. omega arith)))

module _ (p : ℕ) (F TI : Array) (end i c : ℕ) where
  pub QI_head_first : begins F i ≡ true → cell TI end c ≡ QI_coefficient p F TI end i c 0
  unfolding QI_coefficient
  QI_head_first e = simp e

  pub QI_head_short : begins F i ≡ true → (k : ℕ) → 1 ≤ k → QI_coefficient p F TI end i c k ≡ 0
  unfolding QI_coefficient
  QI_head_short e k l = simp (e, ne_eqb k 0 (λ q. omega arith))

  module _ (e : begins F i ≡ false) where
    first : (p - cell TI (i - 1) c + block_coefficient p F end i * cell TI end c) % p ≡ QI_coefficient p F TI end i c 0
    unfolding QI_coefficient
    first = simp (e, add-zero)

    later : (k : ℕ) → 1 ≤ k → (block_coefficient p F end (i + k) * cell TI end c) % p ≡ QI_coefficient p F TI end i c k
    unfolding QI_coefficient
    later k l = simp (e, ne_eqb k 0 (λ q. omega arith), zero-add)

    pub QI_inside : (row : ℕ) → i ≤ row → row ≤ end → (cond (eqb (row - i) 0) (p - cell TI (i - 1) c) 0 + opposite p (cell F row end) * cell TI end c) % p ≡ QI_coefficient p F TI end i c (row - i)
    unfolding QI_coefficient
    QI_inside row h l = let q : i + (row - i) ≡ row = omega arith in simp (e, q, low_coefficient p F end row l)

    module _ (k : ℕ) (l : 1 ≤ k) where
      pub QI_leading : i + k ≡ end + 1 → cell TI end c < p → cell TI end c ≡ QI_coefficient p F TI end i c k
      QI_leading h q = sym (sym (later k l) ∙ ap (λ (x : ℕ). (x * cell TI end c) % p) (leading_coefficient p F end (i + k) h) ∙ ap (λ (x : ℕ). x % p) (one-mul _) ∙ mod-eq_of_lt q)

      pub QI_short : end + 1 < i + k → QI_coefficient p F TI end i c k ≡ 0
      QI_short h = sym (later k l) ∙ ap (λ (x : ℕ). (x * cell TI end c) % p) (no_coefficient p F end (i + k) h) ∙ ap (λ (x : ℕ). x % p) (zero-mul _) ∙ zero-mod p

    -- where the last row of the block has a zero
    module _ (z : cell TI end c ≡ 0) where
      pub QI_zero_first : opposite p (cell TI (i - 1) c) ≡ QI_coefficient p F TI end i c 0
      QI_zero_first = sym (sym first ∙ ap (λ (x : ℕ). (p - cell TI (i - 1) c + x) % p) (ap (λ (x : ℕ). block_coefficient p F end i * x) z ∙ mul-zero _) ∙ ap (λ (x : ℕ). x % p) (add-zero _))

      pub QI_zero_short : (k : ℕ) → 1 ≤ k → QI_coefficient p F TI end i c k ≡ 0
      QI_zero_short k l = sym (later k l) ∙ ap (λ (x : ℕ). x % p) (ap (λ (x : ℕ). block_coefficient p F end (i + k) * x) z ∙ mul-zero _) ∙ zero-mod p
