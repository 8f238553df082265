-- The coefficients that the code computes are those of D and of the closed forms for P, Q and their inverses.
use Rattle.std.specs.Prelude.{◌≡◌, Bool, List, eqb, leb}
use Rattle.std.proofs.Math.Path.{refl, ap, ap₂}
use Rattle.std.proofs.Common.{sym, ◌∙◌, eqb→eq}
use Rattle.std.proofs.Math.Bool.{true, false, cond}
use Prim.Native.Nat.{ℕ, suc, ◌+◌, ◌*◌, ◌-◌, ◌%◌, ◌<◌}
use Rattle.std.proofs.Math.Nat.{add_comm}
use Rattle.std.proofs.Math.Decide.{ℕ_discrete}
use native.Mathlib.Omega.{arith}
use Rattle.std.proofs.Math.Dec.{T, leb→le}
use Rattle.forms.specs.Numbers.{at, total}
use Rattle.forms.specs.Tests.{total_suc, total_equal, equal_holds, cond_holds, cond_fails}
use Rattle.forms.specs.Polynomials.{Coefficients}
use Rattle.forms.specs.Matrices.{Entries}
use Rattle.forms.specs.BlockIndices.{degrees, start, block, last, position, is_head, head_start, head_of, head_position, head_row, last_below, suc_last}
use Rattle.forms.specs.BlockPermutation.{to, from, to_head, to_other_below, one_degree, to_permutes}
use Rattle.forms.specs.ClosedForms.{opposite, P_row, PI_column, Q_column, QI_row, closed_P, closed_PI, closed_Q, closed_QI}
use Rattle.matrices.specs.Matrices.{cell}
use Rattle.basis.specs.State.{Array}
use Rattle.basis.specs.declared.steps.State.{State}
use Rattle.heads.specs.Heads.{begins, LastRows, Ordered}
use Rattle.entries.specs.declared.closed.Factor.TheVariants.{P, PInverse, Q, QInverse}
use Rattle.entries.specs.Coefficients.{block_coefficient, D_coefficient, D_entry, P_coefficient, PI_coefficient, head_sum, Q_coefficient, QI_coefficient, closed_coefficient, closed_entry}
use Rattle.payloads.specs.Diagonals.{DiagonalOf}
use Rattle.payloads.specs.Blocks.{begins_is, last_is, coefficient_is, from_is}

-- A holds the entries of m of order n
abbrev pub Holds : ℕ → Array → Entries → Type 0
Holds n m A = (i j : ℕ) → i < n → j < n → cell m i j ≡ A i j

cond_same : (b : Bool) (x y z : ℕ) → (T b → x ≡ y) → cond b x z ≡ cond b y z
cond_same true x y z h = h tt
cond_same false x y z h = refl

module _ (p n : ℕ) (F : Array) (f : ℕ → Coefficients) (D : DiagonalOf p n F f) where
  abbrev d : ℕ → ℕ
  d = degrees n f

  sums : start d n ≡ n
  sums = D.smith.sums

  low : 0 < n
  low = D.smith.low

  P_row_is : (m : Array) (A : Entries) → Holds n m A → (i c k : ℕ) → i < n → c < n → P_coefficient m (last d n i) i c k ≡ P_row n f A i c k
  unfolding P_coefficient P_row
  P_row_is m A same i c k l g = cond_same (leb (i + k) (last d n i)) (cell m (i + k) c) (A (i + k) c) 0
      (λ t. let h = leb→le (i + k) (last d n i) t in let q = last_below d n sums i low in same (i + k) c (omega arith) g)

  PI_column_is : (m : Array) (A : Entries) → Holds n m A → (r i k : ℕ) → r < n → i < n → PI_coefficient p F m r i k ≡ PI_column p n f A r i k
  unfolding PI_coefficient PI_column
  PI_column_is m A same r i k g l = rw (begins_is p n F f D i l, same r i g l, same r (i - 1) g (omega arith))

  head_sum_is : (m : Array) (A : Entries) → Holds n m A → (r i k : ℕ) → r < n → i < n → is_head d n i ≡ true
      → head_sum p F m (last d n i) r i k ≡ total (d (block d n i)) (λ s. A r (i + s) * f (block d n i) (suc s + k)) % p
  unfolding head_sum
  head_sum_is m A same r i k g l e =
      let h = head_of d n sums i l e in let s = head_start d n sums i in let t = total_suc (block d n i) d in let u = suc_last d n sums i l in let q = head_position d n sums i l in
      ap (λ (x : ℕ). x % p) (ap (λ (z : ℕ). total z (λ s. cell m r (i + s) * block_coefficient p F (last d n i) (i + s + 1 + k))) (omega arith)
      ∙ total_equal (d (block d n i)) _ _ (λ s b. ap₂ ◌*◌ (same r (i + s) g (head_row d n sums i s l h b).0)
      (ap (block_coefficient p F (last d n i)) (further s) ∙ coefficient_is p n F f D i (suc s + k) l ∙ ap (f (block d n i)) (omega arith))))
    where
      further : (s : ℕ) → i + s + 1 + k ≡ i + (suc s + k)
      further s = omega arith

  Q_column_is : (m : Array) (A : Entries) → Holds n m A → (r i k : ℕ) → r < n → i < n → Q_coefficient p F m (last d n i) r i k ≡ Q_column p n f A r i k
  unfolding Q_coefficient Q_column
  Q_column_is m A same r i k g l = ap₂ (λ (b : Bool) (x : ℕ). cond b (head_sum p F m (last d n i) r i k) (cond (eqb k 0) (opposite p x) 0)) (begins_is p n F f D i l) (same r (i - 1) g (omega arith)) ∙ test (is_head d n i) refl
    where
      test : (b : Bool) → is_head d n i ≡ b → cond b (head_sum p F m (last d n i) r i k) (cond (eqb k 0) (opposite p (A r (i - 1))) 0)
          ≡ cond b (total (d (block d n i)) (λ s. A r (i + s) * f (block d n i) (suc s + k)) % p) (cond (eqb k 0) (opposite p (A r (i - 1))) 0)
      test true e = head_sum_is m A same r i k g l e
      test false e = refl

  QI_row_is : (m : Array) (A : Entries) → Holds n m A → (i c k : ℕ) → i < n → c < n → QI_coefficient p F m (last d n i) i c k ≡ QI_row p n f A i c k
  unfolding QI_coefficient QI_row
  QI_row_is m A same i c k l g =
      rw (
        begins_is p n F f D i l,
        same (last d n i) c (last_below d n sums i low) g,
        same (i - 1) c (omega arith) g,
        coefficient_is p n F f D i k l,
        add_comm (cond (eqb k 0) (p - A (i - 1) c) 0) (f (block d n i) (position d n i + k) * A (last d n i) c),
      )

  module _ (rows ends : List ℕ) (ordered : Ordered F n n rows) (ending : LastRows F n 0 ends) where
    row : (b : ℕ) → b < n → at rows b ≡ from d n b
    row = from_is p n F f D rows ordered

    row_below : (b : ℕ) → b < n → from d n b < n
    row_below = (to_permutes d n sums low D.smith.rising).back_below

    end : (b : ℕ) → b < n → at ends (at rows b) ≡ last d n (from d n b)
    end b l = ap (at ends) (row b l) ∙ last_is p n F f D (from d n b) _ (ending.row (from d n b) (omega arith) (row_below b l))

    pub D_is : (b k : ℕ) → b < n → D_entry p F rows ends b k ≡ f b k
    unfolding D_entry D_coefficient
    D_is b k l =
        ap₂ (λ (i e : ℕ). cond (begins F i) (block_coefficient p F e (i + k)) (cond (eqb k 0) 1 0)) (row b l) (end b l)
        ∙ ap (λ (t : Bool). cond t (block_coefficient p F (last d n (from d n b)) (from d n b + k)) (cond (eqb k 0) 1 0)) (begins_is p n F f D (from d n b) (row_below b l))
        ∙ test (is_head d n (from d n b)) refl
      where
        back : to d n (from d n b) ≡ b
        back = (to_permutes d n sums low D.smith.rising).forth b l

        constant : (k : ℕ) → d b ≡ 0 → cond (eqb k 0) 1 0 ≡ f b k
        constant k e = elim (ℕ_discrete k 0) [
          | yes q ↦ cond_holds (eqb k 0) 1 0 (equal_holds k 0 q) ∙ sym (ap (f b) (q ∙ sym e) ∙ D.smith.monic b l)
          | no q ↦ cond_fails (eqb k 0) 1 0 (λ t. q (eqb→eq k 0 t)) ∙ sym (D.smith.above b k (omega arith))
        ]

        test : (t : Bool) → is_head d n (from d n b) ≡ t → cond t (block_coefficient p F (last d n (from d n b)) (from d n b + k)) (cond (eqb k 0) 1 0) ≡ f b k
        test true e =
            let h = head_of d n sums (from d n b) (row_below b l) e in let q = head_position d n sums (from d n b) (row_below b l) in
            coefficient_is p n F f D (from d n b) k (row_below b l) ∙ ap₂ f (sym (to_head d n sums low D.smith.rising (from d n b) e) ∙ back) (omega arith)
        test false e =
            let h = to_other_below d n sums low D.smith.rising (from d n b) (row_below b l) e in let q = back in
            constant k (one_degree d n sums low D.smith.rising b (omega arith))

-- the state of the elimination, with the entries of T and of its inverse
module _ (p n : ℕ) (s : State) (f : ℕ → Coefficients) (D : DiagonalOf p n s.b f) (rows ends : List ℕ) (ordered : Ordered s.b n n rows) (ending : LastRows s.b n 0 ends)
    (T TI : Entries) (T_holds : Holds n s.t T) (TI_holds : Holds n s.back TI) (r c k : ℕ) (l : r < n) (g : c < n) where
  row_is : (b : ℕ) → b < n → at rows b ≡ from (degrees n f) n b
  row_is = row p n s.b f D rows ends ordered ending

  end_is : (b : ℕ) → b < n → at ends (at rows b) ≡ last (degrees n f) n (from (degrees n f) n b)
  end_is = end p n s.b f D rows ends ordered ending

  below : (b : ℕ) → b < n → from (degrees n f) n b < n
  below = row_below p n s.b f D rows ends ordered ending

  pub PL_is : closed_entry p s rows ends P r c k ≡ closed_P n f TI r c k
  unfolding closed_entry closed_coefficient closed_P
  PL_is = rw (end_is r l, row_is r l) (P_row_is p n s.b f D s.back TI TI_holds _ c k (below r l) g)

  pub PI_is : closed_entry p s rows ends PInverse r c k ≡ closed_PI p n f T r c k
  unfolding closed_entry closed_coefficient closed_PI
  PI_is = rw (row_is c g) (PI_column_is p n s.b f D s.t T T_holds r _ k l (below c g))

  pub QR_is : closed_entry p s rows ends Q r c k ≡ closed_Q p n f T r c k
  unfolding closed_entry closed_coefficient closed_Q
  QR_is = rw (end_is c g, row_is c g) (Q_column_is p n s.b f D s.t T T_holds r _ k l (below c g))

  pub QI_is : closed_entry p s rows ends QInverse r c k ≡ closed_QI p n f TI r c k
  unfolding closed_entry closed_coefficient closed_QI
  QI_is = rw (end_is r l, row_is r l) (QI_row_is p n s.b f D s.back TI TI_holds _ c k (below r l) g)
