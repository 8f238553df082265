-- A window that is a multiple of E: it is as many blocks of one row as it has rows, and nothing is left to do.
use Rattle.std.specs.Prelude.{◌≡◌, refl, ◌≢◌, ℕ, zero, suc, ◌≤◌, ◌<◌, get_or, set}
use Rattle.std.proofs.Math.Path.{sym, ap, ap₂, subst}
use Rattle.std.proofs.Common.{◌∙◌, arith, get_or-set_same, get_or-set_other}
use mathlib.Core.List.{List, [], ◌∷◌}
use Rattle.std.proofs.Math.Decide.{dec_lt, ℕ_discrete}
use Rattle.std.proofs.lemmas.List.{length-replicate}
use Rattle.forms.specs.Numbers.{order_limit}
use Rattle.algebra.specs.Ring.{Ring, zero_plus, times_one, times_zero, minus_minus}
use Rattle.algebra.specs.Sum.{sum_nil, sum_suc, delta, delta_same, delta_other}
use Rattle.algebra.specs.Matrix.{Matrix, Vector}
use Rattle.algebra.specs.Modular.{residue, modulo}
use Rattle.matrices.specs.Matrices.{cell, matrix, matrix_inside, zero_row, zero_row_at}
use Rattle.basis.specs.Frame.{Frame}
use Rattle.basis.specs.State.{Array, zero_entry}
use Rattle.splitting.specs.Shapes.{CompanionColumns}
use Rattle.splitting.specs.Killing.{monic_of_low, monic_of_monic, corner, Kills, kills_by_powers, kills_in_frame, kills_out_of_frame, corner_divides, unit_upto, power_none, power_one}
use Rattle.elimination.specs.Form.{Block, CompanionAt, Dividing, Form, Top, Stage}

module _ {R : Type 0} (K : Ring R) where
  open K use {plus as ◌⊕◌, times as ◌⊗◌, minus as ⊖◌, zero as 𝟘}

  infixl 60 ◌⊕◌
  infixl 70 ◌⊗◌
  infix 80 ⊖◌
  -- B is a multiple of E on [0,k)
  pub record Scalar (k : ℕ) (B : Matrix K) : Type 0 where
    pub diagonal : (i : ℕ) → i < k → B i i ≡ B 0 0
    pub others : (i j : ℕ) → i < k → j < k → i ≢ j → B i j ≡ 𝟘

  -- the last row and column of the window are a block
  module _ (n k : ℕ) (A : Matrix K) (X : Frame K) (kn : suc k ≤ n) (x : Stage K n (suc k) A X) (s : Scalar (suc k) X.B) where
    apart : (i q : ℕ) → q < suc k → i ≢ q → X.B i q ≡ 𝟘
    apart i q l o = elim (dec_lt i (suc k)) [ yes a ↦ s.others i q a l o | no a ↦ x.window.down i q (omega arith) l ]

    columns : CompanionColumns K 1 X.B
    columns = record { unit = λ i t l. absurd (omega arith); low = λ i t a b. apart i t (omega arith) (omega arith) }

    scaled : (q : ℕ) → q < suc k → (i : ℕ) → X.B i q ≡ X.B 0 0 ⊗ delta K q i
    scaled q l i = elim (ℕ_discrete i q) [
      | yes e ↦ rw e (s.diagonal q l ∙ sym (ap (λ y. X.B 0 0 ⊗ y) (delta_same K q) ∙ times_one K _))
      | no o ↦ apart i q l o ∙ sym (ap (λ y. X.B 0 0 ⊗ y) (delta_other K q i (λ e. o (sym e))) ∙ times_zero K _)
    ]

    kills : (q : ℕ) → q < suc k → Kills K n X.B (corner K 1 X.B) (delta K q)
    kills q l = kills_by_powers K n 1 X.B (λ i. X.B i 0) (delta K q) x.basis.within (unit_upto K n X.B q (omega arith)) (λ i.
        ap (λ (w : Vector K). w i) (power_one K n X.B q (omega arith)) ∙ scaled q l i
        ∙ sym (sum_suc K _ 0 ∙ ap₂ ◌⊕◌ (sum_nil K _) refl ∙ zero_plus K _ ∙ ap (λ (w : Vector K). X.B 0 0 ⊗ w i) (power_none K n X.B q (omega arith))))

    block : Block K
    block = record { degree = 1; polynomial = corner K 1 X.B }

    companion : CompanionAt K X.B k block
    unfolding block
    companion = record {
      some = omega arith;
      monic = monic_of_monic K 1 _;
      unit = λ i t a b. absurd (omega arith);
      last = λ i l. ap₂ X.B (omega arith) (omega arith) ∙ s.diagonal k (omega arith) ∙ sym (ap ⊖◌ (monic_of_low K 1 _ i l) ∙ minus_minus K _ ∙ ap (λ (y : ℕ). X.B y 0) (omega arith));
      above = λ i t a b c. apart i t (omega arith) (omega arith);
      under = λ i t a b c. apart i t (omega arith) (omega arith);
    }

    dividing : (bs : List (Block K)) → Top K n A X.T (suc k) bs → Dividing K block bs
    unfolding block
    dividing [] h = tt
    dividing (b ∷ bs) h = corner_divides K n 1 X.B (omega arith) (omega arith) x.basis.within columns b.polynomial (kills_out_of_frame K n A X b.polynomial 0 (omega arith) x.basis (h 0 (omega arith)))

    last_block : Stage K n k A X
    unfolding block
    last_block = record {
      basis = x.basis;
      window = record {
        right = λ i t a b. elim (ℕ_discrete t k) [ yes e ↦ apart i t (omega arith) (omega arith) | no o ↦ x.window.right i t (omega arith) (omega arith) ];
        down = λ i t a b. apart i t (omega arith) (omega arith);
      };
      blocks = block ∷ x.blocks;
      form = (companion, (dividing x.blocks x.top, subst (λ (o : ℕ). Form K n X.B o x.blocks) (omega arith) x.form));
      top = λ q l. kills_in_frame K n A X (corner K 1 X.B) q (omega arith) x.basis (kills q (omega arith));
    }

  pub all_blocks : (n k : ℕ) (A : Matrix K) (X : Frame K) → k ≤ n → Stage K n k A X → Scalar k X.B → Stage K n 0 A X
  all_blocks n zero A X kn x s = x
  all_blocks n (suc k) A X kn x s = all_blocks n k A X (omega arith) (last_block n k A X kn x s) (record { diagonal = λ i l. s.diagonal i (omega arith); others = λ i j l g. s.others i j (omega arith) (omega arith) })

-- row i of the window [0,k) is that of a multiple of E
abbrev pub ScalarRow : (k : ℕ) → Array → ℕ → Type 0
ScalarRow k b i = (j : ℕ) → j < k → cell b i j ≡ get_or (set zero_row i (cell b 0 0)) j 0

-- the rows of the window [0,k) are those of a multiple of E
pub record ScalarWindow (k : ℕ) (b : Array) : Type 0 where
  pub rows : (i : ℕ) → i < k → ScalarRow k b i

pub scalar_window : (p n k : ℕ) (b : Array) → n ≤ order_limit → k ≤ n → ScalarWindow k b → Scalar (modulo p) k (matrix p n b)
scalar_window p n k b o kn s = record {
  diagonal = λ i l. matrix_inside p n b i i (omega arith) (omega arith) ∙ ap (residue p) (s.rows i l i l ∙ get_or-set_same zero_row i (cell b 0 0) 0 (omega (arith, length-replicate {A = ℕ} order_limit 0)))
      ∙ sym (matrix_inside p n b 0 0 (omega arith) (omega arith));
  others = λ i j l g c. zero_entry p n b i j (omega arith) (omega arith) (s.rows i l j g ∙ get_or-set_other zero_row i j (cell b 0 0) 0 (λ e. c (sym e)) ∙ zero_row_at j);
}
