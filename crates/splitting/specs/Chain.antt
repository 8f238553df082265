-- One step of a pass at column j: a pivot of column j is brought to row j + 1 by an exchange, and then column j takes the place of e_(j+1).
use Rattle.std.specs.Prelude.{◌≡◌, refl, ◌≢◌, ℕ, zero, suc, ◌≤◌, ◌<◌}
use Rattle.std.proofs.Common.{sym, ◌∙◌, ap, subst, arith}
use Rattle.std.proofs.Math.Path.{ap₂}
use Rattle.std.proofs.Math.Decide.{dec_lt, ℕ_discrete}
use Rattle.algebra.specs.Ring.{Ring, times_zero, zero_times, times_one}
use Rattle.algebra.specs.Solver.{◌:+◌, ◌:*◌, :-◌, :1, solve₃, solve₄}
use Rattle.algebra.specs.Sum.{delta, delta_same, delta_other}
use Rattle.algebra.specs.Matrix.{Vector, Upto}
use Rattle.basis.specs.Entries.{apply_single}
use Rattle.basis.specs.Frame.{Frame, FrameWithin}
use Rattle.ordering.specs.Exchange.{exchange, exchange_first, exchange_other, exchange_cases}
use Rattle.ordering.specs.Reordering.{Reordered}
use Rattle.basis.specs.Shear.{taken}
use Rattle.basis.specs.Replace.{added, Replaced, pivot_unit, replaced_other, replaced_row, replaced_column, replaced_row_same, replaced_T}
use Rattle.splitting.specs.Shapes.{UnitColumns, CompanionRows, Ahead, Kept}

module _ {R : Type 0} (K : Ring R) where
  open K use {plus as ◌⊕◌, times as ◌⊗◌, minus as ⊖◌, zero as 𝟘, one as 𝟙}

  infixl 60 ◌⊕◌
  infixl 70 ◌⊗◌
  infix 80 ⊖◌
  -- e_(j+1) is replaced by w, column j
  module _ (n j : ℕ) (w : Vector K) (X Y : Frame K) (l : suc j < n) (o : Upto K n w) (x : FrameWithin K n X)
      (is : (i : ℕ) → w i ≡ X.B i j) (m : Replaced K n (suc j) w X Y) where
    becomes_unit : (w e d a : R) → a ⊗ d ≡ 𝟙 → w ⊕ ⊖ ((w ⊕ ⊖ e) ⊗ d) ⊗ a ≡ e
    becomes_unit w e d a h =
        solve₄ K (λ w e d a. w :+ :- ((w :+ :- e) :* d) :* a) (λ w e d a. w :+ :- ((a :* d) :* (w :+ :- e))) refl w e d a
        ∙ ap (λ x. w ⊕ ⊖ (x ⊗ (w ⊕ ⊖ e))) h ∙ solve₃ K (λ w e x. w :+ :- (:1 :* (w :+ :- e))) (λ w e x. e) refl w e 𝟘

    column_j : (i : ℕ) → Y.B i j ≡ delta K (suc j) i
    unfolding added
    column_j i = replaced_other K n (suc j) w X Y l o x m i j (λ q. omega arith) ∙ ap₂ (λ y z. y ⊕ taken K (added K (suc j) w) m.by i ⊗ z) (sym (is i)) (sym (is (suc j)))
        ∙ becomes_unit (w i) (delta K (suc j) i) m.by (w (suc j)) (pivot_unit K n (suc j) w X Y l o x m)

    pub push_columns : UnitColumns K j X.B → UnitColumns K (suc j) Y.B
    push_columns c i t g = elim (ℕ_discrete j t) [
      | yes e ↦ subst (λ (y : ℕ). Y.B i y ≡ delta K (suc y) i) e (column_j i)
      | no e ↦ replaced_column K n (suc j) w X Y l o x m i t (c (suc j) t (omega arith) ∙ delta_other K (suc t) (suc j) (omega arith)) (λ q. omega arith) ∙ c i t (omega arith)
    ]

    module _ (h : ℕ) (e : Ahead K h j X.B) where
      -- column j has nothing in rows j+2 .. h
      nothing : (q : ℕ) → suc j < q → q ≤ h → w q ≡ 𝟘
      nothing zero a b = absurd (omega arith)
      nothing (suc q) a b = is (suc q) ∙ e.before_it q j (omega arith) (omega arith) (omega arith)

      same : (t : ℕ) → suc j ≤ t → t < h → w (suc t) ≡ delta K (suc j) (suc t)
      same t a b = nothing (suc t) (omega arith) (omega arith) ∙ sym (delta_other K (suc j) (suc t) (λ q. omega arith))

      term : (t q : ℕ) → suc j ≤ t → t < h → suc j ≢ q → X.B (suc t) q ⊗ w q ≡ 𝟘
      term t q a b g = elim (dec_lt q t) [
        | yes y ↦ ap (λ z. z ⊗ w q) (e.before_it t q (omega arith) b y) ∙ zero_times K _
        | no y ↦ elim (dec_lt h q) [
          | yes v ↦ ap (λ z. z ⊗ w q) (e.after t q (omega arith) b v) ∙ zero_times K _
          | no v ↦ ap (λ z. X.B (suc t) q ⊗ z) (nothing q (omega arith) (omega arith)) ∙ times_zero K _
        ]
      ]

      in_column : (t : ℕ) → suc j ≤ t → t < h → Y.B (suc t) (suc j) ≡ X.B (suc t) (suc j) ⊗ w (suc j)
      in_column t a b = replaced_row_same K n (suc j) w X Y l o x m (suc t) (same t a b) ∙ apply_single K n (suc j) X.B w (suc t) l (λ q g v. term t q a b v)

      elsewhere : (t c : ℕ) → suc j ≤ t → t < h → suc j ≢ c → Y.B (suc t) c ≡ X.B (suc t) c
      elsewhere t c a b q = replaced_row K n (suc j) w X Y l o x m (suc t) c (same t a b) q

      cancel_pivot : (a : R) → a ⊗ w (suc j) ≡ 𝟘 → a ≡ 𝟘
      cancel_pivot a g = sym (times_one K a) ∙ ap (λ z. a ⊗ z) (sym (pivot_unit K n (suc j) w X Y l o x m)) ∙ solve₃ K (λ a d w. a :* (w :* d)) (λ a d w. d :* (a :* w)) refl a m.by (w (suc j)) ∙ ap (λ z. m.by ⊗ z) g ∙ times_zero K _

      pivot_at : (t : ℕ) → suc j ≤ t → t < h → Dec (suc j ≡ t) → Y.B (suc t) t ≢ 𝟘
      pivot_at t a b (yes q) g = e.pivot t (omega arith) b (cancel_pivot (X.B (suc t) t) (sym (subst (λ (y : ℕ). Y.B (suc t) y ≡ X.B (suc t) y ⊗ w (suc j)) q (in_column t a b)) ∙ g))
      pivot_at t a b (no q) g = e.pivot t (omega arith) b (sym (elsewhere t t a b q) ∙ g)

      before_at : (t c : ℕ) → suc j ≤ t → t < h → c < t → Dec (suc j ≡ c) → Y.B (suc t) c ≡ 𝟘
      before_at t c a b g (yes q) = subst (λ (y : ℕ). Y.B (suc t) y ≡ 𝟘) q (in_column t a b ∙ ap (λ z. z ⊗ w (suc j)) (e.before_it t (suc j) (omega arith) b (omega arith)) ∙ zero_times K _)
      before_at t c a b g (no q) = elsewhere t c a b q ∙ e.before_it t c (omega arith) b g

      pub push_ahead : Ahead K h (suc j) Y.B
      push_ahead = record {
        pivot = λ t a b. pivot_at t a b (ℕ_discrete (suc j) t);
        before_it = λ t c a b g. before_at t c (omega arith) b g (ℕ_discrete (suc j) c);
        after = λ t c a b g. elsewhere t c (omega arith) b (λ q. omega arith) ∙ e.after t c (omega arith) b g;
      }

    module _ (h : ℕ) (e : CompanionRows K h X.B) (g : suc j < h) where
      unit_inside : (i : ℕ) → i < h → w i ≡ delta K (suc j) i
      unit_inside i a = is i ∙ e.unit i j a g

      next_column : (i : ℕ) → i < h → Y.B i (suc j) ≡ X.B i (suc j)
      next_column i a = replaced_row_same K n (suc j) w X Y l o x m i (unit_inside i a)
          ∙ apply_single K n (suc j) X.B w i l (λ q y v. elim (dec_lt q h) [
            | yes u ↦ ap (λ z. X.B i q ⊗ z) (unit_inside q u ∙ delta_other K (suc j) q v) ∙ times_zero K _
            | no u ↦ ap (λ z. z ⊗ w q) (e.right i q a (omega arith)) ∙ zero_times K _
          ])
          ∙ ap (λ z. X.B i (suc j) ⊗ z) (unit_inside (suc j) g ∙ delta_same K (suc j)) ∙ times_one K _

      pub push_kept : Kept K h X Y
      push_kept = record {
        rows = λ i t a. elim (ℕ_discrete (suc j) t) [
          | yes q ↦ subst (λ (y : ℕ). Y.B i y ≡ X.B i y) q (next_column i a)
          | no q ↦ replaced_row K n (suc j) w X Y l o x m i t (unit_inside i a) q
        ];
        columns = λ r t a. replaced_T K n (suc j) w X Y l o x m r t (λ q. omega arith);
      }

  -- e_(j+1) and e_q, q beyond j + 1, are exchanged
  module _ (n j q : ℕ) (X Y : Frame K) (a : suc j < q) (l : q < n) (y : FrameWithin K n Y) (r : Reordered K n (exchange (suc j) q) X Y) where
    stays : (t : ℕ) → t ≤ j → exchange (suc j) q t ≡ t
    stays t g = exchange_other (suc j) q t (omega arith) (omega arith)

    unit_stays : (t : ℕ) → t < j → (i : ℕ) → delta K (suc t) (exchange (suc j) q i) ≡ delta K (suc t) i
    unit_stays t g = exchange_cases (λ i v. delta K (suc t) v ≡ delta K (suc t) i) (suc j) q
        (delta_other K (suc t) q (omega arith) ∙ sym (delta_other K (suc t) (suc j) (omega arith))) (delta_other K (suc t) (suc j) (omega arith) ∙ sym (delta_other K (suc t) q (omega arith))) (λ i u v. refl)

    pub pull_columns : UnitColumns K j X.B → UnitColumns K j Y.B
    pull_columns c i t g = elim (dec_lt i n) [
      | yes h ↦ r.B i t h (omega arith) ∙ ap (X.B (exchange (suc j) q i)) (stays t (omega arith)) ∙ c (exchange (suc j) q i) t g ∙ unit_stays t g i
      | no h ↦ y.B.rows i t (omega arith) ∙ sym (delta_other K (suc t) i (omega arith))
    ]

    -- the pivot is now at row j + 1
    pub pull_pivot : Y.B (suc j) j ≡ X.B q j
    pull_pivot = r.B (suc j) j (omega arith) (omega arith) ∙ ap₂ X.B (exchange_first (suc j) q) (stays j (omega arith))

    pub pull_first : FrameWithin K n X → (i c : ℕ) → c ≤ j → Y.T i c ≡ X.T i c
    pull_first x i c g = elim (dec_lt i n) [ yes h ↦ r.T i c h (omega arith) ∙ ap (X.T i) (stays c g) | no h ↦ y.T.rows i c (omega arith) ∙ sym (x.T.rows i c (omega arith)) ]
