-- Nothing is left behind the block, [C 0; 0 B']. A pass from e_0 + e_j makes a longer block, or the block's polynomial kills e_j.
use Rattle.std.specs.Prelude.{◌≡◌, refl, ◌≢◌, ℕ, suc, ◌-◌, ◌≤◌, ◌<◌}
use Rattle.std.proofs.Common.{sym, ◌∙◌, ap, ap₂, subst, arith}
use Rattle.std.proofs.Math.Decide.{dec_lt, ℕ_discrete}
use Rattle.algebra.specs.Ring.{Ring, plus_zero, times_one, times_zero, zero_times}
use Rattle.algebra.specs.Solver.{◌:+◌, ◌:*◌, :-◌, :1, solve₃}
use Rattle.algebra.specs.Sum.{sum_equal, sum_of_plus, sum_of_delta, delta, delta_same, delta_other}
use Rattle.algebra.specs.Matrix.{Matrix, Vector, Upto, apply_at}
use Rattle.basis.specs.Entries.{apply_single}
use Rattle.basis.specs.Frame.{Frame, FrameWithin, In, column, Window, Change, change_none, change_then}
use Rattle.basis.specs.Replace.{Replaced, replaced_change, replaced_row, replaced_row_same, replaced_T, replaced_T_same}
use Rattle.splitting.specs.Shapes.{CompanionRows, rows_equal, Kept}
use Rattle.splitting.specs.Killing.{monic_of_equal, corner, Kills, kills_in_frame, kills_difference, corner_kills}
use Rattle.splitting.specs.Pass.{Ready, ready_first, Chained}
use Rattle.splitting.specs.Settle.{Headed, chained_headed, Settled}

module _ {R : Type 0} (K : Ring R) where
  open K use {plus as ◌⊕◌, times as ◌⊗◌, minus as ⊖◌, zero as 𝟘, one as 𝟙}

  infixl 60 ◌⊕◌
  infixl 70 ◌⊗◌
  infix 80 ⊖◌
  -- e_0 is replaced by e_0 + e_j, where the first m rows are those of [C 0]: they stay
  module _ (n m j : ℕ) (w : Vector K) (X Y : Frame K) (some : 0 < m) (mj : m ≤ j) (jn : j < n) (o : Upto K n w) (x : FrameWithin K n X)
      (is : (i : ℕ) → w i ≡ delta K 0 i ⊕ delta K j i) (r : Replaced K n 0 w X Y) (e : CompanionRows K m X.B) where
    elsewhere : (q : ℕ) → 0 ≢ q → j ≢ q → w q ≡ 𝟘
    elsewhere q a b = is q ∙ ap₂ ◌⊕◌ (delta_other K 0 q a) (delta_other K j q b) ∙ plus_zero K 𝟘

    unit_inside : (i : ℕ) → i < m → w i ≡ delta K 0 i
    unit_inside i g = is i ∙ ap (λ z. delta K 0 i ⊕ z) (delta_other K j i (omega arith)) ∙ plus_zero K _

    first_column : (i : ℕ) → i < m → Y.B i 0 ≡ X.B i 0
    first_column i g = replaced_row_same K n 0 w X Y (omega arith) o x r i (unit_inside i g)
        ∙ apply_single K n 0 X.B w i (omega arith) (λ q y v. elim (ℕ_discrete j q) [
          | yes u ↦ ap (λ z. z ⊗ w q) (subst (λ (z : ℕ). X.B i z ≡ 𝟘) u (e.right i j g mj)) ∙ zero_times K _
          | no u ↦ ap (λ z. X.B i q ⊗ z) (elsewhere q v u) ∙ times_zero K _
        ])
        ∙ ap (λ z. X.B i 0 ⊗ z) (unit_inside 0 some ∙ delta_same K 0) ∙ times_one K _

    pub joined_rows : (i t : ℕ) → i < m → Y.B i t ≡ X.B i t
    joined_rows i t g = elim (ℕ_discrete 0 t) [
      | yes u ↦ subst (λ (z : ℕ). Y.B i z ≡ X.B i z) u (first_column i g)
      | no u ↦ replaced_row K n 0 w X Y (omega arith) o x r i t (unit_inside i g) u
    ]

    pub joined_T : (i : ℕ) → Y.T i 0 ≡ X.T i 0 ⊕ X.T i j
    joined_T i = replaced_T_same K n 0 w X Y (omega arith) o x r i ∙ apply_at K n X.T w i
        ∙ sum_equal K _ (λ q. delta K 0 q ⊗ X.T i q ⊕ delta K j q ⊗ X.T i q) n (λ q g. ap (λ z. X.T i q ⊗ z) (is q) ∙ solve₃ K (λ t a b. t :* (a :+ b)) (λ t a b. a :* t :+ b :* t) refl (X.T i q) (delta K 0 q) (delta K j q))
        ∙ sum_of_plus K _ _ n ∙ ap₂ ◌⊕◌ (sum_of_delta K 0 (X.T i) n (omega arith)) (sum_of_delta K j (X.T i) n jn)

  -- the block's polynomial kills the basis vectors m .. j - 1 and the block is as it was in length
  pub record Probing (n k m j : ℕ) (X Y : Frame K) : Type 0 where
    pub change : Change K n k X Y
    pub headed : Headed K k m Y
    pub flat : CompanionRows K m Y.B
    pub kills : (A : Matrix K) → In K n A X → (q : ℕ) → m ≤ q → q < j → Kills K n A (corner K m Y.B) (column K Y.T q)

  -- a block of h, no shorter than m; where it is no longer, it stands alone and its polynomial kills the window
  pub record Probed (n k m : ℕ) (X : Frame K) (h : ℕ) (Y : Frame K) : Type 0 where
    pub change : Change K n k X Y
    pub headed : Headed K k h Y
    pub grown : m ≤ h
    pub flat : h ≡ m → CompanionRows K m Y.B
    pub kills : h ≡ m → (A : Matrix K) → In K n A X → (q : ℕ) → q < k → Kills K n A (corner K m Y.B) (column K Y.T q)

  pub probe_start : (n k m : ℕ) (X : Frame K) → Headed K k m X → CompanionRows K m X.B → Probing n k m m X X
  probe_start n k m X x l = record { change = change_none K n k X; headed = x; flat = l; kills = λ A s q a b. absurd (omega arith) }

  pub probing_of_settled : (n k m : ℕ) (X Y : Frame K) → Settled K n k m X m Y → Probing n k m m X Y
  probing_of_settled n k m X Y s = record { change = s.change; headed = s.headed; flat = s.flat refl; kills = λ A s q a b. absurd (omega arith) }

  -- the block's polynomial kills the block's vectors
  own : (n k m : ℕ) (X : Frame K) → k ≤ n → Headed K k m X → (A : Matrix K) → In K n A X → (q : ℕ) → q < m → Kills K n A (corner K m X.B) (column K X.T q)
  own n k m X kn x A s q l = let fits : m ≤ n = omega (arith, x.fits) in
      kills_in_frame K n A X (corner K m X.B) q (omega arith) s (corner_kills K n m X.B x.some fits s.within x.columns q l)

  pub probe_end : (n k m : ℕ) (X Y : Frame K) → k ≤ n → Probing n k m k X Y → Probed n k m X m Y
  probe_end n k m X Y kn x = record {
    change = x.change;
    headed = x.headed;
    grown = omega arith;
    flat = λ e. x.flat;
    kills = λ e A s q l. elim (dec_lt q m) [ yes a ↦ own n k m Y kn x.headed A (x.change.basis A s) q a | no a ↦ x.kills A s q (omega arith) l ];
  }

  -- e_j .. e_(r-1) are killed as they stand
  pub probe_skip : (n k m j r : ℕ) (X Y : Frame K) → r ≤ n → Probing n k m j X Y → ((q : ℕ) → j ≤ q → q < r → Kills K n Y.B (corner K m Y.B) (delta K q)) → Probing n k m r X Y
  probe_skip n k m j r X Y rn x h = record {
    change = x.change;
    headed = x.headed;
    flat = x.flat;
    kills = λ A s q a l. elim (dec_lt q j) [ yes e ↦ x.kills A s q a e | no e ↦ kills_in_frame K n A Y (corner K m Y.B) q (omega arith) (x.change.basis A s) (h q (omega arith) l) ];
  }

  -- e_0 + e_j takes the place of e_0 in Y, which makes Z, and a pass from there makes W
  pub record Joined (n k j : ℕ) (Y W : Frame K) : Type 0 where
    pub Z : Frame K
    pub w : Vector K
    pub is : (i : ℕ) → w i ≡ delta K 0 i ⊕ delta K j i
    pub replaced : Replaced K n 0 w Y Z
    pub h : ℕ
    pub chained : Chained K n k Z h W

  joined_upto : (k j : ℕ) (w : Vector K) → j < k → ((i : ℕ) → w i ≡ delta K 0 i ⊕ delta K j i) → Upto K k w
  joined_upto k j w jk is i g = is i ∙ ap₂ ◌⊕◌ (delta_other K 0 i (omega arith)) (delta_other K j i (omega arith)) ∙ plus_zero K 𝟘

  joined_change : (n k j : ℕ) (w : Vector K) (Y Z : Frame K) → k ≤ n → j < k → FrameWithin K n Y → ((i : ℕ) → w i ≡ delta K 0 i ⊕ delta K j i) → Replaced K n 0 w Y Z → Change K n k Y Z
  joined_change n k j w Y Z kn jk y is r = replaced_change K n k 0 w Y Z (omega arith) kn (joined_upto k j w jk is) y r

  pub joined_ready : (n k j : ℕ) (w : Vector K) (Y Z : Frame K) → k ≤ n → j < k → FrameWithin K n Y → Window K k Y.B → ((i : ℕ) → w i ≡ delta K 0 i ⊕ delta K j i) → Replaced K n 0 w Y Z → Ready K k 0 Z
  joined_ready n k j w Y Z kn jk y v is r = ready_first K k Z ((joined_change n k j w Y Z kn jk y is r).window v)

  module _ (n k m j : ℕ) (X Y W : Frame K) (kn : k ≤ n) (mj : m ≤ j) (jk : j < k) (y : FrameWithin K n Y) (x : Probing n k m j X Y) (J : Joined n k j Y W) where
    upto_n : Upto K n J.w
    upto_n i g = joined_upto k j J.w jk J.is i (omega arith)

    rows_kept : (i t : ℕ) → i < m → J.Z.B i t ≡ Y.B i t
    rows_kept = joined_rows n m j J.w Y J.Z x.headed.some mj (omega arith) upto_n y J.is J.replaced x.flat

    joined_flat : CompanionRows K m J.Z.B
    joined_flat = rows_equal K m Y.B J.Z.B rows_kept x.flat

    change : Change K n k X W
    change = change_then K n k x.change (change_then K n k (joined_change n k j J.w Y J.Z kn jk y J.is J.replaced) J.chained.passed.change)

    pub joined_headed : Headed K k J.h W
    joined_headed = chained_headed K n k J.Z J.h W J.chained

    low : m ≤ J.h
    low = J.chained.as_long m joined_flat

    pub probe_longer : m < J.h → Probed n k m X J.h W
    probe_longer g = record { change = change; headed = joined_headed; grown = low; flat = λ e. absurd (omega arith); kills = λ e. absurd (omega arith) }

    module _ (short : J.h ≤ m) where
      e : J.h ≡ m
      e = omega (arith, low)

      kept : Kept K m J.Z W
      kept = J.chained.passed.kept m joined_flat (omega (arith, J.chained.is))

      rows : (i t : ℕ) → i < m → W.B i t ≡ Y.B i t
      rows i t g = kept.rows i t g ∙ rows_kept i t g

      columns : (i t : ℕ) → m ≤ t → W.T i t ≡ Y.T i t
      columns i t g = kept.columns i t g ∙ replaced_T K n 0 J.w Y J.Z (omega arith) upto_n y J.replaced i t (omega (arith, x.headed.some))

      headed : Headed K k m W
      headed = subst (λ (q : ℕ). Headed K k q W) e joined_headed

      same : corner K m W.B ≡ corner K m Y.B
      same = monic_of_equal K m _ _ (λ i g. rows i (m - 1) g)

      start : (i : ℕ) → W.T i 0 ≡ Y.T i 0 ⊕ Y.T i j
      start i = J.chained.passed.first i 0 (omega arith) ∙ joined_T n m j J.w Y J.Z x.headed.some mj (omega arith) upto_n y J.is J.replaced x.flat i

      -- e_j is the difference of the new first vector and the old
      killed : (A : Matrix K) → In K n A X → Kills K n A (corner K m Y.B) (column K Y.T j)
      killed A s = kills_difference K n A (corner K m Y.B) (column K W.T 0) (column K Y.T 0) (column K Y.T j)
          (subst (λ f. Kills K n A f (column K W.T 0)) same (own n k m W kn headed A (change.basis A s) 0 x.headed.some))
          (own n k m Y kn x.headed A (x.change.basis A s) 0 x.headed.some)
          (λ i. sym (ap (λ z. z ⊕ ⊖ 𝟙 ⊗ Y.T i 0) (start i) ∙ solve₃ K (λ a b c. a :+ b :+ :- :1 :* a) (λ a b c. b) refl (Y.T i 0) (Y.T i j) 𝟘))

      at : (A : Matrix K) → In K n A X → (q : ℕ) → m ≤ q → q < suc j → Kills K n A (corner K m Y.B) (column K Y.T q)
      at A s q a g = elim (ℕ_discrete j q) [
        | yes d ↦ subst (λ (z : ℕ). Kills K n A (corner K m Y.B) (column K Y.T z)) d (killed A s)
        | no d ↦ x.kills A s q a (omega arith)
      ]

      pub probe_turn : Probing n k m (suc j) X W
      probe_turn = record {
        change = change;
        headed = headed;
        flat = rows_equal K m Y.B W.B rows x.flat;
        kills = λ A s q a g. rw same (subst (λ (v : Vector K). Kills K n A (corner K m Y.B) v) (λ k i. sym (columns i q a) k) (at A s q a g));
      }

  pub probed_of_settled : (n k m : ℕ) (X : Frame K) (h : ℕ) (Y : Frame K) → Settled K n k m X h Y → m < h → Probed n k m X h Y
  probed_of_settled n k m X h Y s l = record { change = s.change; headed = s.headed; grown = omega arith; flat = λ e. absurd (omega arith); kills = λ e. absurd (omega arith) }

  pub probed_then : (n k m : ℕ) (X Y : Frame K) (h : ℕ) (Z : Frame K) → Change K n k X Y → Probed n k m Y h Z → Probed n k m X h Z
  probed_then n k m X Y h Z c x = record {
    change = change_then K n k c x.change;
    headed = x.headed;
    grown = x.grown;
    flat = x.flat;
    kills = λ e A s. x.kills e A (c.basis A s);
  }

  -- the window is a block of m and the rest, and the block's polynomial kills all of it
  pub record Split (n k : ℕ) (X : Frame K) (m : ℕ) (Y : Frame K) : Type 0 where
    pub change : Change K n k X Y
    pub headed : Headed K k m Y
    pub flat : CompanionRows K m Y.B
    pub kills : (A : Matrix K) → In K n A X → (q : ℕ) → q < k → Kills K n A (corner K m Y.B) (column K Y.T q)

  pub split_of_probed : (n k m : ℕ) (X Y : Frame K) (h : ℕ) (Z : Frame K) → Change K n k X Y → Probed n k m Y h Z → h ≤ m → Split n k X m Z
  split_of_probed n k m X Y h Z c x l = let e : h ≡ m = omega (arith, x.grown) in record {
    change = change_then K n k c x.change;
    headed = subst (λ (q : ℕ). Headed K k q Z) e x.headed;
    flat = x.flat e;
    kills = λ A s. x.kills e A (c.basis A s);
  }
