-- The shapes that a pass makes and keeps: columns e_1, e_2, .., the rows of a companion block, and rows with something just below the
-- diagonal that the pass has not reached yet.
use Rattle.std.specs.Prelude.{◌≡◌, refl, ◌≢◌, ℕ, suc, ◌≤◌, ◌<◌}
use Rattle.std.proofs.Common.{◌∙◌, subst, arith}
use Rattle.std.proofs.Math.Decide.{ℕ_discrete}
use Rattle.algebra.specs.Ring.{Ring}
use Rattle.algebra.specs.Sum.{delta, delta_other}
use Rattle.algebra.specs.Matrix.{Matrix}
use Rattle.basis.specs.Frame.{Frame}

module _ {R : Type 0} (K : Ring R) where
  open K use {zero as 𝟘}

  -- the first j columns are e_1 .. e_j
  abbrev pub UnitColumns : ℕ → Matrix K → Type 0
  UnitColumns j B = (i t : ℕ) → t < j → B i t ≡ delta K (suc t) i

  -- [C N; 0 B']: the first m columns are those of a companion block over zeros
  pub record CompanionColumns (m : ℕ) (B : Matrix K) : Type 0 where
    pub unit : (i t : ℕ) → suc t < m → B i t ≡ delta K (suc t) i
    pub low : (i t : ℕ) → m ≤ i → t < m → B i t ≡ 𝟘

  -- [C 0; * *]: the first m rows are those of a companion block and zeros
  pub record CompanionRows (m : ℕ) (B : Matrix K) : Type 0 where
    pub unit : (i t : ℕ) → i < m → suc t < m → B i t ≡ delta K (suc t) i
    pub right : (i t : ℕ) → i < m → m ≤ t → B i t ≡ 𝟘

  -- rows j+1 .. h have something just below the diagonal, and all but the first of them nothing before it and nothing after column h
  pub record Ahead (h j : ℕ) (B : Matrix K) : Type 0 where
    pub pivot : (t : ℕ) → j ≤ t → t < h → B (suc t) t ≢ 𝟘
    pub before_it : (t c : ℕ) → j < t → t < h → c < t → B (suc t) c ≡ 𝟘
    pub after : (t c : ℕ) → j < t → t < h → h < c → B (suc t) c ≡ 𝟘

  -- the first h rows of B and the columns from h on of T are as they were
  pub record Kept (h : ℕ) (X Y : Frame K) : Type 0 where
    pub rows : (i t : ℕ) → i < h → Y.B i t ≡ X.B i t
    pub columns : (r t : ℕ) → h ≤ t → Y.T r t ≡ X.T r t

  pub columns_of_units : (j : ℕ) (B : Matrix K) → UnitColumns j B → ((i : ℕ) → j < i → B i j ≡ 𝟘) → CompanionColumns (suc j) B
  columns_of_units j B u z = record {
    unit = λ i t l. u i t (omega arith);
    low = λ i t g l. elim (ℕ_discrete j t) [
      | yes e ↦ subst (λ (y : ℕ). B i y ≡ 𝟘) e (z i (omega arith))
      | no e ↦ u i t (omega arith) ∙ delta_other K (suc t) i (omega arith)
    ];
  }

  pub columns_equal : (m : ℕ) (B C : Matrix K) → ((i t : ℕ) → t < m → C i t ≡ B i t) → CompanionColumns m B → CompanionColumns m C
  columns_equal m B C e h = record { unit = λ i t g. e i t (omega arith) ∙ h.unit i t g; low = λ i t g l. e i t l ∙ h.low i t g l }

  pub rows_equal : (m : ℕ) (B C : Matrix K) → ((i t : ℕ) → i < m → C i t ≡ B i t) → CompanionRows m B → CompanionRows m C
  rows_equal m B C e h = record { unit = λ i t a b. e i t a ∙ h.unit i t a b; right = λ i t a b. e i t a ∙ h.right i t a b }

  pub ahead_none : (h j : ℕ) (B : Matrix K) → h ≤ j → Ahead h j B
  ahead_none h j B l = record { pivot = λ t a b. absurd (omega arith); before_it = λ t c a b e. absurd (omega arith); after = λ t c a b e. absurd (omega arith) }

  pub kept_none : (h : ℕ) (X : Frame K) → Kept h X X
  kept_none h X = record { rows = λ i t a. refl; columns = λ r t a. refl }

  pub kept_then : (h : ℕ) {X Y Z : Frame K} → Kept h X Y → Kept h Y Z → Kept h X Z
  kept_then h x y = record { rows = λ i t a. y.rows i t a ∙ x.rows i t a; columns = λ r t a. y.columns r t a ∙ x.columns r t a }

  pub kept_rows : (h : ℕ) (X Y : Frame K) → Kept h X Y → CompanionRows h X.B → CompanionRows h Y.B
  kept_rows h X Y k = rows_equal h X.B Y.B k.rows
