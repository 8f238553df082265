-- A basis vector e_j goes first, by a rotation: the rows of the block behind it are then ahead of a pass.
use Rattle.std.specs.Prelude.{◌≡◌, ◌≢◌, ℕ, zero, suc, ◌≤◌, ◌<◌}
use Rattle.std.proofs.Common.{sym, ◌∙◌}
use Rattle.std.proofs.Math.Path.{ap}
use Rattle.std.proofs.Math.Decide.{dec_lt}
use native.Mathlib.Omega.{arith}
use Rattle.algebra.specs.Ring.{Ring}
use Rattle.algebra.specs.Sum.{delta_same, delta_other}
use Rattle.basis.specs.Frame.{Frame, FrameWithin}
use Rattle.ordering.specs.Reordering.{Reordered}
use Rattle.ordering.specs.Rotation.{rotation, rotation_low, rotation_middle, rotation_high}
use Rattle.splitting.specs.Shapes.{CompanionColumns, Ahead}

module _ {R : Type 0} (K : Ring R) where
  open K use {zero as 𝟘, one as 𝟙}

  -- e_j comes first, where row 0 has something in column j and the rows below it, up to m, are those of [C 0]
  module _ (n m j : ℕ) (X Y : Frame K) (distinct : 𝟙 ≢ 𝟘) (l : 0 < m) (mj : m ≤ j) (jn : j < n) (y : FrameWithin K n Y) (c : CompanionColumns K m X.B)
      (zeros : (i t : ℕ) → 0 < i → i < m → m ≤ t → X.B i t ≡ 𝟘) (some : X.B 0 j ≢ 𝟘) (r : Reordered K n (rotation j (suc j)) X Y) where
    σ : ℕ → ℕ
    σ = rotation j (suc j)

    σ_zero : σ 0 ≡ j
    unfolding σ
    σ_zero = rotation_low j (suc j) 0 (omega arith) ∙ omega arith

    σ_suc : (i : ℕ) → i < j → σ (suc i) ≡ i
    unfolding σ
    σ_suc i g = rotation_middle j (suc j) (suc i) (omega arith) (omega arith) ∙ omega arith

    σ_far : (c : ℕ) → m < c → m ≤ σ c
    unfolding σ
    σ_far c g = elim (dec_lt c (suc j)) [ yes a ↦ omega (arith, rotation_middle j (suc j) c (omega arith) a) | no a ↦ omega (arith, rotation_high j (suc j) c (omega arith)) ]

    row : (t c : ℕ) → t < m → c < n → Y.B (suc t) c ≡ X.B t (σ c)
    unfolding σ
    row t c g h = r.B (suc t) c (omega arith) h ∙ ap (λ (z : ℕ). X.B z (rotation j (suc j) c)) (σ_suc t (omega arith))

    pivot_at : (t : ℕ) → t < m → Y.B (suc t) t ≢ 𝟘
    pivot_at zero g e = some (sym (row 0 0 g (omega arith) ∙ ap (X.B 0) σ_zero) ∙ e)
    pivot_at (suc t) g e = distinct (sym (row (suc t) (suc t) g (omega arith) ∙ ap (X.B (suc t)) (σ_suc t (omega arith)) ∙ c.unit (suc t) t g ∙ delta_same K (suc t)) ∙ e)

    before_at : (t c : ℕ) → 0 < t → t < m → c < t → Y.B (suc t) c ≡ 𝟘
    before_at t zero a g e = row t 0 g (omega arith) ∙ ap (X.B t) σ_zero ∙ zeros t j a g mj
    before_at t (suc d) a g e = row t (suc d) g (omega arith) ∙ ap (X.B t) (σ_suc d (omega arith)) ∙ c.unit t d (omega arith) ∙ delta_other K (suc d) t (omega arith)

    pub inserted_ahead : Ahead K m 0 Y.B
    inserted_ahead = record {
      pivot = λ t a b. pivot_at t b;
      before_it = λ t d a b e. before_at t d a b e;
      after = λ t d a b e. elim (dec_lt d n) [ yes h ↦ row t d b h ∙ zeros t (σ d) a b (σ_far d e) | no h ↦ y.B.columns (suc t) d (omega arith) ];
    }
