-- Behind the block of a pass stands N, [C N; 0 B']. Its rows but the first are wiped; if something is left in row 0, that basis vector goes first
-- and a pass from there makes a longer block.
use Rattle.std.specs.Prelude.{◌≡◌, refl, ◌≢◌, ℕ, suc, ◌≤◌, ◌<◌}
use Rattle.std.proofs.Common.{◌∙◌, subst, arith}
use Rattle.std.proofs.Math.Decide.{dec_lt, ℕ_discrete}
use Rattle.algebra.specs.Ring.{Ring}
use Rattle.basis.specs.Frame.{Frame, FrameWithin, Window, Change, change_none, change_then}
use Rattle.splitting.specs.Shapes.{CompanionColumns, columns_of_units, columns_equal, CompanionRows}
use Rattle.splitting.specs.Insertion.{inserted_ahead}
use Rattle.ordering.specs.Reordering.{Reordered}
use Rattle.ordering.specs.Rotation.{rotation, rotated_change}
use Rattle.splitting.specs.Pass.{Chained}

module _ {R : Type 0} (K : Ring R) where
  open K use {zero as 𝟘, one as 𝟙}

  -- a companion block of m at the head of the window [0,k)
  pub record Headed (k m : ℕ) (X : Frame K) : Type 0 where
    pub some : 0 < m
    pub fits : m ≤ k
    pub columns : CompanionColumns K m X.B
    pub window : Window K k X.B

  -- row a + 1 is wiped from column m on
  pub record Wiped (n k m a : ℕ) (X Y : Frame K) : Type 0 where
    pub change : Change K n k X Y
    pub columns : (i t : ℕ) → t < m → Y.B i t ≡ X.B i t
    pub rows : (i t : ℕ) → a ≢ i → suc a ≢ i → Y.B i t ≡ X.B i t
    pub zeros : (t : ℕ) → m ≤ t → Y.B (suc a) t ≡ 𝟘

  pub wiped_none : (n k m a : ℕ) (X : Frame K) → ((t : ℕ) → m ≤ t → X.B (suc a) t ≡ 𝟘) → Wiped n k m a X X
  wiped_none n k m a X z = record { change = change_none K n k X; columns = λ i t g. refl; rows = λ i t g h. refl; zeros = z }

  -- rows r + 1 .. m - 1 are wiped
  pub record Cleared (n k m r : ℕ) (X Y : Frame K) : Type 0 where
    pub change : Change K n k X Y
    pub columns : (i t : ℕ) → t < m → Y.B i t ≡ X.B i t
    pub zeros : (i t : ℕ) → r < i → i < m → m ≤ t → Y.B i t ≡ 𝟘

  pub clear_start : (n k m r : ℕ) (X : Frame K) → m ≤ suc r → Cleared n k m r X X
  clear_start n k m r X h = record { change = change_none K n k X; columns = λ i t g. refl; zeros = λ i t g l e. absurd (omega arith) }

  pub clear_turn : (n k m a : ℕ) (X Y Z : Frame K) → Cleared n k m (suc a) X Y → Wiped n k m a Y Z → Cleared n k m a X Z
  clear_turn n k m a X Y Z x y = record {
    change = change_then K n k x.change y.change;
    columns = λ i t g. y.columns i t g ∙ x.columns i t g;
    zeros = λ i t g h e. elim (ℕ_discrete (suc a) i) [
      | yes d ↦ subst (λ (q : ℕ). Z.B q t ≡ 𝟘) d (y.zeros t e)
      | no d ↦ y.rows i t (omega arith) d ∙ x.zeros i t (omega arith) h e
    ];
  }

  pub cleared_headed : (n k m r : ℕ) (X Y : Frame K) → Headed k m X → Cleared n k m r X Y → Headed k m Y
  cleared_headed n k m r X Y h c = record { some = h.some; fits = h.fits; columns = columns_equal K m X.B Y.B c.columns h.columns; window = c.change.window h.window }

  -- a block of h, no shorter than m; where it is no longer, nothing is left behind it
  pub record Settled (n k m : ℕ) (X : Frame K) (h : ℕ) (Y : Frame K) : Type 0 where
    pub change : Change K n k X Y
    pub headed : Headed k h Y
    pub grown : m ≤ h
    pub flat : h ≡ m → CompanionRows K m Y.B

  -- nothing is left behind the block in the window
  pub headed_flat : (k m : ℕ) (X : Frame K) → Headed k m X → ((i t : ℕ) → i < m → m ≤ t → t < k → X.B i t ≡ 𝟘) → CompanionRows K m X.B
  headed_flat k m X h z = record {
    unit = λ i t a b. h.columns.unit i t b;
    right = λ i t a b. elim (dec_lt t k) [ yes c ↦ z i t a b c | no c ↦ h.window.right i t (omega (arith, h.fits)) (omega arith) ];
  }

  -- row 0 has nothing either
  pub settled_same : (n k m : ℕ) (X Y : Frame K) → Headed k m X → Cleared n k m 0 X Y → ((t : ℕ) → m ≤ t → t < k → Y.B 0 t ≡ 𝟘) → Settled n k m X m Y
  settled_same n k m X Y x c z =
      let y = cleared_headed n k m 0 X Y x c in
      record {
        change = c.change;
        headed = y;
        grown = omega arith;
        flat = λ e. headed_flat k m Y y (λ i t a b l. elim (ℕ_discrete 0 i) [ yes d ↦ subst (λ (q : ℕ). Y.B q t ≡ 𝟘) d (z t b l) | no d ↦ c.zeros i t (omega arith) a b ]);
      }

  pub chained_headed : (n k : ℕ) (X : Frame K) (m : ℕ) (Y : Frame K) → Chained K n k X m Y → Headed k m Y
  chained_headed n k X m Y c = let e : m ≡ suc c.j = c.is in record {
    some = omega arith;
    fits = omega (arith, c.high);
    columns = rw e (columns_of_units K c.j Y.B c.passed.ready.columns c.stop);
    window = c.passed.ready.window;
  }

  pub settled_longer : 𝟙 ≢ 𝟘 → (n k m j h : ℕ) (X Y Z W : Frame K) → k ≤ n → m ≤ j → j < k → FrameWithin K n Y → FrameWithin K n Z → Headed k m X → Cleared n k m 0 X Y → Y.B 0 j ≢ 𝟘
      → Reordered K n (rotation j (suc j)) Y Z → Chained K n k Z h W → Settled n k m X h W
  settled_longer distinct n k m j h X Y Z W kn mj jk y z x c some r w =
      let up : m < h = w.longer m (inserted_ahead K n m j Y Z distinct x.some mj (omega arith) z (cleared_headed n k m 0 X Y x c).columns c.zeros some r) in
      record {
        change = change_then K n k c.change (change_then K n k (rotated_change K n j (suc j) k Y Z (omega arith) jk kn y z r) w.passed.change);
        headed = chained_headed n k Z h W w;
        grown = omega arith;
        flat = λ e. absurd (omega arith);
      }
