-- The pass: from column 0 on, column j takes the place of e_(j+1) as long as it has a pivot in the window [0,k). What it does to a frame,
-- and how far it gets at least.
use Rattle.std.specs.Prelude.{◌≡◌, refl, ◌≢◌, ℕ, suc, ◌≤◌, ◌<◌}
use Rattle.std.proofs.Common.{sym, ◌∙◌, arith}
use Rattle.std.proofs.Math.Decide.{dec_lt}
use Rattle.algebra.specs.Ring.{Ring}
use Rattle.algebra.specs.Sum.{delta_same}
use Rattle.algebra.specs.Matrix.{Vector, Upto}
use Rattle.basis.specs.Frame.{Frame, FrameWithin, Window, Change, change_none, change_then}
use Rattle.ordering.specs.Exchange.{exchange, exchanged_change}
use Rattle.ordering.specs.Reordering.{Reordered}
use Rattle.basis.specs.Replace.{Replaced, replaced_change, replaced_T}
use Rattle.splitting.specs.Shapes.{UnitColumns, CompanionRows, Ahead, ahead_none, Kept, kept_none, kept_then, kept_rows}
use Rattle.splitting.specs.Chain.{push_columns, push_ahead, push_kept, pull_columns, pull_pivot, pull_first}

module _ {R : Type 0} (K : Ring R) where
  open K use {zero as 𝟘, one as 𝟙}

  -- where the step at j begins
  pub record Ready (k j : ℕ) (X : Frame K) : Type 0 where
    pub window : Window K k X.B
    pub columns : UnitColumns K j X.B

  -- a pass can begin in every window
  pub ready_first : (k : ℕ) (X : Frame K) → Window K k X.B → Ready k 0 X
  ready_first k X w = record { window = w; columns = λ i t l. absurd (omega arith) }

  -- the pass from `start` to j; rows of a companion block longer than the limit have been kept
  pub record Passed (n k start : ℕ) (X : Frame K) (limit j : ℕ) (Y : Frame K) : Type 0 where
    pub change : Change K n k X Y
    pub ready : Ready k j Y
    pub ahead : (h : ℕ) → Ahead K h start X.B → Ahead K h j Y.B
    pub kept : (h : ℕ) → CompanionRows K h X.B → limit < h → Kept K h X Y
    pub first : (r c : ℕ) → c ≤ start → Y.T r c ≡ X.T r c

  pub passed_start : (n k start limit : ℕ) (X : Frame K) → Ready k start X → Passed n k start X limit start X
  passed_start n k start limit X r = record { change = change_none K n k X; ready = r; ahead = λ h x. x; kept = λ h x y. kept_none K h X; first = λ r c a. refl }

  pub passed_then : (n k i j l limit further : ℕ) {X Y Z : Frame K} → i ≤ j → limit ≤ further → Passed n k i X limit j Y → Passed n k j Y further l Z → Passed n k i X further l Z
  passed_then n k i j l limit further {X} {Y} {Z} ij e x y = record {
    change = change_then K n k x.change y.change;
    ready = y.ready;
    ahead = λ h a. y.ahead h (x.ahead h a);
    kept = λ h c g. (let u = x.kept h c (omega arith) in kept_then K h u (y.kept h (kept_rows K h X Y u c) g));
    first = λ r c a. y.first r c (omega arith) ∙ x.first r c a;
  }

  -- column j takes the place of e_(j+1)
  pub push_passes : (n k j : ℕ) (w : Vector K) (X Y : Frame K) → suc j < k → k ≤ n → FrameWithin K n X → Ready k j X → ((i : ℕ) → w i ≡ X.B i j) → Replaced K n (suc j) w X Y → Passed n k j X (suc j) (suc j) Y
  push_passes n k j w X Y l h x r is m =
      let upto : Upto K k w = λ i g. is i ∙ r.window.down i j g (omega arith) in
      let all : Upto K n w = λ i g. upto i (omega arith) in
      let change = replaced_change K n k (suc j) w X Y l h upto x m in
      record {
        change = change;
        ready = record { window = change.window r.window; columns = push_columns K n j w X Y (omega arith) all x is m r.columns };
        ahead = λ q e. push_ahead K n j w X Y (omega arith) all x is m q e;
        kept = λ q e g. push_kept K n j w X Y (omega arith) all x is m q e g;
        first = λ r c a. replaced_T K n (suc j) w X Y (omega arith) all x m r c (omega arith);
      }

  -- the first pivot of column j, at row q, is brought to row j + 1
  pub record Pulled (n k j : ℕ) (X Y : Frame K) : Type 0 where
    pub passed : Passed n k j X (suc j) j Y
    pub pivot : Y.B (suc j) j ≢ 𝟘

  -- the pass ended at column j = m - 1, which has no pivot: a companion block of m
  pub record Chained (n k : ℕ) (X : Frame K) (m : ℕ) (Y : Frame K) : Type 0 where
    pub j : ℕ
    pub is : m ≡ suc j
    pub high : j < k
    pub passed : Passed n k 0 X j j Y
    pub stop : (i : ℕ) → j < i → Y.B i j ≡ 𝟘
    pub longer : (h : ℕ) → Ahead K h 0 X.B → h < m
    pub as_long : (h : ℕ) → CompanionRows K h X.B → h ≤ m

  module _ (distinct : 𝟙 ≢ 𝟘) where
    pub pull_pulls : (n k j q : ℕ) (X Y : Frame K) → q < k → k ≤ n → suc j < q → FrameWithin K n X → FrameWithin K n Y → Ready k j X → X.B (suc j) j ≡ 𝟘 → X.B q j ≢ 𝟘
        → Reordered K n (exchange (suc j) q) X Y → Pulled n k j X Y
    pull_pulls n k j q X Y l h a x y r zero hit m =
        let change = exchanged_change K n k (suc j) q X Y (omega arith) l h x y m in
        record {
          passed = record {
            change = change;
            ready = record { window = change.window r.window; columns = pull_columns K n j q X Y a (omega arith) y m r.columns };
            ahead = λ t e. elim (dec_lt j t) [ yes g ↦ absurd (e.pivot j (omega arith) g zero) | no g ↦ ahead_none K t j _ (omega arith) ];
            kept = λ t e g. absurd (distinct (sym (e.unit (suc j) j g g ∙ delta_same K (suc j)) ∙ zero));
            first = pull_first K n j q X Y a (omega arith) y m x;
          };
          pivot = λ e. hit (sym (pull_pivot K n j q X Y a (omega arith) y m) ∙ e);
        }

    pub pass_ends : (n k j : ℕ) (X Y : Frame K) → j < k → Passed n k 0 X j j Y → ((i : ℕ) → j < i → i < k → Y.B i j ≡ 𝟘) → Chained n k X (suc j) Y
    pass_ends n k j X Y g x zeros =
        let stop : (i : ℕ) → j < i → Y.B i j ≡ 𝟘 = λ i q. elim (dec_lt i k) [ yes y ↦ zeros i q y | no y ↦ x.ready.window.down i j (omega arith) g ] in
        record {
          j = j;
          is = refl;
          high = g;
          passed = x;
          stop = stop;
          longer = λ h e. elim (dec_lt j h) [ yes v ↦ absurd ((x.ahead h e).pivot j (omega arith) v (stop (suc j) (omega arith))) | no v ↦ omega arith ];
          as_long = λ h e. elim (dec_lt (suc j) h) [
            | yes v ↦ absurd (distinct (sym ((x.kept h e (omega arith)).rows (suc j) j v ∙ e.unit (suc j) j v v ∙ delta_same K (suc j)) ∙ stop (suc j) (omega arith)))
            | no v ↦ omega arith
          ];
        }
