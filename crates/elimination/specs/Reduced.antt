-- What the elimination delivers: B = F, T and the inverse of T as field matrices, A T = T F, and F the block diagonal of companion blocks, each
-- polynomial dividing the next.
use Rattle.std.specs.Prelude.{List, ℕ, ◌-◌, ◌≤◌}
use Rattle.algebra.specs.Matrix.{Matrix}
use Rattle.algebra.specs.Modular.{modulo}
use Rattle.matrices.specs.Matrices.{matrix}
use Rattle.basis.specs.Frame.{In}
use Rattle.basis.specs.declared.steps.State.{State}
use Rattle.basis.specs.State.{Array, frame, frame_within, Fields}
use Rattle.ordering.specs.Rotation.{rotation}
use Rattle.ordering.specs.Orders.{InOrder}
use Rattle.splitting.specs.Probe.{Split}
use Rattle.elimination.specs.Form.{Block, Form, Stage, stage_turn}

pub record Reduced (p n : ℕ) (a : Array) (s : State) : Type 0 where
  pub fields : Fields p n s
  pub basis : In (modulo p) n (matrix p n a) (frame p n s)
  pub blocks : List (Block (modulo p))
  pub form : Form (modulo p) n (matrix p n s.b) 0 blocks

pub reduced : (p n : ℕ) (a : Array) (s : State) → Fields p n s → Stage (modulo p) n 0 (matrix p n a) (frame p n s) → Reduced p n a s
reduced p n a s f x = record { fields = f; basis = x.basis; blocks = x.blocks; form = x.form }

-- the next stage, where a block is split off and brought to the end of the window
pub stage_next : (p n k m : ℕ) (A : Matrix (modulo p)) (s c y : State) → k ≤ n → Stage (modulo p) n k A (frame p n s) → Split (modulo p) n k (frame p n s) m (frame p n c) → InOrder n (rotation m k) c y → Stage (modulo p) n (k - m) A (frame p n y)
stage_next p n k m A s c y kn x z o = stage_turn (modulo p) n k m A (frame p n s) (frame p n c) (frame p n y) kn (frame_within p n c) (frame_within p n y) x z (o.reordered p)
