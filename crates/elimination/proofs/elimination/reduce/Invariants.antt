-- The loop keeps the stage: the window [0,k), and the blocks behind it.
use Rattle.std.proofs.Common.{◌≤◌}
use Rattle.algebra.specs.Modular.{modulo}
use Rattle.basis.specs.State.{frame, Fields}
use Rattle.matrices.specs.Matrices.{matrix}
use Rattle.elimination.specs.Form.{Stage}
use Rattle.elimination.proofs.elimination.reduce.Given as goal

abbrev pub invariant-loop-k : goal.invariant-loop-k
invariant-loop-k l = (l.k ≤ l.order.n) × Fields l.m.p l.order.n l.s × Stage (modulo l.m.p) l.order.n l.k (matrix l.m.p l.order.n l.fn.a) (frame l.m.p l.order.n l.s)

abbrev pub decreases-loop-k : goal.decreases-loop-k
decreases-loop-k l = l.k
