-- The loop wipes row after row, from the last on, where there is something to wipe.
use Rattle.std.proofs.Common.{◌-◌}
use Rattle.algebra.specs.Modular.{modulo}
use Rattle.basis.specs.State.{frame, Fields}
use Rattle.splitting.specs.Settle.{Cleared}
use Rattle.splitting.proofs.blocks.clear.Given as goal

abbrev pub invariant-loop-r : goal.invariant-loop-r
invariant-loop-r l = Fields l.modulus.p l.order.n l.s × Cleared (modulo l.modulus.p) l.order.n l.k l.m (l.r - 1) (frame l.modulus.p l.order.n l.initial.s) (frame l.modulus.p l.order.n l.s)
