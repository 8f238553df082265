-- Each turn but the last makes a longer block, so that the turns end. The last finds nothing behind the block and all of the window killed.
use Rattle.std.proofs.Common.{◌-◌}
use Rattle.algebra.specs.Modular.{modulo}
use Rattle.basis.specs.State.{frame, Fields}
use Rattle.basis.specs.Frame.{Change}
use Rattle.splitting.specs.Settle.{Headed}
use Rattle.splitting.proofs.blocks.split.Given as goal

abbrev pub invariant-loop-s : goal.invariant-loop-s
invariant-loop-s l = Fields l.modulus.p l.order.n l.s × (Change (modulo l.modulus.p) l.order.n l.k (frame l.modulus.p l.order.n l.fn.s) (frame l.modulus.p l.order.n l.s) × Headed (modulo l.modulus.p) l.k l.m (frame l.modulus.p l.order.n l.s))

abbrev pub decreases-loop-s : goal.decreases-loop-s
decreases-loop-s l = l.k - l.m
