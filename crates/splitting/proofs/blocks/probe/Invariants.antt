-- The loop keeps that the vectors before j are killed, and ends with the first longer block or where no vector is left.
use Rattle.std.proofs.Common.{◌≤◌, ◌<◌, ◌-◌}
use Rattle.algebra.specs.Modular.{modulo}
use Rattle.basis.specs.State.{frame, Fields}
use Rattle.splitting.specs.Probe.{Probing}
use Rattle.splitting.proofs.blocks.probe.Given as goal

abbrev pub invariant-loop-order : goal.invariant-loop-order
invariant-loop-order l = (l.m ≤ l.j) × (l.j < l.k) × Fields l.modulus.p l.order.n l.s × Probing (modulo l.modulus.p) l.order.n l.k l.m l.j (frame l.modulus.p l.order.n l.initial.s) (frame l.modulus.p l.order.n l.s)

abbrev pub decreases-loop-order : goal.decreases-loop-order
decreases-loop-order l = l.k - l.j
