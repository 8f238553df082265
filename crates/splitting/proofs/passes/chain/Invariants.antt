-- The loop keeps the pass up to column j.
use Rattle.algebra.specs.Modular.{modulo}
use Rattle.basis.specs.State.{frame, Fields}
use Rattle.splitting.specs.Pass.{Passed}
use Rattle.splitting.proofs.passes.chain.Given as goal

abbrev pub invariant-loop-j : goal.invariant-loop-j
invariant-loop-j l = Fields l.modulus.p l.order.n l.s × Passed (modulo l.modulus.p) l.order.n l.k 0 (frame l.modulus.p l.order.n l.initial.s) l.j l.j (frame l.modulus.p l.order.n l.s)
