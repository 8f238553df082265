-- The loop adds up the rows of x, each as often as v says.
use Rattle.basis.specs.Steps.{Combining}
use Rattle.basis.proofs.steps.combination.Given as goal

abbrev pub invariant-loop-i : goal.invariant-loop-i
invariant-loop-i l = Combining l.m.p l.fn.order.n l.i l.v l.x l.r
