-- The entries passed, and the one in row j, are those of E; what the elimination has kept stays.
use Rattle.inversion.specs.Inversion.{Clearing}
use Rattle.inversion.proofs.clear.Given as goal

abbrev pub invariant-loop-i : goal.invariant-loop-i
invariant-loop-i l = Clearing l.m.p l.order.n l.j l.i l.initial.cleared.m l.initial.cleared.s l.cleared.m l.cleared.s
