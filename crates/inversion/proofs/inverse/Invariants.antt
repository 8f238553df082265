-- After j turns j columns are those of E.
use Rattle.inversion.specs.Inversion.{Eliminating}
use Rattle.inversion.proofs.inverse.Given as goal

abbrev pub invariant-loop-j : goal.invariant-loop-j
invariant-loop-j l = Eliminating l.m.p l.order.n l.j l.initial.pair.m l.pair.m l.pair.s
