-- Nothing moves where m is k; elsewhere the rows of the three matrices are overwritten in the order of the table.
use Rattle.ordering.specs.Turning.{Turned}
use Rattle.ordering.proofs.turning.rotate.Given as goal

abbrev pub invariant-loop-i : goal.invariant-loop-i
invariant-loop-i l = Turned l.i l.q l.s l.r
