-- The loop keeps what `Euclid` says of the two remainders, and the second falls.
use Rattle.residues.specs.Euclid.{Euclid}
use Rattle.residues.proofs.residue.euclid.Given as goal

abbrev pub invariant-loop-b : goal.invariant-loop-b
invariant-loop-b l = Euclid l.p l.x l.a l.b l.s l.t

abbrev pub decreases-loop-b : goal.decreases-loop-b
decreases-loop-b l = l.b
