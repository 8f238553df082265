-- The loop: the rows so far are put.
use Rattle.forms.specs.Certificate.{joined}
use Rattle.forms.specs.Listed.{listed}
use Rattle.writing.specs.Put.{Puts}
use Rattle.matrices.specs.Matrices.{cell}
use Rattle.payloads.proofs.put_matrix.Given as goal

abbrev pub invariant-loop-row : goal.invariant-loop-row
invariant-loop-row l = Puts l.at (joined l.row-index (λ i. listed l.order.n (cell l.m i))) l.initial.out l.out l.next
