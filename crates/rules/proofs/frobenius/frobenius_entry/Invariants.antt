-- Once b blocks are passed, the entry is that at (row, column) of the blocks behind.
use Rattle.forms.specs.Matrices.{diagonal}
use Rattle.rules.specs.FrobeniusSearch.{Behind}
use Rattle.rules.proofs.frobenius.frobenius_entry.Given as goal

abbrev pub invariant-loop-b : goal.invariant-loop-b
invariant-loop-b l = Behind l.m.p l.d.order.n (diagonal l.d.order.n l.d.bytes.now) l.i l.j l.b l.row l.column
