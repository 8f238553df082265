-- The row is filled from the front.
use Rattle.std.proofs.Common.{◌≡◌, ◌+◌, ◌*◌}
use Rattle.forms.specs.Numbers.{at}
use Rattle.matrices.specs.Filling.{filled}
use Rattle.matrices.specs.Matrices.{zero_row}
use Rattle.matrices.proofs.loading.field_row.Given as goal

abbrev pub invariant-loop-j : goal.invariant-loop-j
invariant-loop-j l = l.row ≡ filled l.j (λ j. at l.bytes (l.i * l.order.n + j)) zero_row
