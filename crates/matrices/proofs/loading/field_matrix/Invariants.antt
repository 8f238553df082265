-- The rows are filled from the front.
use Rattle.std.proofs.Common.{◌≡◌, ◌+◌, ◌*◌}
use Rattle.forms.specs.Numbers.{at}
use Rattle.matrices.specs.Filling.{filled}
use Rattle.matrices.specs.Matrices.{zero_row, zero_rows}
use Rattle.matrices.proofs.loading.field_matrix.Given as goal

abbrev pub invariant-loop-i : goal.invariant-loop-i
invariant-loop-i l = l.m ≡ filled l.i (λ i. filled l.order.n (λ j. at l.bytes (i * l.order.n + j)) zero_row) zero_rows
