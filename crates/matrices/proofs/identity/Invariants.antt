-- The rows are filled from the front.
use Rattle.std.proofs.Common.{◌≡◌}
use Rattle.matrices.specs.Filling.{filled}
use Rattle.matrices.specs.Matrices.{zero_rows}
use Rattle.matrices.specs.Rows.{unit_row}
use Rattle.matrices.proofs.identity.Given as goal

abbrev pub invariant-loop-i : goal.invariant-loop-i
invariant-loop-i l = l.e ≡ filled l.i unit_row zero_rows
