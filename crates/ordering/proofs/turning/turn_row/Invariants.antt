-- The row is filled with the entries at the places of the table.
use Rattle.std.proofs.Common.{◌≡◌, get_or}
use Rattle.matrices.specs.Filling.{filled}
use Rattle.matrices.specs.Matrices.{zero_row}
use Rattle.ordering.specs.Turning.{place}
use Rattle.ordering.proofs.turning.turn_row.Given as goal

abbrev pub invariant-loop-j : goal.invariant-loop-j
invariant-loop-j l = l.r ≡ filled l.j (λ j. get_or l.x (place l.q j) 0) zero_row
