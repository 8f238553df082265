-- The row is filled with the entries of the column.
use Rattle.std.proofs.Common.{◌≡◌}
use Rattle.matrices.specs.Filling.{filled}
use Rattle.matrices.specs.Matrices.{cell, zero_row}
use Rattle.basis.proofs.steps.column.Given as goal

abbrev pub invariant-loop-i : goal.invariant-loop-i
invariant-loop-i l = l.r ≡ filled l.i (λ i. cell l.b i l.j) zero_row
