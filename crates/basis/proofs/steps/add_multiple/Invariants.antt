-- The row is filled with the sums of the entries.
use Rattle.std.proofs.Common.{◌+◌, ◌*◌, ◌%◌, ◌≡◌, get_or}
use Rattle.matrices.specs.Filling.{filled}
use Rattle.matrices.specs.Matrices.{zero_row}
use Rattle.basis.proofs.steps.add_multiple.Given as goal

abbrev pub invariant-loop-j : goal.invariant-loop-j
invariant-loop-j l = l.r ≡ filled l.j (λ j. (get_or l.x j 0 + l.k * get_or l.y j 0) % l.m.p) zero_row
