-- The table is filled with the places that the rotation takes.
use Rattle.std.proofs.Common.{◌≡◌}
use Rattle.matrices.specs.Filling.{filled}
use Rattle.matrices.specs.Matrices.{zero_row}
use Rattle.ordering.specs.Rotation.{rotation}
use Rattle.ordering.proofs.turning.rotation_of.Given as goal

abbrev pub invariant-loop-j : goal.invariant-loop-j
invariant-loop-j l = l.r ≡ filled l.j (rotation l.m l.k) zero_row
