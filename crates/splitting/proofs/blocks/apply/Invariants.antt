-- The row is filled with the entries of b g.
use Rattle.std.proofs.Common.{◌≡◌, [], get_or}
use Rattle.matrices.specs.Filling.{filled}
use Rattle.matrices.specs.Matrices.{zero_row}
use Rattle.basis.specs.Steps.{entry_of}
use Rattle.splitting.proofs.blocks.apply.Given as goal

abbrev pub invariant-loop-i : goal.invariant-loop-i
invariant-loop-i l = l.r ≡ filled l.i (λ i. entry_of l.modulus.p l.fn.order.n (get_or l.b i []) l.g) zero_row
