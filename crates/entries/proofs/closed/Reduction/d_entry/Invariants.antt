-- The loop: the first k coefficients are filled in.
use Rattle.std.proofs.Common.{◌≡◌}
use Rattle.matrices.specs.Filling.{filled}
use Rattle.entries.specs.Coefficients.{D_coefficient, zero_entry}
use Rattle.entries.proofs.closed.Reduction.d_entry.Given as goal

abbrev pub invariant-loop-k : goal.invariant-loop-k
invariant-loop-k l = l.e ≡ filled l.k (D_coefficient l.self.modulus.p l.self.state.now.b l.i l.end) zero_entry
