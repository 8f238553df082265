-- The sums are put as far as the block goes; the others are zero.
use Rattle.std.proofs.Common.{◌≡◌, ◌-◌, ◌≤◌}
use Rattle.matrices.specs.Filling.{filled}
use Rattle.entries.specs.Coefficients.{head_sum}
use Rattle.entries.proofs.closed.Reduction.head_entry.Given as goal

abbrev pub invariant-loop-row : goal.invariant-loop-row
invariant-loop-row l = (l.row ≤ l.self.order.n) × (l.entry ≡ filled (l.row - l.i) (head_sum l.self.modulus.p l.self.state.now.b l.self.state.now.t l.end l.r l.i) l.initial.entry)
