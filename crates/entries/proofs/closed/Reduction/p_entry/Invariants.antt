-- The coefficients are put as far as the block goes; the others are zero.
use Rattle.std.proofs.Common.{◌≡◌, ◌-◌, ◌≤◌}
use Rattle.matrices.specs.Filling.{filled}
use Rattle.entries.specs.Coefficients.{P_coefficient}
use Rattle.entries.proofs.closed.Reduction.p_entry.Given as goal

abbrev pub invariant-loop-row : goal.invariant-loop-row
invariant-loop-row l = (l.row ≤ l.self.order.n) × (l.entry ≡ filled (l.row - l.i) (P_coefficient l.self.state.now.back l.end l.i l.c) l.initial.entry)
