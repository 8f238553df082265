-- The multiples of the polynomial's coefficients, the first with the entry before it, and the leading one last.
use Rattle.std.proofs.Common.{◌≡◌, cond, ◌-◌, ◌≤◌, eqb}
use Rattle.matrices.specs.Matrices.{cell}
use Rattle.matrices.specs.Filling.{filled}
use Rattle.entries.specs.Coefficients.{QI_coefficient}
use Rattle.entries.proofs.closed.Reduction.multiple_entry.Given as goal

abbrev pub invariant-loop-row : goal.invariant-loop-row
invariant-loop-row l = (l.more ≤ 255) × (l.more ≡ cond (eqb (l.row - l.i) 0) (l.self.modulus.p - cell l.self.state.now.back (l.i - 1) l.c) 0) × (l.entry ≡ filled (l.row - l.i) (QI_coefficient l.self.modulus.p l.f l.self.state.now.back l.end l.i l.c) l.initial.entry)
