-- The rows of B and of the inverse are overwritten with their sums with multiples of one row; the multiple 0 leaves its row.
use Rattle.std.proofs.Common.{◌≡◌}
use Rattle.basis.specs.Overwriting.{Overwritten}
use Rattle.basis.specs.Steps.{rows_rule}
use Rattle.basis.proofs.steps.add_rows.Given as goal

abbrev pub invariant-loop-i : goal.invariant-loop-i
invariant-loop-i l = Overwritten (rows_rule l.m.p l.c l.x) l.i l.initial.s.b l.s.b × Overwritten (rows_rule l.m.p l.c l.y) l.i l.initial.s.back l.s.back × (l.s.t ≡ l.initial.s.t)
