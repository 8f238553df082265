-- One entry of each row of B and of T is overwritten with that of B w and T w.
use Rattle.std.proofs.Common.{◌≡◌}
use Rattle.basis.specs.Overwriting.{Overwritten}
use Rattle.basis.specs.Steps.{column_rule}
use Rattle.basis.proofs.steps.set_columns.Given as goal

abbrev pub invariant-loop-i : goal.invariant-loop-i
invariant-loop-i l = Overwritten (column_rule l.m.p l.at l.w) l.i l.initial.s.b l.s.b × Overwritten (column_rule l.m.p l.at l.w) l.i l.initial.s.t l.s.t × (l.s.back ≡ l.initial.s.back)
