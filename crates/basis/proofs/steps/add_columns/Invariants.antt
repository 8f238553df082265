-- The rows of B and of T are overwritten with their sums with multiples of v.
use Rattle.std.proofs.Common.{◌≡◌}
use Rattle.basis.specs.Overwriting.{Overwritten}
use Rattle.basis.specs.Steps.{columns_rule}
use Rattle.basis.proofs.steps.add_columns.Given as goal

abbrev pub invariant-loop-i : goal.invariant-loop-i
invariant-loop-i l = Overwritten (columns_rule l.m.p l.a l.v) l.i l.initial.s.b l.s.b × Overwritten (columns_rule l.m.p l.a l.v) l.i l.initial.s.t l.s.t × (l.s.back ≡ l.initial.s.back)
