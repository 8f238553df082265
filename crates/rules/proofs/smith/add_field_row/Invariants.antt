-- One coefficient of each entry is added to, from the front, and no sum overflows.
use Rattle.forms.specs.Matrices.{matrix}
use Rattle.products.specs.Lines.{PlusLine}
use Rattle.rules.specs.Moved.{field_term}
use Rattle.rules.proofs.smith.add_field_row.Given as goal

abbrev pub invariant-loop-j : goal.invariant-loop-j
invariant-loop-j l = PlusLine l.j l.line l.initial.line (field_term l.fn.m.p (matrix l.order.n l.field) l.x l.k l.l)
