-- The multiple of row l is added entry by entry from the front.
use Rattle.std.proofs.Common.{◌*◌}
use Rattle.forms.specs.Matrices.{polynomial_matrix}
use Rattle.products.specs.Sums.{shifted}
use Rattle.products.specs.Lines.{PlusLine}
use Rattle.products.proofs.add_scaled_line.Given as goal

abbrev pub invariant-loop-j : goal.invariant-loop-j
invariant-loop-j l = PlusLine l.j l.line l.initial.line (λ m k. l.x * shifted l.shift (polynomial_matrix l.order.n l.right l.l m) k)
