-- The row is the sum over the inner index, and after l turns each entry the sum of its first l terms.
use Rattle.forms.specs.Matrices.{matrix, polynomial_matrix, characteristic}
use Rattle.products.specs.Products.{partial}
use Rattle.products.specs.Lines.{HoldingLine}
use Rattle.rules.proofs.smith.moved_line.Given as goal

abbrev pub invariant-loop-l : goal.invariant-loop-l
invariant-loop-l l = HoldingLine l.order.n l.line (partial l.l (polynomial_matrix l.order.n l.left) (characteristic l.m.p (matrix l.order.n l.field)) l.i)
