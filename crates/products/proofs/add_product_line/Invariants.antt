-- f times row l is added coefficient by coefficient of f; a zero coefficient adds nothing.
use Rattle.forms.specs.Numbers.{at}
use Rattle.forms.specs.Matrices.{polynomial_matrix}
use Rattle.products.specs.Sums.{products}
use Rattle.products.specs.Lines.{PlusLine}
use Rattle.products.proofs.add_product_line.Given as goal

abbrev pub invariant-loop-k : goal.invariant-loop-k
invariant-loop-k l = PlusLine l.order.n l.line l.initial.line (λ j. products l.k (at l.f) (polynomial_matrix l.order.n l.right l.l j))
