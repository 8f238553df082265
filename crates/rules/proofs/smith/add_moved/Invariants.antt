-- f times row l is added coefficient by coefficient of f, on the diagonal and then along the row of A; a zero coefficient adds nothing.
use Rattle.forms.specs.Numbers.{at}
use Rattle.forms.specs.Matrices.{matrix, characteristic}
use Rattle.products.specs.Sums.{products}
use Rattle.products.specs.Lines.{PlusLine}
use Rattle.rules.proofs.smith.add_moved.Given as goal

abbrev pub invariant-loop-k : goal.invariant-loop-k
invariant-loop-k l = PlusLine l.order.n l.line l.initial.line (λ j. products l.k (at l.f) (characteristic l.m.p (matrix l.order.n l.field) l.l j))
