-- f g is summed coefficient by coefficient of f; a zero coefficient adds nothing.
use Rattle.forms.specs.Numbers.{at}
use Rattle.products.specs.Sums.{Plus, products}
use Rattle.products.proofs.add_product.Given as goal

abbrev pub invariant-loop-k : goal.invariant-loop-k
invariant-loop-k l = Plus l.sums l.initial.sums (products l.k (at l.f) (at l.g))
