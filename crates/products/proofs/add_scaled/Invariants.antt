-- The multiple is added coefficient by coefficient from the front, and no sum overflows.
use Rattle.std.proofs.Common.{◌*◌}
use Rattle.forms.specs.Numbers.{at}
use Rattle.products.specs.Sums.{first, shifted, Plus}
use Rattle.products.proofs.add_scaled.Given as goal

abbrev pub invariant-loop-k : goal.invariant-loop-k
invariant-loop-k l = Plus l.sums l.initial.sums (λ j. l.x * shifted l.shift (first l.k (at l.g)) j)
