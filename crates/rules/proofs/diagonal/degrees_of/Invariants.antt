-- The degrees are filled in from the front.
use Rattle.std.proofs.Common.{◌≡◌, replicate}
use Rattle.forms.specs.Numbers.{order_limit}
use Rattle.forms.specs.Polynomials.{degree}
use Rattle.forms.specs.Matrices.{diagonal}
use Rattle.matrices.specs.Filling.{filled}
use Rattle.rules.proofs.diagonal.degrees_of.Given as goal

abbrev pub invariant-loop-i : goal.invariant-loop-i
invariant-loop-i l = l.degrees ≡ filled l.i (λ k. degree l.order.n (diagonal l.order.n l.bytes k)) (replicate order_limit 0)
