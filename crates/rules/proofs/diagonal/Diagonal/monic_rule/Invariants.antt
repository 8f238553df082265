-- Each f_i is tested at its degree, up to the first that is not monic.
use Rattle.std.proofs.Common.{◌≡◌, true}
use Rattle.forms.specs.Numbers.{every}
use Rattle.forms.specs.Polynomials.{monic}
use Rattle.forms.specs.Matrices.{diagonal}
use Rattle.rules.proofs.diagonal.Diagonal.monic_rule.Given as goal

abbrev pub invariant-loop-i : goal.invariant-loop-i
invariant-loop-i l = every l.i (λ k. monic l.self.order.n (diagonal l.self.order.n l.self.bytes.now k)) ≡ true
