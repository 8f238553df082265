-- Each f_i is tested against the next, up to the first that does not divide it.
use Rattle.std.proofs.Common.{◌≡◌, true, suc}
use Rattle.forms.specs.Numbers.{every}
use Rattle.forms.specs.Polynomials.{divides}
use Rattle.forms.specs.Matrices.{diagonal}
use Rattle.rules.proofs.diagonal.Diagonal.chain_rule.Given as goal

abbrev pub invariant-loop-i : goal.invariant-loop-i
invariant-loop-i l = every l.i (λ k. divides l.m.p l.self.order.n (diagonal l.self.order.n l.self.bytes.now k) (diagonal l.self.order.n l.self.bytes.now (suc k))) ≡ true
