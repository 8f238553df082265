-- Rows and columns are searched up to the first entry that is not that of E.
use Rattle.std.proofs.Common.{◌≡◌, true}
use Rattle.forms.specs.Numbers.{every}
use Rattle.products.specs.Products.{unit_test}
use Rattle.products.proofs.inverse_rule.Given as goal

abbrev pub invariant-loop-j : goal.invariant-loop-j
invariant-loop-j l = every l.j (unit_test l.m.p l.order.n l.left l.right l.i) ≡ true

abbrev pub invariant-loop-i : goal.invariant-loop-i
invariant-loop-i l = every l.i (λ a. every l.order.n (unit_test l.m.p l.order.n l.left l.right a)) ≡ true
