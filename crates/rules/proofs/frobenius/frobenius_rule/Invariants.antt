-- Rows and columns are searched up to the first entry that is not that of the form.
use Rattle.std.proofs.Common.{◌≡◌, true}
use Rattle.forms.specs.Numbers.{every}
use Rattle.rules.specs.FrobeniusSearch.{built_test}
use Rattle.rules.proofs.frobenius.frobenius_rule.Given as goal

abbrev pub invariant-loop-j : goal.invariant-loop-j
invariant-loop-j l = every l.j (built_test l.m.p l.d.order.n l.d.bytes.now l.field l.i) ≡ true

abbrev pub invariant-loop-i : goal.invariant-loop-i
invariant-loop-i l = every l.i (λ a. every l.d.order.n (built_test l.m.p l.d.order.n l.d.bytes.now l.field a)) ≡ true
