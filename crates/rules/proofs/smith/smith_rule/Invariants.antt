-- Rows and columns are searched up to the first entry that differs.
use Rattle.std.proofs.Common.{◌≡◌, true}
use Rattle.forms.specs.Numbers.{every}
use Rattle.rules.specs.SmithEntries.{smith_entry_test}
use Rattle.rules.proofs.smith.smith_rule.Given as goal

abbrev pub invariant-loop-j : goal.invariant-loop-j
invariant-loop-j l = every l.j (smith_entry_test l.m.p l.d.order.n l.left l.field l.d.bytes.now l.right l.i) ≡ true

abbrev pub invariant-loop-i : goal.invariant-loop-i
invariant-loop-i l = every l.i (λ a. every l.d.order.n (smith_entry_test l.m.p l.d.order.n l.left l.field l.d.bytes.now l.right a)) ≡ true
