-- The loop: the first b entries of D are put.
use Rattle.std.proofs.Common.{◌+◌}
use Rattle.forms.specs.Certificate.{joined}
use Rattle.forms.specs.Listed.{listed}
use Rattle.writing.specs.Put.{Puts}
use Rattle.entries.specs.Coefficients.{D_entry}
use Rattle.payloads.proofs.put_diagonal.Given as goal

abbrev pub invariant-loop-b : goal.invariant-loop-b
invariant-loop-b l = Puts l.at (joined l.b (λ b. listed (l.form.order.n + 1) (D_entry l.form.modulus.p l.form.state.now.b l.form.from l.form.last b))) l.initial.out l.out l.next
