-- The loop: the first r rows of n entries are put.
use Rattle.forms.specs.Certificate.{joined}
use Rattle.forms.specs.Listed.{listed}
use Rattle.writing.specs.Put.{Puts}
use Rattle.entries.specs.Coefficients.{closed_entry}
use Rattle.payloads.proofs.put_polynomials.Given as goal

abbrev pub invariant-loop-r : goal.invariant-loop-r
invariant-loop-r l = Puts l.at (joined l.r (λ r. joined l.form.order.n (λ c. listed l.form.order.n (closed_entry l.form.modulus.p l.form.state.now l.form.from l.form.last l.factor r c)))) l.initial.out l.out l.next
