-- The first c entries are put, and zeros for the others.
use Rattle.std.proofs.Common.{◌≡◌}
use Rattle.writing.specs.Put.{put}
use Rattle.entries.specs.Coefficients.{closed_entry}
use Rattle.entries.specs.PutEntries.{line}
use Rattle.payloads.proofs.put_line.Given as goal

abbrev pub invariant-loop-c : goal.invariant-loop-c
invariant-loop-c l = l.out ≡ put l.fn.out l.at (line l.form.order.n (closed_entry l.form.modulus.p l.form.state.now l.form.from l.form.last l.fn.factor l.r) l.c)
