-- The loop: the first records are put, and `at` is where the next one starts.
use Rattle.std.proofs.Common.{◌≡◌}
use Rattle.forms.specs.Certificate.{offset}
use Rattle.writing.specs.Written.{RecordsPut}
use Rattle.payloads.specs.Written.{certificate_of}
use Rattle.payloads.proofs.put_records.Given as goal

abbrev pub invariant-loop-kind : goal.invariant-loop-kind
invariant-loop-kind l = (l.at ≡ offset l.form.order.n l.kind-index) × RecordsPut (certificate_of l.form l.matrix) l.kind-index l.initial.out l.out
