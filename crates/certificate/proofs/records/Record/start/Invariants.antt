-- The loop: start is where the record of this index starts.
use Rattle.std.proofs.Common.{◌≡◌}
use Rattle.forms.specs.Certificate.{offset}
use Rattle.certificate.proofs.records.Record.start.Given as goal

abbrev pub invariant-loop-record : goal.invariant-loop-record
invariant-loop-record l = l.start ≡ offset l.n l.record-index
