-- The loop: the first k records refuse nothing, and the cursor stands where record k starts.
use Rattle.std.proofs.Common.{◌≡◌}
use Rattle.forms.specs.Numbers.{at}
use Rattle.forms.specs.Answers.{fine, each}
use Rattle.forms.specs.Certificate.{offset}
use Rattle.forms.specs.Reading.{record_asked}
use Rattle.certificate.proofs.reading.read_records.Given as goal

abbrev pub invariant-loop-record : goal.invariant-loop-record
invariant-loop-record l =
    (l.c.at ≡ offset (at l.s 5) l.record-index) × (each l.record-index (record_asked (at l.s 4) (at l.s 5) l.s) ≡ fine)
