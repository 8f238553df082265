-- The loop: the first i bytes are residues.
use Rattle.std.proofs.Common.{◌≡◌, ◌-◌, ◌≤◌}
use Rattle.forms.specs.Answers.{fine}
use Rattle.certificate.specs.ReadRecords.{residues_asked}
use Rattle.certificate.proofs.reading.read_residues.Given as goal

abbrev pub invariant-loop-i : goal.invariant-loop-i
invariant-loop-i l = (l.i ≤ l.size) × (residues_asked l.p l.start l.i l.s ≡ fine)

abbrev pub decreases-loop-i : goal.decreases-loop-i
decreases-loop-i l = l.size - l.i
