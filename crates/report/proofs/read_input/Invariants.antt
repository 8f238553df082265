-- The bytes that are read stand at the front of the buffer, which keeps its length.
use Rattle.std.proofs.Common.{length, ◌-◌, ◌≤◌}
use Rattle.report.proofs.read_input.Given as goal

abbrev pub invariant-loop-count : goal.invariant-loop-count
invariant-loop-count g l = l.count ≤ length l.buffer

abbrev pub decreases-loop-count : goal.decreases-loop-count
decreases-loop-count g l = length l.initial.buffer - l.count
