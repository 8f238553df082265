-- The first c entries are put, and zeros for the others.
use Rattle.std.proofs.Common.{arith}
use Rattle.entries.specs.PutEntries.{line_start, line_turn, line_end}
use Rattle.payloads.proofs.put_line.Goals as goal

pub loop-c-init : goal.loop-c-init
loop-c-init c = line_start _ _ _ _ c.requires.1 (omega arith) (c.fill.ensures.after (λ y h. h))

pub loop-c-preserved : goal.loop-c-preserved
loop-c-preserved c = line_turn _ _ _ _ c.requires.1 c.loop-c-test.true c.loop-c.invariant (omega arith) c.closed_entry.auto.entry c.closed_entry.ensures

pub returns : goal.returns
returns c = line_end _ _ _ _ c.requires.1 c.loop-c.auto.c-end c.loop-c-test.false c.loop-c.invariant
