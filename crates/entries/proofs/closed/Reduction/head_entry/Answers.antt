-- The sums are put as far as the block goes; the others are zero.
use Rattle.std.proofs.Common.{◌-◌, rules, arith}
use Rattle.entries.specs.Entries.{head_sum_short}
use Rattle.entries.specs.PutEntries.{coefficients_none, coefficients_more, coefficients_end}
use Rattle.entries.proofs.closed.Reduction.head_entry.Goals as goal

pub loop-row-init : goal.loop-row-init
loop-row-init c = (search rules, coefficients_none _ _ (omega arith))

pub loop-row-preserved : goal.loop-row-preserved
loop-row-preserved c = (search rules, coefficients_more _ _ (c.loop-row.row - c.args.i) c.loop-row.invariant.1 c.head_sum.ensures (omega arith) (omega arith) (omega arith))

pub returns : goal.returns
returns c = coefficients_end (c.loop-row.row - c.args.i) c.loop-row.invariant.1 (omega arith) (λ k h. head_sum_short _ _ _ _ _ _ k (omega arith))
