-- The coefficients are put as far as the block goes; the others are zero.
use Rattle.std.proofs.Common.{◌-◌, rules, arith}
use Rattle.entries.specs.Entries.{P_inside, P_short}
use Rattle.entries.specs.PutEntries.{coefficients_none, coefficients_more, coefficients_end}
use Rattle.entries.proofs.closed.Reduction.p_entry.Goals as goal

pub loop-row-init : goal.loop-row-init
loop-row-init c = (search rules, coefficients_none _ _ (omega arith))

pub loop-row-preserved : goal.loop-row-preserved
loop-row-preserved c =
    let l = c.loop-row in
    (search rules, coefficients_more _ _ (l.row - c.args.i) l.invariant.1 (P_inside _ _ _ _ l.row (omega arith) (omega arith)) (omega arith) (omega arith) (omega arith))

pub returns : goal.returns
returns c = coefficients_end (c.loop-row.row - c.args.i) c.loop-row.invariant.1 (omega arith) (λ k h. P_short _ _ _ _ k (omega arith))
