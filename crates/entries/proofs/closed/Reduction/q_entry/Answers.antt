-- The sums where the row begins a block, and else a constant.
use Rattle.std.proofs.Common.{arith, sym, ◌∙◌}
use Rattle.heads.specs.Heads.{begins_not_first}
use Rattle.entries.specs.Entries.{Q_head, Q_first, Q_short}
use Rattle.entries.specs.PutEntries.{one_coefficient}
use Rattle.entries.proofs.closed.Reduction.q_entry.Goals as goal

pub returns-then-is_head : goal.returns-then-is_head
returns-then-is_head c = rw (← Q_head _ _ _ c.args.end c.args.r c.args.i (sym c.is_head.ensures ∙ c.if-is_head.true)) c.head_entry.ensures

pub overflow_sub-i : goal.overflow_sub-i
overflow_sub-i c = omega (arith, begins_not_first _ _ (sym c.is_head.ensures ∙ c.if-is_head.false))

pub returns : goal.returns
returns c = one_coefficient (c.opposite.ensures ∙ Q_first _ _ _ _ _ _ (sym c.is_head.ensures ∙ c.if-is_head.false)) (omega arith) (Q_short _ _ _ _ _ _ (sym c.is_head.ensures ∙ c.if-is_head.false))
