-- A constant where the row begins a block or the last row of its block has a zero, and else the multiples.
use Rattle.std.proofs.Common.{arith, sym, ◌∙◌}
use Rattle.heads.specs.Heads.{begins_not_first}
use Rattle.entries.specs.Entries.{QI_head_first, QI_head_short, QI_zero_first, QI_zero_short}
use Rattle.entries.specs.PutEntries.{one_coefficient}
use Rattle.entries.proofs.closed.Reduction.qi_entry.Goals as goal

pub returns-then-is_head : goal.returns-then-is_head
returns-then-is_head c = let head = sym c.is_head.ensures ∙ c.if-is_head.true in one_coefficient (QI_head_first _ _ _ _ _ _ head) (omega arith) (QI_head_short _ _ _ _ _ _ head)

pub overflow_sub-i : goal.overflow_sub-i
overflow_sub-i c = omega (arith, begins_not_first _ _ (sym c.is_head.ensures ∙ c.if-is_head.false))

pub returns-then-ti-end-eq0 : goal.returns-then-ti-end-eq0
returns-then-ti-end-eq0 c = let other = sym c.is_head.ensures ∙ c.if-is_head.false in one_coefficient (c.opposite.ensures ∙ QI_zero_first _ _ _ _ _ _ other c.if-ti-end-eq0.true) (omega arith) (QI_zero_short _ _ _ _ _ _ other c.if-ti-end-eq0.true)
