-- Row 0 begins a block; of the others the definition asks what the code asks.
use Rattle.std.proofs.Common.{sym, ◌∙◌, eq-eqb}
use Rattle.heads.specs.Heads.{begins_first, begins_later}
use Rattle.heads.proofs.is_head.Goals as goal

pub returns-then-i-eq0 : goal.returns-then-i-eq0
returns-then-i-eq0 c = let e = c.if-i-eq0.true in eq-eqb _ _ e ∙ sym (begins_first _ _ e)

pub returns-else-i-eq0 : goal.returns-else-i-eq0
returns-else-i-eq0 c = sym (begins_later _ _ c.if-i-eq0.false)
