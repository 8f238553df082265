-- The cases of the definition.
use Rattle.std.proofs.Common.{sym, ◌∙◌, eq-eqb, ne_eqb}
use Rattle.entries.specs.Coefficients.{D_coefficient}
use Rattle.entries.proofs.closed.Reduction.d_coefficient.Goals as goal

pub returns-then-is_head : goal.returns-then-is_head
unfolding D_coefficient
returns-then-is_head c = rw (sym c.is_head.ensures ∙ c.if-is_head.true) c.block_coefficient.ensures

pub returns-then-k-eq0 : goal.returns-then-k-eq0
unfolding D_coefficient
returns-then-k-eq0 c = rw (sym c.is_head.ensures ∙ c.if-is_head.false, eq-eqb _ _ c.if-k-eq0.true)

pub returns : goal.returns
unfolding D_coefficient
returns c = rw (sym c.is_head.ensures ∙ c.if-is_head.false, ne_eqb _ _ c.if-k-eq0.false)
