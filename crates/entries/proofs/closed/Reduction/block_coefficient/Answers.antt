-- The three cases of the definition.
use Rattle.std.proofs.Common.{le-leb, eq-eqb, ne_eqb}
use borrow.Author.Tests.{lt-leb}
use Rattle.entries.specs.Coefficients.{block_coefficient}
use Rattle.entries.proofs.closed.Reduction.block_coefficient.Goals as goal

pub returns-then-j-end : goal.returns-then-j-end
unfolding block_coefficient
returns-then-j-end c = simp (le-leb _ _ c.if-j-end.true) c.opposite.ensures

pub returns-then-j-end-2 : goal.returns-then-j-end-2
unfolding block_coefficient
returns-then-j-end-2 c = simp (lt-leb _ _ c.if-j-end.false, eq-eqb _ _ c.if-j-end-2.true)

pub returns : goal.returns
unfolding block_coefficient
returns c = simp (lt-leb _ _ c.if-j-end.false, ne_eqb _ _ c.if-j-end-2.false)
