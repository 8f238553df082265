-- The loop: the first k coefficients are filled in.
use Rattle.std.proofs.Common.{rules}
use Rattle.matrices.specs.Filling.{fill_start, fill_turn, fill_end}
use Rattle.entries.specs.Coefficients.{D_entry}
use Rattle.entries.proofs.closed.Reduction.d_entry.Goals as goal

pub loop-k-init : goal.loop-k-init
loop-k-init c = fill_start _ _

pub loop-k-preserved : goal.loop-k-preserved
loop-k-preserved c = fill_turn _ _ _ (search rules) c.loop-k.invariant c.d_coefficient.ensures

pub returns : goal.returns
unfolding D_entry
returns c = rw (c.from-end.ensures, c.from-i.ensures) at (fill_end _ _ c.loop-k.invariant c.loop-k.auto.k-end c.loop-k-test.false)
