-- The row is filled with the sums of the entries.
use Rattle.std.proofs.Common.{rules}
use Rattle.matrices.specs.Filling.{fill_start, fill_turn}
use Rattle.basis.proofs.steps.add_multiple.Goals as goal

pub loop-j-init : goal.loop-j-init
loop-j-init c = fill_start _ _

pub loop-j-preserved : goal.loop-j-preserved
loop-j-preserved c = fill_turn _ _ _ (search rules) c.loop-j.invariant c.plus_multiple.ensures
