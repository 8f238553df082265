-- The row is filled with the entries of the column.
use Rattle.std.proofs.Common.{refl, rules}
use Rattle.matrices.specs.Filling.{fill_start, fill_turn}
use Rattle.basis.proofs.steps.column.Goals as goal

pub loop-i-init : goal.loop-i-init
loop-i-init c = fill_start _ _

pub loop-i-preserved : goal.loop-i-preserved
loop-i-preserved c = fill_turn _ _ _ (search rules) c.loop-i.invariant refl
