-- The row is filled from the front.
use Rattle.std.proofs.Common.{rules}
use Rattle.matrices.specs.Filling.{fill_start, fill_turn}
use Rattle.matrices.proofs.product_row.Goals as goal

pub loop-j-init : goal.loop-j-init
loop-j-init c = fill_start _ _

pub loop-j-preserved : goal.loop-j-preserved
loop-j-preserved c = fill_turn _ _ _ (search rules) c.loop-j.invariant c.inner_product.ensures
