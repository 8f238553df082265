-- The rows are filled from the front.
use Rattle.std.proofs.Common.{rules}
use Rattle.matrices.specs.Filling.{fill_start, fill_turn, fill_end}
use Rattle.matrices.specs.Matrices.{zero_rows}
use Rattle.matrices.specs.Products.{product_multiplies}
use Rattle.matrices.proofs.product.Goals as goal

pub loop-i-init : goal.loop-i-init
loop-i-init c = fill_start zero_rows _

pub loop-i-preserved : goal.loop-i-preserved
loop-i-preserved c = fill_turn _ _ _ (search rules) c.loop-i.invariant c.product_row.ensures

pub returns : goal.returns
returns c = product_multiplies _ _ _ _ _ (search rules) (fill_end _ _ c.loop-i.invariant c.loop-i.auto.i-end c.loop-i-test.false)
