-- The rows are filled from the front.
use Rattle.std.proofs.Common.{◌≡◌, [], get_or}
use Rattle.matrices.specs.Filling.{filled}
use Rattle.matrices.specs.Matrices.{zero_rows}
use Rattle.matrices.specs.Products.{product_row}
use Rattle.matrices.proofs.product.Given as goal

abbrev pub invariant-loop-i : goal.invariant-loop-i
invariant-loop-i l = l.r ≡ filled l.i (λ i. product_row l.m.p l.order.n (get_or l.a i []) l.b) zero_rows
