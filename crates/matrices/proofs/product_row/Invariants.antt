-- The row is filled from the front.
use Rattle.std.proofs.Common.{◌*◌, ◌%◌, ◌≡◌, get_or}
use Rattle.forms.specs.Numbers.{total}
use Rattle.matrices.specs.Filling.{filled}
use Rattle.matrices.specs.Matrices.{cell, zero_row}
use Rattle.matrices.proofs.product_row.Given as goal

abbrev pub invariant-loop-j : goal.invariant-loop-j
invariant-loop-j l = l.r ≡ filled l.j (λ j. total l.order.n (λ k. get_or l.v k 0 * cell l.b k j) % l.m.p) zero_row
