-- The sum is at most 255 * 255 for each turn, so that it fits.
use Rattle.std.proofs.Common.{◌≤◌, ◌*◌, ◌≡◌, get_or}
use Rattle.forms.specs.Numbers.{total}
use Rattle.matrices.specs.Matrices.{cell}
use Rattle.matrices.proofs.inner_product.Given as goal

abbrev pub invariant-loop-k : goal.invariant-loop-k
invariant-loop-k l = (l.sum ≤ 65025 * l.k) × (l.sum ≡ total l.k (λ k. get_or l.v k 0 * cell l.b k l.j))
