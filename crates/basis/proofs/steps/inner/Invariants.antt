-- The loop adds up products of two bytes, at most twelve of them.
use Rattle.std.proofs.Common.{◌≤◌, ◌*◌, ◌≡◌, get_or}
use Rattle.forms.specs.Numbers.{total}
use Rattle.basis.proofs.steps.inner.Given as goal

abbrev pub invariant-loop-k : goal.invariant-loop-k
invariant-loop-k l = (l.sum ≤ 65025 * l.k) × (l.sum ≡ total l.k (λ k. get_or l.x k 0 * get_or l.y k 0))
