-- The first i rows stand at their places.
use Rattle.std.proofs.Common.{◌≡◌, length}
use Rattle.forms.specs.Numbers.{order_limit}
use Rattle.heads.specs.Heads.{others, Ordered}
use Rattle.heads.proofs.order.Given as goal

abbrev pub invariant-loop-i : goal.invariant-loop-i
invariant-loop-i l = (l.passed ≡ others l.f l.i) × Ordered l.f l.fn.order.n l.i l.rows × (length l.rows ≡ order_limit)
