-- From the back: the rows from i on have the ends of their blocks, and `next` is that of row i.
use Rattle.std.proofs.Common.{◌≡◌, length, ◌<◌}
use Rattle.forms.specs.Numbers.{order_limit}
use Rattle.heads.specs.Heads.{LastRow, LastRows}
use Rattle.heads.proofs.last_rows.Given as goal

abbrev pub invariant-loop-i : goal.invariant-loop-i
invariant-loop-i l = LastRows l.f l.order.n l.i l.rows × (l.i < l.order.n → LastRow l.f l.order.n l.i l.next) × (length l.rows ≡ order_limit)
