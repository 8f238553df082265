-- The rows are overwritten: two entries of each are exchanged.
use Rattle.std.specs.List.{swap}
use Rattle.std.proofs.Common.{◌≡◌, ◌++◌, [], get_or, drop}
use Rattle.matrices.specs.Filling.{filled}
use Rattle.ordering.proofs.exchange.exchange_columns.Given as goal

abbrev pub invariant-loop-row : goal.invariant-loop-row
invariant-loop-row l = l.row-items ++ drop l.fn.order.n l.fn.x ≡ filled l.row-index (λ i. swap (get_or l.fn.x i []) l.a l.b) l.fn.x
