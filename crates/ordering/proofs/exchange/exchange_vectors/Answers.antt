-- Columns and rows of B, columns of T and rows of the inverse are exchanged.
use Rattle.std.proofs.Common.{rules}
use Rattle.ordering.specs.Exchange.{exchange_below}
use Rattle.ordering.specs.Orders.{columns_then_rows, in_order}
use Rattle.ordering.proofs.exchange.exchange_vectors.Goals as goal

pub returns : goal.returns
returns c =
    let a = c.args in
    let inside = exchange_below a.order.n a.a a.b (search rules) (search rules) in
    in_order _ _ inside a.s _ (columns_then_rows _ _ inside _ _ c.exchange_rows.result c.exchange_columns.ensures c.exchange_rows.ensures) c.exchange_columns-2.ensures c.exchange_rows-2.ensures
