-- The list with two entries exchanged has the rows in the exchanged order.
use Rattle.std.proofs.Common.{rules}
use Rattle.matrices.proofs.Shapes.{square}
use Rattle.ordering.specs.Orders.{exchanged_rows}
use Rattle.ordering.proofs.exchange.exchange_rows.Goals as goal

pub returns : goal.returns
returns c = exchanged_rows _ _ _ (search rules) (search rules) (search rules) c.args.x _ (square c.args.x _ c.well_formed.0.1.0.1 c.well_formed.0.1.1) c.swap.ensures.after
