-- The first n entries of the row are the listing.
use Rattle.std.proofs.Common.{length-take-le, arith}
use Rattle.writing.specs.Put.{puts_bytes}
use Rattle.entries.specs.Listing.{taken_listed}
use Rattle.payloads.proofs.put_row.Goals as goal

pub returns : goal.returns
returns c = puts_bytes (taken_listed c.args.order.n _ (length-take-le _ _ (omega arith))) c.put_bytes.ensures
