-- The entry is a row of the payload, and its bytes are its coefficients.
use Rattle.products.specs.Products.{entry_row, entry_coefficients}
use Rattle.products.proofs.entry.Goals as goal

pub row-requires : goal.row-requires
row-requires c = let a = c.args in entry_row a.order.n a.i a.j a.bytes.now c.requires.0 c.requires.1

pub returns : goal.returns
returns c = let a = c.args in rw c.row.ensures (entry_coefficients a.order.n a.i a.j a.bytes.now c.requires.0 c.requires.1)
