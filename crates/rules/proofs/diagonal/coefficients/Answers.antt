-- f_i is a row of the payload, and its bytes are its coefficients.
use Rattle.rules.specs.Diagonal.{coefficients_row, coefficients_from}
use Rattle.rules.proofs.diagonal.coefficients.Goals as goal

pub row-requires : goal.row-requires
row-requires c = let a = c.args in coefficients_row a.order.n a.bytes.now a.i c.requires.0 c.requires.1

pub returns : goal.returns
returns c = let a = c.args in rw c.row.ensures (coefficients_from a.order.n a.bytes.now a.i (coefficients_row a.order.n a.bytes.now a.i c.requires.0 c.requires.1))
