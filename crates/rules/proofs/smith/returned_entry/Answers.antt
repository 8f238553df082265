-- D is diagonal, so the entry is one product of polynomials.
use Rattle.std.proofs.Common.{arith}
use Rattle.products.specs.Products.{holding_nothing}
use Rattle.rules.specs.Diagonal.{coefficients_are}
use Rattle.rules.specs.SmithEntries.{returned_entry}
use Rattle.rules.proofs.smith.returned_entry.Goals as goal

pub add_product-requires : goal.add_product-requires
add_product-requires c =
    let f = c.polynomial.ensures in
    record {
      inside = omega (arith, f.long, c.entry.ensures.0);
      long = holding_nothing.long;
      low = λ k. omega (arith, f.long, holding_nothing.each k);
    }

pub returns : goal.returns
returns c =
    let a = c.args in let d = a.d.now in
    returned_entry d.order.n a.i a.j d.bytes.now a.right.now _ _ _ c.requires.0.row (coefficients_are c.polynomial.ensures) c.entry.ensures.1 c.add_product.ensures
