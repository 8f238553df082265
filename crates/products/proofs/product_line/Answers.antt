-- The row is the sum over the inner index, and after l turns each entry the sum of its first l terms.
use Rattle.std.proofs.Common.{rules, arith}
use Rattle.forms.specs.Bounds.{polynomial_matrix_short}
use Rattle.products.specs.Products.{matrix_bytes}
use Rattle.products.specs.Lines.{line_partial_none, line_partial_more, line_partial_all, line_partial_room}
use Rattle.products.proofs.product_line.Goals as goal

pub loop-l-init : goal.loop-l-init
loop-l-init c = line_partial_none _ _ _ _ c.args.order.limited

pub add_product_line-requires : goal.add_product_line-requires
add_product_line-requires c =
    let a = c.args in let l = c.loop-l in
    record {
      row = c.loop-l-test.true;
      left_long = c.entry.ensures.0;
      right_long = search rules;
      has_room = line_partial_room _ _ a.order.n a.i l.l l.line l.invariant (polynomial_matrix_short a.order.n a.left.now)
          (matrix_bytes a.order.n a.left.now (λ k. omega (arith, c.type_inv.left k))) (matrix_bytes a.order.n a.right.now (λ k. omega (arith, c.type_inv.right k))) a.order.limited l.auto.l-end;
    }

pub loop-l-preserved : goal.loop-l-preserved
loop-l-preserved c =
    let a = c.args in let l = c.loop-l in
    line_partial_more _ _ a.order.n a.i l.l l.line l.invariant _ _ c.entry.ensures.1 c.add_product_line.ensures

pub returns : goal.returns
returns c = let a = c.args in let l = c.loop-l in line_partial_all _ _ a.order.n a.i l.l l.line l.invariant l.auto.l-end c.loop-l-test.false
