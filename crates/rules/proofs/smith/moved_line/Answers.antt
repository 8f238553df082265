-- The row is the sum over the inner index, and after l turns each entry the sum of its first l terms.
use Rattle.std.proofs.Common.{arith}
use Rattle.forms.specs.Matrices.{matrix}
use Rattle.forms.specs.Bounds.{polynomial_matrix_short}
use Rattle.products.specs.Products.{matrix_bytes}
use Rattle.products.specs.Lines.{line_partial_none, line_partial_more, line_partial_all, line_partial_room}
use Rattle.rules.specs.Moved.{characteristic_bytes}
use Rattle.rules.proofs.smith.moved_line.Goals as goal

pub loop-l-init : goal.loop-l-init
loop-l-init c = line_partial_none _ _ _ _ c.args.order.limited

pub add_moved-requires : goal.add_moved-requires
add_moved-requires c =
    let h = c.requires in let a = c.args in let l = c.loop-l in
    record {
      payload = h.payload;
      row = c.loop-l-test.true;
      left_long = c.entry.ensures.0;
      has_room = line_partial_room _ _ a.order.n a.i l.l l.line l.invariant (polynomial_matrix_short a.order.n a.left.now)
          (matrix_bytes a.order.n a.left.now (λ k. omega (arith, c.type_inv.left k))) (characteristic_bytes a.m.p (matrix a.order.n a.field.now) (omega arith)) a.order.limited l.auto.l-end;
    }

pub loop-l-preserved : goal.loop-l-preserved
loop-l-preserved c =
    let a = c.args in let l = c.loop-l in
    line_partial_more _ _ a.order.n a.i l.l l.line l.invariant _ _ c.entry.ensures.1 c.add_moved.ensures

pub returns : goal.returns
returns c = let a = c.args in let l = c.loop-l in line_partial_all _ _ a.order.n a.i l.l l.line l.invariant l.auto.l-end c.loop-l-test.false
