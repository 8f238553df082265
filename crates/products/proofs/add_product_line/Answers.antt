-- f times row l is added coefficient by coefficient of f; a zero coefficient adds nothing.
use Rattle.std.proofs.Common.{◌<◌, arith}
use Rattle.forms.specs.Numbers.{at}
use Rattle.forms.specs.Matrices.{polynomial_matrix}
use Rattle.products.specs.Sums.{list_short}
use Rattle.products.specs.Products.{matrix_bytes}
use Rattle.products.specs.Lines.{line_products_none, line_products_more, line_products_skip, line_products_room, line_products_all}
use Rattle.products.proofs.add_product_line.Goals as goal
use Rattle.products.proofs.add_product_line.Goals.{then-x-ne0, else-x-ne0}

pub loop-k-init : goal.loop-k-init
loop-k-init c = line_products_none _ _ _ _

pub add_scaled_line-requires : goal.add_scaled_line-requires
add_scaled_line-requires c =
    let h = c.requires in let a = c.args in let l = c.loop-k in
    let inside : l.k < a.order.n = omega (arith, h.left_long, c.loop-k-test.true) in
    record {
      byte = omega (arith, c.from.ensures, c.type_inv.f l.k);
      inside = inside;
      row = h.row;
      right_long = h.right_long;
      has_room = line_products_room a.order.n _ _ l.k a.line.now l.line l.invariant (λ i. omega (arith, c.type_inv.f i)) (matrix_bytes a.order.n a.right.now (λ i. omega (arith, c.type_inv.right i)) a.l) inside h.has_room;
    }

pub loop-k-preserved : goal.loop-k-preserved
loop-k-preserved c =
    let a = c.args in let l = c.loop-k in
    let f = at a.f.now in let g = polynomial_matrix a.order.n a.right.now a.l in
    elim c.if-x-ne0.branch [
      | then-x-ne0 w ↦ rw w.line-is (line_products_more a.order.n f g l.k a.line.now l.line l.invariant _ w.from.ensures _ w.add_scaled_line.ensures)
      | else-x-ne0 w ↦ rw w.line-is (line_products_skip a.order.n f g l.k a.line.now l.line l.invariant w.if-x-ne0.false)
    ]

pub returns : goal.returns
returns c =
    let h = c.requires.left_long in let a = c.args in let l = c.loop-k in
    line_products_all a.order.n _ _ l.k a.line.now l.line l.invariant (omega (arith, l.auto.k-end)) (omega (arith, c.loop-k-test.false)) (λ k m. list_short a.f.now k (omega arith))
