-- f times row l is added coefficient by coefficient of f, on the diagonal and then along the row of A; a zero coefficient adds nothing.
use Rattle.std.proofs.Common.{sym, ◌∙◌, ◌+◌, ◌<◌, ◌≤◌, arith}
use Rattle.forms.specs.Numbers.{at}
use Rattle.forms.specs.Matrices.{matrix, characteristic}
use Rattle.products.specs.Sums.{list_short}
use Rattle.products.specs.Lines.{line_then, line_products_none, line_products_more, line_products_skip, line_products_all}
use Rattle.rules.specs.Moved.{moved_room, characteristic_terms, diagonal_added, diagonal_room}
use Rattle.rules.proofs.smith.add_moved.Goals as goal
use Rattle.rules.proofs.smith.add_moved.Goals.{then-x-ne0, else-x-ne0}

pub loop-k-init : goal.loop-k-init
loop-k-init c = line_products_none _ _ _ _

pub overflow_add-line-then-x-ne0 : goal.overflow_add-line-then-x-ne0
overflow_add-line-then-x-ne0 c =
    let h = c.requires in let a = c.args in let l = c.loop-k in
    let inside : l.k < a.order.n = omega (arith, h.left_long, c.loop-k-test.true) in
    let r = moved_room a.m.p a.order.n a.l a.f.now a.field.now a.line.now l.line l.k h (omega arith) (λ i. omega (arith, c.type_inv.f i)) inside l.invariant in
    omega (arith, r.low a.l h.row (l.k + 1), c.from-x.ensures, c.type_inv.f l.k)

pub add_field_row-requires : goal.add_field_row-requires
add_field_row-requires c =
    let h = c.requires in let a = c.args in let l = c.loop-k in
    let inside : l.k < a.order.n = omega (arith, h.left_long, c.loop-k-test.true) in
    let r = moved_room a.m.p a.order.n a.l a.f.now a.field.now a.line.now l.line l.k h (omega arith) (λ i. omega (arith, c.type_inv.f i)) inside l.invariant in
    let byte : c.from-x.result ≤ 255 = omega (arith, c.from-x.ensures, c.type_inv.f l.k) in
    record {
      payload = h.payload;
      byte = byte;
      inside = inside;
      row = h.row;
      has_room = diagonal_room a.order.n c.from-x.result l.k a.l l.line _ byte (diagonal_added a.order.n c.from-x.result l.k a.l l.line a.order.limited inside h.row r) r;
    }

pub loop-k-preserved : goal.loop-k-preserved
loop-k-preserved c =
    let h = c.requires in let a = c.args in let l = c.loop-k in
    let f = at a.f.now in let g = characteristic a.m.p (matrix a.order.n a.field.now) a.l in
    let inside : l.k < a.order.n = omega (arith, h.left_long, c.loop-k-test.true) in
    let r = moved_room a.m.p a.order.n a.l a.f.now a.field.now a.line.now l.line l.k h (omega arith) (λ i. omega (arith, c.type_inv.f i)) inside l.invariant in
    let x = c.from-x.ensures in
    elim c.if-x-ne0.branch [
      | then-x-ne0 w ↦ rw w.line-is (line_products_more a.order.n f g l.k a.line.now l.line l.invariant _ x _
          (line_then a.order.n l.line _ _ _ _ _ (diagonal_added a.order.n c.from-x.result l.k a.l l.line a.order.limited inside h.row r) w.add_field_row.ensures (characteristic_terms a.m.p (matrix a.order.n a.field.now) c.from-x.result l.k a.l)))
      | else-x-ne0 w ↦ rw w.line-is (line_products_skip a.order.n f g l.k a.line.now l.line l.invariant (sym x ∙ w.if-x-ne0.false))
    ]

pub returns : goal.returns
returns c =
    let h = c.requires.left_long in let a = c.args in let l = c.loop-k in
    line_products_all a.order.n _ _ l.k a.line.now l.line l.invariant (omega (arith, l.auto.k-end)) (omega (arith, c.loop-k-test.false)) (λ k m. list_short a.f.now k (omega arith))
