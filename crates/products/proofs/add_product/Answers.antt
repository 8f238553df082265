-- f g is summed coefficient by coefficient of f; a zero coefficient adds nothing.
use Rattle.std.proofs.Common.{◌∙◌, arith}
use Rattle.forms.specs.Numbers.{at}
use Rattle.products.specs.Sums.{list_short, products_none, products_more, products_skip, products_low, products_all}
use Rattle.products.proofs.add_product.Goals as goal
use Rattle.products.proofs.add_product.Goals.{then-x-ne0, else-x-ne0}

pub loop-k-init : goal.loop-k-init
loop-k-init c = products_none _ _ _

pub add_scaled-requires : goal.add_scaled-requires
add_scaled-requires c =
    let a = c.args in let l = c.loop-k in let h = c.requires in
    record {
      byte = omega (arith, c.from.ensures, c.type_inv.f l.k);
      inside = omega (arith, h.inside);
      long = l.invariant.long ∙ h.long;
      low = λ k. omega (arith, products_low _ _ l.k a.sums.now l.sums l.invariant (λ i. omega (arith, c.type_inv.f i)) (λ i. omega (arith, c.type_inv.g i)) _ c.loop-k-test.true h.low k);
    }

pub loop-k-preserved : goal.loop-k-preserved
loop-k-preserved c =
    let a = c.args in let l = c.loop-k in
    let f = at a.f.now in let g = at a.g.now in
    elim c.if-x-ne0.branch [
      | then-x-ne0 w ↦ rw w.sums-is (products_more f g l.k a.sums.now l.sums l.invariant _ w.from.ensures _ w.add_scaled.ensures)
      | else-x-ne0 w ↦ rw w.sums-is (products_skip f g l.k a.sums.now l.sums l.invariant w.if-x-ne0.false)
    ]

pub returns : goal.returns
returns c = let a = c.args in let l = c.loop-k in products_all _ _ l.k a.sums.now l.sums l.invariant _ l.auto.k-end c.loop-k-test.false (list_short a.f.now)
