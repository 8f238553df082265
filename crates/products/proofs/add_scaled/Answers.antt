-- The multiple is added coefficient by coefficient from the front, and no sum overflows.
use Rattle.std.proofs.Common.{◌+◌, ◌≤◌, mul-le-mul, arith}
use Rattle.forms.specs.Numbers.{at}
use Rattle.products.specs.Sums.{list_short, scaled_none, scaled_ahead, scaled_more, scaled_all}
use Rattle.products.proofs.add_scaled.Goals as goal

pub loop-k-init : goal.loop-k-init
loop-k-init c = let a = c.args in scaled_none a.x a.shift (at a.g.now) a.sums.now

pub overflow_add-sums-in-loop-k : goal.overflow_add-sums-in-loop-k
overflow_add-sums-in-loop-k c =
    let a = c.args in let l = c.loop-k in
    let byte : c.from.result ≤ 255 = omega (arith, c.from.ensures, c.type_inv.g l.k) in
    omega (
      arith,
      mul-le-mul c.requires.byte byte,
      scaled_ahead a.x a.shift (at a.g.now) l.k a.sums.now l.sums l.invariant,
      c.requires.low (a.shift + l.k),
    )

pub loop-k-preserved : goal.loop-k-preserved
loop-k-preserved c =
    let a = c.args in let l = c.loop-k in
    let h = c.requires in
    scaled_more a.x a.shift (at a.g.now) l.k a.sums.now l.sums l.invariant (omega (arith, l.invariant.long, h.long, h.inside)) _ c.from.ensures

pub returns : goal.returns
returns c =
    let a = c.args in let l = c.loop-k in
    scaled_all a.x a.shift (at a.g.now) l.k a.sums.now l.sums l.invariant _ l.auto.k-end c.loop-k-test.false (list_short a.g.now)
