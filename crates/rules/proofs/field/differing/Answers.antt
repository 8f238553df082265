-- Rows and columns are searched up to the first entry in which the matrices differ.
use Rattle.std.proofs.Common.{eqb, eq-eqb, ne_eqb}
use Rattle.matrices.specs.Filling.{every_start, every_turn}
use Rattle.matrices.specs.Matrices.{cell}
use Rattle.products.specs.Searches.{every_all, entry_failed}
use Rattle.rules.proofs.field.differing.Goals as goal

pub loop-i-init : goal.loop-i-init
loop-i-init c = every_start _

pub loop-j-init : goal.loop-j-init
loop-j-init c = every_start _

pub loop-j-preserved : goal.loop-j-preserved
loop-j-preserved c = every_turn _ _ c.loop-j.invariant (eq-eqb _ _ c.if-a-i.false)

pub loop-i-preserved : goal.loop-i-preserved
loop-i-preserved c = let l = c.loop-j in every_turn _ _ c.loop-i.invariant (every_all _ _ l.j l.invariant l.auto.j-end c.loop-j-test.false)

pub returns-then-a-i : goal.returns-then-a-i
returns-then-a-i c =
    let a = c.args in
    entry_failed a.order.n (λ i j. eqb (cell a.a i j) (cell a.b i j)) a.rule c.loop-i.i c.loop-j.j c.loop-i-test.true c.loop-j-test.true (ne_eqb _ _ c.if-a-i.true)
