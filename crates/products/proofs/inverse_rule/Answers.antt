-- Rows and columns are searched up to the first entry that is not that of E.
use Rattle.std.proofs.Common.{◌∙◌, suc, ◌*◌}
use Rattle.matrices.specs.Filling.{every_start, every_turn}
use Rattle.products.specs.Products.{unit_test}
use Rattle.products.specs.Lines.{line_test}
use Rattle.products.specs.Searches.{every_all, entry_failed}
use Rattle.products.proofs.inverse_rule.Goals as goal

pub loop-i-init : goal.loop-i-init
loop-i-init c = every_start _

pub loop-j-init : goal.loop-j-init
loop-j-init c = every_start _

pub loop-j-preserved : goal.loop-j-preserved
loop-j-preserved c =
    let a = c.args in
    every_turn _ _ c.loop-j.invariant (line_test a.m.p (suc (2 * a.order.n)) _ _ _ c.product_line-line.ensures _ c.loop-j-test.true _ _ c.is_unit_entry.ensures ∙ c.if-not-is_unit_entry.false)

pub loop-i-preserved : goal.loop-i-preserved
loop-i-preserved c = let l = c.loop-j in every_turn _ _ c.loop-i.invariant (every_all _ _ l.j l.invariant l.auto.j-end c.loop-j-test.false)

pub returns-then-not-is_unit_entry : goal.returns-then-not-is_unit_entry
returns-then-not-is_unit_entry c =
    let a = c.args in
    entry_failed a.order.n (unit_test a.m.p a.order.n a.left.now a.right.now) a.rule c.loop-i.i c.loop-j.j c.loop-i-test.true c.loop-j-test.true
    (line_test a.m.p (suc (2 * a.order.n)) _ _ _ c.product_line-line.ensures _ c.loop-j-test.true _ _ c.is_unit_entry.ensures ∙ c.if-not-is_unit_entry.true)
