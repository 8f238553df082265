-- Rows and columns are searched up to the first entry that differs.
use Rattle.std.proofs.Common.{◌∙◌, suc, ◌*◌}
use Rattle.matrices.specs.Filling.{every_start, every_turn}
use Rattle.products.specs.Lines.{line_test}
use Rattle.products.specs.Searches.{every_all, entry_failed}
use Rattle.rules.specs.SmithEntries.{returned_entries, smith_entry_test}
use Rattle.rules.proofs.smith.smith_rule.Goals as goal

pub loop-i-init : goal.loop-i-init
loop-i-init c = every_start _

pub loop-j-init : goal.loop-j-init
loop-j-init c = every_start _

pub loop-j-preserved : goal.loop-j-preserved
loop-j-preserved c =
    let a = c.args in let d = a.d.now in
    every_turn _ _ c.loop-j.invariant (line_test a.m.p (suc (2 * d.order.n)) _ _ _ c.moved_line-line.ensures _ c.loop-j-test.true (returned_entries d.order.n d.bytes.now a.right.now c.loop-i.i c.loop-j.j) _ c.is_returned.ensures ∙ c.if-not-is_returned.false)

pub loop-i-preserved : goal.loop-i-preserved
loop-i-preserved c = let l = c.loop-j in every_turn _ _ c.loop-i.invariant (every_all _ _ l.j l.invariant l.auto.j-end c.loop-j-test.false)

pub returns-then-not-is_returned : goal.returns-then-not-is_returned
returns-then-not-is_returned c =
    let a = c.args in let d = a.d.now in
    entry_failed d.order.n (smith_entry_test a.m.p d.order.n a.left.now a.field.now d.bytes.now a.right.now) 6 c.loop-i.i c.loop-j.j c.loop-i-test.true c.loop-j-test.true
    (line_test a.m.p (suc (2 * d.order.n)) _ _ _ c.moved_line-line.ensures _ c.loop-j-test.true (returned_entries d.order.n d.bytes.now a.right.now c.loop-i.i c.loop-j.j) _ c.is_returned.ensures ∙ c.if-not-is_returned.true)
