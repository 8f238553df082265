-- Rows and columns are searched up to the first entry that is not that of the form.
use Rattle.std.proofs.Common.{sym, ◌∙◌, eq-eqb, ne_eqb}
use Rattle.matrices.specs.Filling.{every_start, every_turn}
use Rattle.products.specs.Searches.{every_all, entry_failed}
use Rattle.rules.specs.FrobeniusSearch.{built_test, built_entry}
use Rattle.rules.proofs.frobenius.frobenius_rule.Goals as goal

pub loop-i-init : goal.loop-i-init
loop-i-init c = every_start _

pub loop-j-init : goal.loop-j-init
loop-j-init c = every_start _

pub loop-j-preserved : goal.loop-j-preserved
loop-j-preserved c =
    let a = c.args in let d = a.d.now in
    every_turn _ _ c.loop-j.invariant (sym (built_entry a.m.p d.order.n d.bytes.now a.field.now c.requires c.loop-i.i c.loop-j.j _ _ c.field_entry.ensures c.frobenius_entry.ensures) ∙ eq-eqb _ _ c.if-field_entry-frobenius_entry.false)

pub loop-i-preserved : goal.loop-i-preserved
loop-i-preserved c = let l = c.loop-j in every_turn _ _ c.loop-i.invariant (every_all _ _ l.j l.invariant l.auto.j-end c.loop-j-test.false)

pub returns-then-field_entry-frobenius_entry : goal.returns-then-field_entry-frobenius_entry
returns-then-field_entry-frobenius_entry c =
    let a = c.args in let d = a.d.now in
    entry_failed d.order.n (built_test a.m.p d.order.n d.bytes.now a.field.now) 7 c.loop-i.i c.loop-j.j c.loop-i-test.true c.loop-j-test.true
    (sym (built_entry a.m.p d.order.n d.bytes.now a.field.now c.requires c.loop-i.i c.loop-j.j _ _ c.field_entry.ensures c.frobenius_entry.ensures) ∙ ne_eqb _ _ c.if-field_entry-frobenius_entry.true)
