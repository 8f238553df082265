-- Once b blocks are passed, the entry is that at (row, column) of the blocks behind.
use Rattle.std.proofs.Common.{◌∙◌, inl, inr, arith}
use Rattle.rules.specs.FrobeniusSearch.{behind_none, behind_here, behind_above, behind_below, behind_more, behind_all}
use Rattle.rules.proofs.frobenius.frobenius_entry.Goals as goal

pub loop-b-init : goal.loop-b-init
loop-b-init c = behind_none _ _ _ _ _

pub returns-then-column-degree : goal.returns-then-column-degree
returns-then-column-degree c =
    let a = c.args in let d = a.d.now in let l = c.loop-b in
    c.companion_entry.ensures ∙ behind_here a.m.p d.order.n _ a.i a.j l.b l.row l.column _ l.invariant (d.degrees_are l.b c.loop-b-test.true) c.loop-b-test.true c.if-row-degree.true c.if-column-degree.true

pub returns-then-row-degree-2 : goal.returns-then-row-degree-2
returns-then-row-degree-2 c =
    let a = c.args in let d = a.d.now in let l = c.loop-b in let is = a.d.now.degrees_are l.b c.loop-b-test.true in
    elim c.else-row-degree.either [
      | inl w ↦ behind_above a.m.p d.order.n _ a.i a.j l.b l.row l.column _ l.invariant is c.loop-b-test.true w.0 w.1
      | inr w ↦ behind_below a.m.p d.order.n _ a.i a.j l.b l.row l.column _ l.invariant is c.loop-b-test.true w (elim c.then-row-degree-2.either [ inl v ↦ absurd (omega arith) | inr v ↦ v.1 ])
    ]

pub loop-b-preserved : goal.loop-b-preserved
loop-b-preserved c =
    let a = c.args in let d = a.d.now in let l = c.loop-b in
    behind_more a.m.p d.order.n _ a.i a.j l.b l.row l.column _ l.invariant (d.degrees_are l.b c.loop-b-test.true) c.loop-b-test.true c.if-row-degree-2.false c.if-column-degree-2.false

pub returns : goal.returns
returns c =
    let a = c.args in let d = a.d.now in let l = c.loop-b in
    behind_all a.m.p d.order.n _ a.i a.j l.b l.row l.column l.invariant c.loop-b-test.false
