-- The loop: the first i entries refuse nothing.
use Rattle.std.proofs.Common.{arith, refl, sym, ◌≤◌, ◌<◌, ltb, ltb→lt, lt→ltb}
use Rattle.forms.specs.Numbers.{at}
use Rattle.forms.specs.Answers.{each}
use Rattle.forms.specs.Tests.{fine_ask, refuse_ask, each_fine, refuse_each}
use Rattle.certificate.specs.ReadRecords.{each_next}
use Rattle.analysis.proofs.questions.entries_asked.Goals as goal

pub loop-i-init : goal.loop-i-init
unfolding each
loop-i-init c = refl

pub returns-then-p-entry : goal.returns-then-p-entry
returns-then-p-entry c =
    let l = c.loop-i in
    let a = c.args in
    let large : a.p ≤ at a.matrix.now l.i = c.if-p-entry.true in
    let refused = refuse_ask (ltb (at a.matrix.now l.i) a.p) 4 l.i (λ t. (let h = ltb→lt (at a.matrix.now l.i) a.p t in omega arith)) in
    sym (refuse_each _ _ l.i 4 l.i c.loop-i-test.true (each_fine l.i _ l.invariant) refused)

pub loop-i-preserved : goal.loop-i-preserved
loop-i-preserved c =
    let l = c.loop-i in
    let a = c.args in
    let small : at a.matrix.now l.i < a.p = c.if-p-entry.false in
    each_next l.i _ l.invariant (fine_ask (ltb (at a.matrix.now l.i) a.p) 4 l.i (lt→ltb (at a.matrix.now l.i) a.p small))
