-- The loop: the first i bytes are residues.
use Rattle.std.proofs.Common.{rules, sym, ◌∙◌, ap, ◌+◌}
use Rattle.forms.specs.Answers.{Asked}
use Rattle.certificate.specs.ReadRecords.{read_of, no_residues, next_residue, no_residue}
use Rattle.certificate.proofs.reading.read_residues.Goals as goal

pub loop-i-init : goal.loop-i-init
loop-i-init c = let a = c.args in (search rules, no_residues a.p a.c.at a.s.now)

pub returns-then-p-s : goal.returns-then-p-s
returns-then-p-s c =
    let a = c.args in
    c.refused.ensures
    ∙ ap (λ (q : Asked). read_of q (a.c.at + a.size))
    (sym (no_residue a.p a.c.at a.s.now c.loop-i.i a.size c.loop-i-test.true c.loop-i.invariant.1 c.if-p-s.true))

pub loop-i-preserved : goal.loop-i-preserved
loop-i-preserved c =
    let a = c.args in
    (search rules, next_residue a.p a.c.at a.s.now c.loop-i.i c.loop-i.invariant.1 c.if-p-s.false)
