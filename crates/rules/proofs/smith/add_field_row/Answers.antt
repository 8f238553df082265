-- One coefficient of each entry is added to, from the front, and no sum overflows.
use Rattle.std.proofs.Common.{◌∙◌, ap₂, ℕ, ◌*◌, ◌-◌, arith}
use Rattle.forms.specs.Matrices.{matrix}
use Rattle.products.specs.Sums.{plus_monomial}
use Rattle.products.specs.Lines.{line_more, line_ahead}
use Rattle.rules.proofs.smith.add_field_row.Goals as goal

pub loop-j-preserved : goal.loop-j-preserved
unfolding matrix
loop-j-preserved c =
    let h = c.requires in let a = c.args in let l = c.loop-j in
    let ahead = line_ahead a.order.n l.j 0 a.line.now l.line _ l.invariant c.loop-j-test.true h.has_room in
    line_more l.j a.line.now l.line _ l.invariant (omega (arith, l.invariant.long, h.has_room.long)) _
    (plus_monomial _ a.k _ _ (omega (arith, ahead.0, h.inside, a.order.limited)) (ap₂ (λ (y z : ℕ). a.x * (y - z)) c.from-p.ensures (c.from-a.ensures ∙ c.field_entry.ensures)))
