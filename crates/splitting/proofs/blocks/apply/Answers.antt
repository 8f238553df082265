-- The row is filled with the entries of b g.
use Rattle.std.proofs.Common.{rules, ◌∙◌, [], get_or}
use Rattle.matrices.specs.Filling.{fill_start, fill_turn}
use Rattle.basis.specs.Steps.{entry_short}
use Rattle.basis.specs.State.{field_row}
use Rattle.splitting.proofs.blocks.apply.Goals as goal

pub loop-i-init : goal.loop-i-init
loop-i-init c = fill_start _ _

pub loop-i-preserved : goal.loop-i-preserved
loop-i-preserved c = fill_turn _ _ _ (search rules) c.loop-i.invariant (c.inner.ensures ∙ entry_short c.args.modulus.p c.args.order.n (get_or c.args.b.now c.loop-i.i []) c.args.g c.args.order.limited (field_row _ _ c.args.b.now _ (search rules) c.requires))
