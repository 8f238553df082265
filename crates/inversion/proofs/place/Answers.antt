-- The factor is that of specs/Inversion.antt, and both matrices take the same step.
use Rattle.inversion.specs.Inversion.{placed_in}
use Rattle.inversion.proofs.place.Goals as goal

pub returns : goal.returns
returns c = placed_in _ _ _ _ _ _ _ c.args.order.limited c.args.m.positive c.requires _ _ _ _ _ _ c.unit_row-e.ensures c.plus_multiple-y.ensures c.plus_multiple-k.ensures c.add_row.ensures c.add_row-2.ensures
