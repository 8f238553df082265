-- The column is set in B and in T, and multiples of the row are added in B and in the inverse.
use Rattle.basis.specs.Changes.{replaced}
use Rattle.basis.proofs.steps.replace.Goals as goal

pub returns : goal.returns
returns c =
    (c.add_rows.ensures.0, replaced _ _ _ _ _ c.args.m.positive c.requires.0.order c.requires.1 c.reciprocal_of-d.ensures c.requires.3 _ (rw (c.add_multiple-v.ensures, c.unit_row.ensures) at c.add_multiple-c.ensures) c.set_columns.ensures.1 c.add_rows.ensures.1)
