-- The rows of B and of T are overwritten with their sums with multiples of v.
use Rattle.std.proofs.Common.{rules, refl, le_antisymm}
use Rattle.basis.specs.Overwriting.{next_field, overwriting_start, overwriting_turn}
use Rattle.basis.specs.Changes.{columns_added}
use Rattle.basis.proofs.Shapes.{squares}
use Rattle.basis.proofs.steps.add_columns.Goals as goal

pub loop-i-init : goal.loop-i-init
loop-i-init c = (overwriting_start _ _, overwriting_start _ _, refl)

pub plus_multiple_row-requires : goal.plus_multiple_row-requires
plus_multiple_row-requires c =
    let l = c.loop-i in
    next_field _ (squares c.args.s c.well_formed.0.1.1).B _ l.i (search rules) l.s.b l.invariant.0 _ _ (search rules) (search rules) (search rules) c.requires.1.B

pub plus_multiple_row-requires-in-loop-i : goal.plus_multiple_row-requires-in-loop-i
plus_multiple_row-requires-in-loop-i c =
    let l = c.loop-i in
    next_field _ (squares c.args.s c.well_formed.0.1.1).T _ l.i (search rules) l.s.t l.invariant.1 _ _ (search rules) (search rules) (search rules) c.requires.1.T

pub loop-i-preserved : goal.loop-i-preserved
loop-i-preserved c =
    let l = c.loop-i in
    let shape = squares c.args.s c.well_formed.0.1.1 in
    (overwriting_turn _ shape.B _ l.i (search rules) l.s.b l.invariant.0 _ c.plus_multiple_row.ensures, overwriting_turn _ shape.T _ l.i (search rules) l.s.t l.invariant.1 _ c.plus_multiple_row-in-loop-i.ensures, l.invariant.2)

pub returns : goal.returns
returns c = columns_added _ _ c.args.s c.loop-i.s (search rules) (search rules) c.requires.1 _ _ (search rules) c.requires.2 (rw (le_antisymm c.loop-i.auto.i-end c.loop-i-test.false) at c.loop-i.invariant)
