-- The rows of B and of the inverse are overwritten with their sums with multiples of one row; the multiple 0 leaves its row.
use Rattle.std.proofs.Common.{rules, refl, le_antisymm}
use Rattle.basis.specs.Overwriting.{overwriting_start, overwriting_turn, overwriting_left}
use Rattle.basis.specs.Steps.{row_without}
use Rattle.basis.specs.Changes.{rows_added}
use Rattle.basis.proofs.Shapes.{squares}
use Rattle.basis.proofs.steps.add_rows.Goals as goal
use Rattle.basis.proofs.steps.add_rows.Goals.{then-c-i-ne0, else-c-i-ne0}

pub loop-i-init : goal.loop-i-init
loop-i-init c = (overwriting_start _ _, overwriting_start _ _, refl)

pub loop-i-preserved : goal.loop-i-preserved
loop-i-preserved c =
    let l = c.loop-i in
    let shape = squares c.args.s c.well_formed.0.1.1 in
    elim c.if-c-i-ne0.branch [
      | then-c-i-ne0 w ↦ rw w.s-is (overwriting_turn _ shape.B _ l.i (search rules) l.s.b l.invariant.0 _ w.add_multiple.ensures, overwriting_turn _ shape.I _ l.i (search rules) l.s.back l.invariant.1 _ w.add_multiple-then-c-i-ne0.ensures, l.invariant.2)
      | else-c-i-ne0 w ↦ rw w.s-is (
        overwriting_left _ shape.B _ l.i (search rules) l.s.b l.invariant.0 (row_without _ _ l.i _ c.args.c _ (search rules) (search rules) (search rules) shape.B c.requires.1.B w.if-c-i-ne0.false),
        overwriting_left _ shape.I _ l.i (search rules) l.s.back l.invariant.1 (row_without _ _ l.i _ c.args.c _ (search rules) (search rules) (search rules) shape.I c.requires.1.I w.if-c-i-ne0.false),
        l.invariant.2,
      )
    ]

pub returns : goal.returns
returns c = rows_added _ _ c.args.s c.loop-i.s (search rules) (search rules) c.requires.1 _ _ (search rules) (rw (le_antisymm c.loop-i.auto.i-end c.loop-i-test.false) at c.loop-i.invariant)
