-- One entry of each row of B and of T is overwritten with that of B w and T w.
use Rattle.std.proofs.Common.{rules, refl, ap, le_antisymm, [], get_or, set}
use Rattle.basis.specs.Overwriting.{overwriting_start, overwriting_turn}
use Rattle.basis.specs.Changes.{columns_set}
use Rattle.basis.proofs.Shapes.{squares}
use Rattle.basis.proofs.steps.set_columns.Goals as goal

pub loop-i-init : goal.loop-i-init
loop-i-init c = (overwriting_start _ _, overwriting_start _ _, refl)

pub loop-i-preserved : goal.loop-i-preserved
loop-i-preserved c =
    let l = c.loop-i in
    let shape = squares c.args.s c.well_formed.0.1.1 in (
      overwriting_turn _ shape.B _ l.i (search rules) l.s.b l.invariant.0 _ (ap (set (get_or l.s.b l.i []) c.args.at) c.inner.ensures),
      overwriting_turn _ shape.T _ l.i (search rules) l.s.t l.invariant.1 _ (ap (set (get_or l.s.t l.i []) c.args.at) c.inner-in-loop-i.ensures),
      l.invariant.2,
    )

pub returns : goal.returns
returns c =
    columns_set _ _ c.args.s c.loop-i.s (search rules) (search rules) c.requires.1 _ _ (search rules) (squares c.args.s c.well_formed.0.1.1) (rw (le_antisymm c.loop-i.auto.i-end c.loop-i-test.false) at c.loop-i.invariant)
