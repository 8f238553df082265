-- The loop adds up the rows of x, each as often as v says.
use Rattle.std.proofs.Common.{rules, le_antisymm}
use Rattle.basis.specs.Steps.{combining_start, combining_turn, combining_end}
use Rattle.basis.proofs.steps.combination.Goals as goal

pub loop-i-init : goal.loop-i-init
loop-i-init c = combining_start _ _ _ c.args.x (search rules)

pub loop-i-preserved : goal.loop-i-preserved
loop-i-preserved c = rw c.plus_multiple_row-sum.ensures (combining_turn _ _ _ _ c.args.x _ (search rules) (search rules) c.requires (search rules) c.loop-i.invariant)

pub returns : goal.returns
returns c = combining_end _ _ _ c.args.x _ (rw (le_antisymm c.loop-i.auto.i-end c.loop-i-test.false) at c.loop-i.invariant)
