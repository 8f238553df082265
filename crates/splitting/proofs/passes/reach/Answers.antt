-- All columns passed have a pivot.
use Rattle.splitting.specs.Passing.{reach_pivot, reach_turn}
use Rattle.splitting.proofs.passes.reach.Goals as goal

pub loop-j-preserved : goal.loop-j-preserved
loop-j-preserved c = reach_turn _ _ c.args.b.now c.loop-j.invariant (reach_pivot _ _ c.args.b.now c.first_pivot.result c.first_pivot.ensures c.if-is_none.ensures)
