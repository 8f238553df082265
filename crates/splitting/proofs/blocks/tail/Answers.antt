-- The opposites are there up to j.
use Rattle.std.proofs.Common.{arith}
use Rattle.splitting.specs.Tails.{tail_none, tail_turn}
use Rattle.splitting.proofs.blocks.tail.Goals as goal

pub loop-j-init : goal.loop-j-init
loop-j-init c = tail_none _ _ _ _ (omega arith) (omega arith)

pub loop-j-preserved : goal.loop-j-preserved
loop-j-preserved c = tail_turn _ _ _ _ _ _ (omega arith) (omega arith) (omega arith) c.loop-j.invariant
