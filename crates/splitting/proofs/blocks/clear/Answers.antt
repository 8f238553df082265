-- The loop wipes row after row, from the last on, where there is something to wipe.
use Rattle.std.proofs.Common.{arith}
use Rattle.basis.specs.State.{given_next}
use Rattle.splitting.specs.Settle.{clear_start, cleared_headed}
use Rattle.splitting.specs.Finding.{found_none}
use Rattle.splitting.specs.Blocking.{clear_next, clear_skips}
use Rattle.splitting.proofs.blocks.clear.Goals as goal

pub loop-r-init : goal.loop-r-init
loop-r-init c = (c.requires.0.fields, clear_start _ _ _ _ _ _ (omega arith))

pub loop-r-preserved-then-is_some : goal.loop-r-preserved-then-is_some
loop-r-preserved-then-is_some c = (c.wipe-next.ensures.0, clear_next _ _ _ _ _ c.args.s c.loop-r.s c.wipe-next.result (omega arith) c.loop-r.invariant.1 c.wipe-next.ensures.1)

pub loop-r-preserved : goal.loop-r-preserved
loop-r-preserved c = (
  c.loop-r.invariant.0,
  clear_skips _ _ _ _ _ c.args.s c.loop-r.s (given_next c.requires.0 c.loop-r.invariant.0) (cleared_headed _ _ _ _ _ _ _ c.requires.1 c.loop-r.invariant.1) (omega arith) (omega arith) c.loop-r.invariant.1 (found_none _ _ _ c.first_nonzero.result c.first_nonzero.ensures c.if-is_some.ensures),
)
