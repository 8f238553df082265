-- The loop keeps that the vectors before j are killed, and ends with the first longer block or where no vector is left.
use Rattle.std.proofs.Common.{arith, ◌+◌}
use Rattle.algebra.specs.Modular.{modulo}
use Rattle.basis.specs.State.{frame, given_next}
use Rattle.splitting.specs.Probe.{Probing, probe_start, probe_end}
use Rattle.splitting.specs.Blocking.{probe_skips, probe_grows, probe_goes_on}
use Rattle.splitting.proofs.blocks.probe.Goals as goal
use Rattle.splitting.proofs.blocks.probe.Goals.{Else-m-reach}

-- e_j is killed
passed : (c : Else-m-reach) → Probing (modulo c.args.modulus.p) c.args.order.n c.args.k c.args.m (c.loop-order.j + 1) (frame c.args.modulus.p c.args.order.n c.args.s) (frame c.args.modulus.p c.args.order.n c.join-next.result)
passed c = probe_goes_on _ _ _ _ _ c.args.s c.loop-order.s c.join-next.result (given_next c.requires.0 c.join-next.ensures.0) c.loop-order.invariant.0 c.loop-order.invariant.1 c.loop-order.invariant.3 c.join-next.ensures.1 _ c.reach.ensures c.if-m-reach.false

pub loop-order-init : goal.loop-order-init
loop-order-init c = (c.requires.4.low, c.requires.3, c.requires.0.fields, probe_skips _ _ _ _ _ _ c.args.s c.args.s c.requires.0.fits (probe_start _ _ _ _ _ c.requires.1 c.requires.2) c.requires.4)

pub returns-then-m-reach : goal.returns-then-m-reach
returns-then-m-reach c = (c.join-next.ensures.0, probe_grows _ _ _ _ _ c.args.s c.loop-order.s c.join-next.result (given_next c.requires.0 c.join-next.ensures.0) c.loop-order.invariant.0 c.loop-order.invariant.1 c.loop-order.invariant.3 c.join-next.ensures.1 _ c.reach.ensures c.if-m-reach.true)

pub returns-in_default : goal.returns-in_default
returns-in_default c = (c.join-next.ensures.0, (_, probe_end _ _ _ _ _ _ c.requires.0.fits (probe_skips _ _ _ _ _ _ c.args.s c.join-next.result c.requires.0.fits (passed (goal.at.returns-in_default c).Else-m-reach) c.in_default.ensures)))

pub loop-order-preserved : goal.loop-order-preserved
loop-order-preserved c = (omega (arith, c.in-Some.ensures.0.low), c.in-Some.ensures.1, c.join-next.ensures.0, probe_skips _ _ _ _ _ _ c.args.s c.join-next.result c.requires.0.fits (passed (goal.at.loop-order-preserved c).Else-m-reach) c.in-Some.ensures.0)
