-- Each turn but the last makes a longer block, so that the turns end. The last finds nothing behind the block and all of the window killed.
use Rattle.std.proofs.Common.{arith, ℕ}
use Rattle.algebra.specs.Modular.{modulo}
use Rattle.basis.specs.State.{frame, Fields, given_next}
use Rattle.splitting.specs.Pass.{ready_first, passed_start, Chained}
use Rattle.splitting.specs.Finding.{found_none}
use Rattle.splitting.specs.Passing.{chain_end}
use Rattle.splitting.specs.Probe.{Probing, probe_end, split_of_probed}
use Rattle.splitting.specs.Blocking.{chained_reach, settled_already, settle_grows, settle_stays, settle_probes, probe_skips, split_ends, split_turn}
use Rattle.splitting.proofs.blocks.split.Goals as goal
use Rattle.splitting.proofs.blocks.split.Goals.{Joined-is_some, Joined-not-is_settled, then-is_some, else-is_some, then-not-is_settled+else-m-h, else-not-is_settled}

-- the pass is made, or there is nothing to pass: column 0 has no pivot
chained : (c : Joined-is_some) → Fields c.args.modulus.p c.args.order.n c.if-is_some.s × ((m : ℕ) × Chained (modulo c.args.modulus.p) c.args.order.n c.args.k (frame c.args.modulus.p c.args.order.n c.args.s) m (frame c.args.modulus.p c.args.order.n c.if-is_some.s))
chained c = elim c.if-is_some.branch [
  | then-is_some w ↦ rw w.s-is w.chain-next.ensures
  | else-is_some w ↦ rw w.s-is (c.requires.0.fields, (1, chain_end _ _ _ _ c.args.s c.args.s c.requires.0 c.requires.1 (found_none _ _ _ c.first_pivot.result c.first_pivot.ensures w.if-is_some.ensures) (passed_start _ _ _ _ _ _ (ready_first _ _ _ c.requires.2))))
]

-- nothing is left behind the block, and it is as long as it was
settled : (c : Joined-not-is_settled) → Fields c.args.modulus.p c.args.order.n c.if-not-is_settled.s × Probing (modulo c.args.modulus.p) c.args.order.n c.args.k c.loop-s.m c.loop-s.m (frame c.args.modulus.p c.args.order.n c.loop-s.s) (frame c.args.modulus.p c.args.order.n c.if-not-is_settled.s)
settled c = elim c.if-not-is_settled.branch [
  | then-not-is_settled+else-m-h w ↦ rw w.s-is (w.settle-next.ensures.0, settle_stays _ _ _ _ c.loop-s.s w.settle-next.result (given_next c.requires.0 w.settle-next.ensures.0) w.settle-next.ensures.1 _ w.reach-h.ensures w.if-m-h.false)
  | else-not-is_settled w ↦ rw w.s-is (c.loop-s.invariant.0, settled_already _ _ _ _ c.loop-s.s (given_next c.requires.0 c.loop-s.invariant.0) c.loop-s.invariant.1.1 (c.is_settled.ensures w.if-not-is_settled.false))
]

pub loop-s-init : goal.loop-s-init
loop-s-init c =
    let x = chained (goal.at.loop-s-init c).Joined-is_some in
    (x.0, (x.1.1.passed.change, chained_reach _ _ _ c.args.s c.if-is_some.s (given_next c.requires.0 x.0) x.1 _ c.reach-m.ensures))

pub loop-s-preserved-then-m-h : goal.loop-s-preserved-then-m-h
loop-s-preserved-then-m-h c =
    let g = given_next c.requires.0 c.settle-next.ensures.0 in
    (c.settle-next.ensures.0, split_turn _ _ _ _ c.args.s c.loop-s.s c.settle-next.result g c.loop-s.invariant.1.0 (settle_grows _ _ _ _ c.loop-s.s c.settle-next.result g c.settle-next.ensures.1 _ c.reach-h.ensures c.if-m-h.true) _ c.reach-h.ensures)

pub returns-in_default : goal.returns-in_default
returns-in_default c =
    let x = settled (goal.at.returns-in_default c).Joined-not-is_settled in
    (x.0, (_, split_of_probed _ _ _ _ _ _ _ _ c.loop-s.invariant.1.0 (probe_end _ _ _ _ _ _ c.requires.0.fits (probe_skips _ _ _ _ _ _ c.loop-s.s c.if-not-is_settled.s c.requires.0.fits x.1 c.in_default.ensures)) (omega arith)))

pub probe-next-requires : goal.probe-next-requires
probe-next-requires c =
    let x = settled (goal.at.probe-next-requires c).Joined-not-is_settled in
    (given_next c.requires.0 x.0, x.1.headed, x.1.flat, c.in-Some.ensures.1, c.in-Some.ensures.0)

pub returns-then-h-m : goal.returns-then-h-m
returns-then-h-m c =
    let x = settled (goal.at.returns-then-h-m c).Joined-not-is_settled in
    let y = settle_probes _ _ _ _ c.loop-s.s c.if-not-is_settled.s c.probe-next.result x.1 c.probe-next.ensures.1 in
    (c.probe-next.ensures.0, split_ends _ _ _ _ c.args.s c.loop-s.s c.probe-next.result (given_next c.requires.0 c.probe-next.ensures.0) c.loop-s.invariant.1.0 y _ c.reach-h-in-loop-s.ensures c.if-h-m.true)

pub loop-s-preserved : goal.loop-s-preserved
loop-s-preserved c =
    let x = settled (goal.at.loop-s-preserved c).Joined-not-is_settled in
    let y = settle_probes _ _ _ _ c.loop-s.s c.if-not-is_settled.s c.probe-next.result x.1 c.probe-next.ensures.1 in
    (c.probe-next.ensures.0, split_turn _ _ _ _ c.args.s c.loop-s.s c.probe-next.result (given_next c.requires.0 c.probe-next.ensures.0) c.loop-s.invariant.1.0 y _ c.reach-h-in-loop-s.ensures)
