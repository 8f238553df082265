-- The loop keeps the stage: the window [0,k), and the blocks behind it.
use Rattle.std.proofs.Common.{rules, arith, refl}
use Rattle.algebra.specs.Modular.{modulo}
use Rattle.basis.specs.State.{frame}
use Rattle.matrices.specs.Matrices.{matrix_within}
use Rattle.forms.specs.Primes.{prime_means}
use Rattle.elimination.specs.Form.{stage_start}
use Rattle.splitting.specs.Probe.{Split}
use Rattle.splitting.specs.Blocking.{split_reach}
use Rattle.elimination.specs.Scalar.{all_blocks, scalar_window}
use Rattle.elimination.specs.Reduced.{reduced, stage_next}
use Rattle.elimination.proofs.elimination.reduce.Goals as goal
use Rattle.elimination.proofs.elimination.reduce.Goals.{After-reach-length}

-- the block that was split off, with its length read off the matrix
found : (c : After-reach-length) → Split (modulo c.args.m.p) c.args.order.n c.loop-k.k (frame c.args.m.p c.args.order.n c.loop-k.s) c.reach-length.result (frame c.args.m.p c.args.order.n c.split-c.result)
found c = split_reach c.args.m.p c.args.order.n c.loop-k.k c.loop-k.s c.split-c.result
    (record { order = c.args.order.limited; fits = c.loop-k.invariant.0; prime_p = c.requires.0; fields = c.split-c.ensures.0 }) c.split-c.ensures.1 c.reach-length.result c.reach-length.ensures

pub loop-k-init : goal.loop-k-init
loop-k-init c = (
  search rules,
  record { B = c.requires.1; T = c.identity-e.ensures.field _ (prime_means _ c.requires.0).large; I = c.identity-e.ensures.field _ (prime_means _ c.requires.0).large },
  stage_start _ _ _ _ (matrix_within _ _ c.args.a) refl (c.identity-e.ensures.is _) (c.identity-e.ensures.is _),
)

pub returns-then-is_scalar : goal.returns-then-is_scalar
returns-then-is_scalar c = reduced _ _ c.args.a c.loop-k.s c.loop-k.invariant.1
    (all_blocks _ _ _ _ _ c.loop-k.invariant.0 c.loop-k.invariant.2 (scalar_window _ _ _ _ c.args.order.limited c.loop-k.invariant.0 (c.is_scalar.ensures c.if-is_scalar.true)))

pub loop-k-preserved : goal.loop-k-preserved
loop-k-preserved c = (
  omega (arith, c.loop-k.invariant.0),
  c.rotate-next.ensures.fields _ c.split-c.ensures.0,
  stage_next _ _ _ _ _ c.loop-k.s c.split-c.result c.rotate-next.result c.loop-k.invariant.0 c.loop-k.invariant.2 (found (goal.at.loop-k-preserved c).After-reach-length) c.rotate-next.ensures,
)
