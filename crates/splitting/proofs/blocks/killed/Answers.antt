-- The loop keeps the powers of b at e_j and the combination of those before, from the first power on, which is column j.
use Rattle.std.proofs.Common.{arith, ◌≡◌}
use Rattle.splitting.specs.Powers.{powered_start, powered_turn, powered_kills}
use Rattle.splitting.proofs.blocks.killed.Goals as goal

pub loop-e-init : goal.loop-e-init
loop-e-init c = rw (c.with_entry-v.ensures, c.column-g.ensures) (powered_start _ _ _ _ c.args.b.now c.args.modulus.positive c.args.order.limited c.requires.0 (omega arith) (omega arith))

pub loop-e-preserved : goal.loop-e-preserved
loop-e-preserved c = rw (c.apply-power.ensures, c.add_multiple-sum.ensures) (powered_turn _ _ _ _ c.args.b.now c.args.modulus.positive c.args.order.limited c.requires.0 _ _ _ (omega arith) (omega arith) c.loop-e.invariant)

pub returns : goal.returns
returns c = record { kills = λ e. powered_kills _ _ _ _ c.args.b.now c.args.modulus.positive c.args.order.limited c.requires.0 _ _ (let q : c.loop-e.e ≡ c.args.m = omega arith in rw q at c.loop-e.invariant) (c.same_row.ensures e) }
