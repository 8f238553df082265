-- Nothing moves where m is k; elsewhere the rows of the three matrices are overwritten in the order of the table.
use Rattle.std.proofs.Common.{rules, arith, refl}
use Rattle.ordering.specs.Orders.{in_order_equal}
use Rattle.ordering.specs.Turning.{in_order_none, rotation_place, rotation_places, turned_start, turned_turn, turned_end}
use Rattle.ordering.proofs.turning.rotate.Goals as goal

pub returns-then-m-k : goal.returns-then-m-k
returns-then-m-k c = in_order_none _ _ _ c.args.s c.if-m-k.true

pub loop-i-init : goal.loop-i-init
loop-i-init c = turned_start _ _

pub loop-i-preserved : goal.loop-i-preserved
loop-i-preserved c =
    let l = c.loop-i in
    turned_turn _ _ c.args.s l.r _ _ _ (search rules) (search rules) (search rules) l.invariant c.turn_row.ensures c.turn_row-in-loop-i.ensures refl

pub returns : goal.returns
returns c =
    in_order_equal _ _ _ c.args.s _ (λ i h. rotation_place _ _ c.requires.0 _ c.rotation_of-q.ensures.0 i (omega arith))
    (turned_end _ c.args.order.limited _ (rotation_places _ _ c.requires.0 _ c.rotation_of-q.ensures.0 _ c.requires.1 c.args.order.limited) c.args.s _ c.loop-i.invariant (search rules) (search rules))
