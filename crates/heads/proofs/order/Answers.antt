-- The first i rows stand at their places.
use Rattle.std.proofs.Common.{sym, arith, ℕ, length-set}
use lib.ListN.{length-replicate}
use Rattle.forms.specs.Numbers.{order_limit}
use Rattle.matrices.specs.Filling.{total_turn}
use Rattle.heads.specs.Heads.{no_others, other_is, other_most, others_most, ordered_start, ordered_turn, place_is, place_below}
use Rattle.heads.proofs.order.Goals as goal

pub loop-i-init : goal.loop-i-init
loop-i-init c = (sym (no_others _), ordered_start _ _ c.requires, length-replicate {A = ℕ} order_limit 0)

pub place-requires : goal.place-requires
place-requires c = let l = c.loop-i in let m = c.args.f.now in omega (arith, l.invariant.0, others_most m l.i, c.others-ones.ensures, others_most m c.args.order.n, c.requires)

pub bounds-rows-place : goal.bounds-rows-place
bounds-rows-place c =
    let l = c.loop-i in
    let e = place_is c.args.f.now c.args.order.n l.i c.others-ones.ensures l.invariant.0 c.place.ensures in
    let h = place_below c.args.f.now c.args.order.n l.i (omega arith) in
    omega (arith, e, h, c.requires)

pub overflow_add-passed : goal.overflow_add-passed
overflow_add-passed c = let l = c.loop-i in omega (arith, other_is c.args.f.now l.i c.is_head.ensures c.from-passed.ensures, l.invariant.0, others_most c.args.f.now l.i, other_most c.args.f.now l.i)

pub loop-i-preserved : goal.loop-i-preserved
loop-i-preserved c =
    let l = c.loop-i in
    let e = place_is c.args.f.now c.args.order.n l.i c.others-ones.ensures l.invariant.0 c.place.ensures in
    (rw (l.invariant.0, other_is c.args.f.now l.i c.is_head.ensures c.from-passed.ensures) (sym (total_turn l.i _)), ordered_turn c.args.f.now c.args.order.n l.invariant.2 c.args.order.limited (omega arith) e l.invariant.1, simp length-set l.invariant.2)
