-- The rows are overwritten: two entries of each are exchanged.
use Rattle.std.specs.List.{swap}
use Rattle.std.proofs.Common.{rules, ◌<◌, ◌∙◌, sym, ap, List, ℕ, length}
use Rattle.std.proofs.Math.ListN.{get_or-append}
use Rattle.std.proofs.lemmas.List.{take-append-drop, set-append_left}
use Rattle.matrices.specs.Filling.{fill_start, fill_turn, fill_end}
use Rattle.matrices.proofs.Shapes.{square}
use Rattle.basis.specs.Overwriting.{row_to_come}
use Rattle.ordering.specs.Orders.{exchanged_columns}
use Rattle.ordering.proofs.exchange.exchange_columns.Goals as goal

pub loop-row-init : goal.loop-row-init
loop-row-init c = take-append-drop c.args.order.n c.args.x ∙ fill_start _ _

pub loop-row-preserved : goal.loop-row-preserved
loop-row-preserved c =
    let l = c.loop-row in
    let inside : l.row-index < length l.row-items = search rules in
    sym (set-append_left l.row-items _ l.row-index _ inside)
    ∙ fill_turn _ _ _ (search rules) l.invariant (c.swap.ensures.after ∙ ap (λ (r : List ℕ). swap r c.args.a c.args.b) (sym (get_or-append l.row-items _ _ l.row-index inside) ∙ row_to_come _ _ c.args.x l.invariant))

pub returns : goal.returns
returns c = exchanged_columns _ _ _ (search rules) (search rules) (search rules) c.args.x _ (square c.args.x _ c.well_formed.0.1.0.1 c.well_formed.0.1.1) (fill_end _ _ c.loop-row.invariant (search rules) (search rules))
