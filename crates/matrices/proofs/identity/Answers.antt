-- The rows are filled from the front.
use Rattle.std.proofs.Common.{rules, ◌∙◌, ap, List, ℕ, [], get_or, set}
use Rattle.std.proofs.lemmas.List.{get_or-replicate}
use Rattle.forms.specs.Numbers.{order_limit}
use Rattle.matrices.specs.Filling.{filled_outside, fill_start, fill_turn, fill_end}
use Rattle.matrices.specs.Matrices.{zero_row, zero_rows}
use Rattle.matrices.specs.Rows.{unit_row, unit_rows_identity}
use Rattle.matrices.proofs.identity.Goals as goal

pub loop-i-init : goal.loop-i-init
loop-i-init c = fill_start _ _

pub loop-i-preserved : goal.loop-i-preserved
loop-i-preserved c =
    let l = c.loop-i in
    fill_turn _ _ _ (search rules) l.invariant (ap (λ (r : List ℕ). set r l.i 1) (ap (λ (e : List (List ℕ)). get_or e l.i []) l.invariant ∙ filled_outside _ unit_row zero_rows [] l.i (search rules) ∙ get_or-replicate order_limit l.i zero_row [] (search rules)))

pub returns : goal.returns
returns c = unit_rows_identity _ _ (search rules) (fill_end _ _ c.loop-i.invariant c.loop-i.auto.i-end c.loop-i-test.false)
