-- The degrees are filled in from the front.
use Rattle.std.proofs.Common.{◌∙◌, ap, List, ℕ, arith}
use lib.ListN.{length-replicate}
use Rattle.forms.specs.Numbers.{at, order_limit}
use Rattle.matrices.specs.Filling.{fill_start, fill_turn, fill_end, filled_inside}
use Rattle.rules.specs.Diagonal.{degree_is}
use Rattle.rules.proofs.diagonal.degrees_of.Goals as goal

pub loop-i-init : goal.loop-i-init
loop-i-init c = fill_start _ _

pub loop-i-preserved : goal.loop-i-preserved
loop-i-preserved c = fill_turn _ _ _ (omega (arith, length-replicate {A = ℕ} order_limit 0)) c.loop-i.invariant (c.degree_of.ensures ∙ degree_is c.coefficients.ensures)

pub returns : goal.returns
returns c = λ i l. let w = c.loop-i in ap (λ (s : List ℕ). at s i) (fill_end _ _ w.invariant w.auto.i-end c.loop-i-test.false) ∙ filled_inside _ _ _ 0 i l
