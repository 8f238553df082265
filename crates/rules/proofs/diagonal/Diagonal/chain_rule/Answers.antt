-- Each f_i is tested against the next, up to the first that does not divide it.
use Rattle.std.proofs.Common.{sym, ◌∙◌}
use Rattle.matrices.specs.Filling.{every_start, every_turn}
use Rattle.products.specs.Searches.{one_failed}
use Rattle.rules.proofs.diagonal.Diagonal.chain_rule.Goals as goal

pub loop-i-init : goal.loop-i-init
loop-i-init c = every_start _

pub returns-then-not-divides_next : goal.returns-then-not-divides_next
returns-then-not-divides_next c = one_failed _ _ 2 c.loop-i.i c.loop-i-test.true (sym c.divides_next.ensures ∙ c.if-not-divides_next.true)

pub loop-i-preserved : goal.loop-i-preserved
loop-i-preserved c = every_turn _ _ c.loop-i.invariant (sym c.divides_next.ensures ∙ c.if-not-divides_next.false)
