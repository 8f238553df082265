-- Each f_i is tested at its degree, up to the first that is not monic.
use Rattle.std.proofs.Common.{sym, ◌∙◌, eq-eqb, ne_eqb, arith}
use Rattle.matrices.specs.Filling.{every_start, every_turn}
use Rattle.rules.specs.Diagonal.{has_coefficients, degrees_limited, monic_at}
use Rattle.products.specs.Searches.{one_failed}
use Rattle.rules.proofs.diagonal.Diagonal.monic_rule.Goals as goal

pub loop-i-init : goal.loop-i-init
loop-i-init c = every_start _

pub bounds-polynomial-self : goal.bounds-polynomial-self
bounds-polynomial-self c = let d = c.args.self.now in let l = c.loop-i in omega (arith, c.polynomial.ensures.long, degrees_limited _ _ _ d.degrees_are l.i c.loop-i-test.true)

pub returns-then-polynomial-self-ne1 : goal.returns-then-polynomial-self-ne1
returns-then-polynomial-self-ne1 c =
    let d = c.args.self.now in let l = c.loop-i in
    one_failed _ _ 1 l.i c.loop-i-test.true (sym (monic_at d.order.n d.bytes.now l.i _ (has_coefficients c.polynomial.ensures) (d.degrees_are l.i c.loop-i-test.true)) ∙ ne_eqb _ 1 c.if-polynomial-self-ne1.true)

pub loop-i-preserved : goal.loop-i-preserved
loop-i-preserved c =
    let d = c.args.self.now in let l = c.loop-i in
    every_turn _ _ l.invariant (sym (monic_at d.order.n d.bytes.now l.i _ (has_coefficients c.polynomial.ensures) (d.degrees_are l.i c.loop-i-test.true)) ∙ eq-eqb _ 1 c.if-polynomial-self-ne1.false)
