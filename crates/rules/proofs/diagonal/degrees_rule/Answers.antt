-- The degrees are summed, and their total is compared with n.
use Rattle.std.proofs.Common.{◌<◌, ◌^◌, sym, ◌∙◌, ap, Bool, take, eq-eqb, ne_eqb, rules, arith}
use Rattle.std.specs.List.{sum}
use Rattle.rules.specs.Diagonal.{sum_total, sum_fits}
use Rattle.products.specs.Searches.{failing}
use Rattle.rules.proofs.diagonal.degrees_rule.Goals as goal

pub sum-sum-requires-clause-fits : goal.sum-sum-requires-clause-fits
sum-sum-requires-clause-fits c =
    let a = c.args in
    let h : sum (take a.order.n a.degrees.now) < 2 ^ 64 = sum_fits a.degrees.now a.order.n a.order.limited (omega (arith, a.order.limited)) c.requires in
    search rules

pub returns-then-sum-order : goal.returns-then-sum-order
returns-then-sum-order c =
    let a = c.args in
    let e = sum_total a.order.n a.degrees.now c.sum-sum.result (omega (arith, a.order.limited)) (search rules) in
    sym (ap (λ (b : Bool). failing b 3) (eq-eqb _ _ (sym e ∙ c.if-sum-order.true)))

pub returns-else-sum-order : goal.returns-else-sum-order
returns-else-sum-order c =
    let a = c.args in
    let e = sum_total a.order.n a.degrees.now c.sum-sum.result (omega (arith, a.order.limited)) (search rules) in
    sym (ap (λ (b : Bool). failing b 3) (ne_eqb _ _ (λ z. c.if-sum-order.false (e ∙ z))))
