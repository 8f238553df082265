-- The numbers below n that pass the filter are counted.
use Rattle.std.proofs.Common.{◌∙◌, not, rules, arith}
use Rattle.std.proofs.lemmas.Iterator.{YieldsList-from_range}
use Rattle.std.proofs.lemmas.Iterator.Consumers.{YieldsList-from_filter, count_from_yields_List}
use Rattle.heads.specs.Heads.{begins, others_counted}
use Rattle.heads.proofs.others.Goals as goal

pub returns : goal.returns
returns c =
    let a = c.args in
    count_from_yields_List c.filter.result c.count.result c.count.ensures.ran
    (YieldsList-from_filter _ (λ i. not (begins a.f.now i)) (YieldsList-from_range 0 a.order.n a.order.n c.filter.ensures.source (omega arith)) c.filter.ensures.closure (λ x b q k. search rules))
    ∙ others_counted a.f.now a.order.n
