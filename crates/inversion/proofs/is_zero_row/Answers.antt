-- The first n entries are tested.
use Rattle.std.proofs.Common.{◌∙◌, eqb, take, rules, tests}
use Rattle.std.proofs.lemmas.Iterator.{YieldsList-from_slice}
use Rattle.std.proofs.lemmas.Iterator.Search.{all_from_yields_List}
use Rattle.matrices.specs.Filling.{every_taken}
use Rattle.inversion.proofs.is_zero_row.Goals as goal

pub returns : goal.returns
returns c =
    all_from_yields_List (λ x. eqb x 0) _ _ _ c.all.ensures.ran (YieldsList-from_slice (take c.args.order.n c.args.v) cc) (λ x b q k. search (rules, tests))
    ∙ every_taken (λ x. eqb x 0) 0 c.args.v c.args.order.n (search rules)
