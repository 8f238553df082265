-- The first n rows are tested.
use Rattle.std.proofs.Common.{◌∙◌, [], take, rules, tests}
use Rattle.std.proofs.lemmas.Iterator.{YieldsList-from_slice}
use Rattle.std.proofs.lemmas.Iterator.Search.{all_from_yields_List}
use Rattle.matrices.specs.Filling.{every_taken}
use Rattle.inversion.specs.Zeros.{zero_entries, is_zero}
use Rattle.inversion.proofs.is_zero.Goals as goal

pub returns : goal.returns
unfolding is_zero
returns c =
    all_from_yields_List (zero_entries c.args.order.n) _ _ _ c.all.ensures.ran (YieldsList-from_slice (take c.args.order.n c.args.m) cc) (λ x b q k. search (rules, tests))
    ∙ every_taken (zero_entries c.args.order.n) [] c.args.m c.args.order.n (search rules)
