-- The table is that of the degrees of D.
use Rattle.std.proofs.Common.{◌∙◌, ap, ℕ, eqb}
use Rattle.forms.specs.Tests.{total_equal}
use Rattle.rules.specs.Diagonal.{degrees_limited}
use Rattle.products.specs.Searches.{failing}
use Rattle.rules.proofs.diagonal.Diagonal.degrees_rule.Goals as goal

pub degrees_rule-requires : goal.degrees_rule-requires
degrees_rule-requires c = degrees_limited _ _ _ c.args.self.now.degrees_are

pub returns : goal.returns
returns c =
    let d = c.args.self.now in
    c.degrees_rule.ensures ∙ ap (λ (x : ℕ). failing (eqb x d.order.n) 3) (total_equal d.order.n _ _ d.degrees_are)
