-- The degree is the last index with a coefficient that is not zero.
use Rattle.std.proofs.Common.{◌∙◌, rules}
use Rattle.polynomials.specs.Degree.{LastNonzero, degree_last}
use Rattle.polynomials.proofs.degree_of.Goals as goal

pub returns : goal.returns
returns c =
    let last : LastNonzero c.args.f.now c.rposition.result = search rules in
    c.unwrap_or.ensures ∙ degree_last c.args.f.now _ last
