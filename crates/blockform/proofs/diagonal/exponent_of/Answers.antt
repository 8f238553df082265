-- The first coefficient that is not zero, or the end.
use Rattle.std.proofs.Common.{◌∙◌, rules}
use Rattle.blockform.specs.Diagonal.{FirstNonzero, exponent_first}
use Rattle.blockform.proofs.diagonal.exponent_of.Goals as goal

pub returns : goal.returns
returns c =
    let first : FirstNonzero c.args.f.now c.position.result = search rules in
    c.unwrap_or.ensures ∙ exponent_first c.args.f.now _ first
