-- Rules 7 to 9 in turn: each is asked on its payloads where those before it hold.
use Rattle.std.proofs.Common.{◌∙◌}
use Rattle.verdict.specs.NineRules.{searched_held, searched_stays}
use Rattle.verdict.specs.ReadPayloads.{diagonal_long, frobenius_payloads, base_payloads, similar_payloads}
use Rattle.verdict.specs.RulesInCode.{built_searched, base_searched, similar_searched}
use Rattle.verdict.proofs.check.frobenius_rules.Goals as goal

pub new-d-requires : goal.new-d-requires
new-d-requires c =
    let r = c.args.certificate.now in
    diagonal_long r.bytes.now r.is_read r.modulus_is r.order_is _ c.payload.ensures

pub frobenius_rule-requires : goal.frobenius_rule-requires
frobenius_rule-requires c =
    let r = c.args.certificate.now in
    frobenius_payloads r.bytes.now r.is_read r.modulus_is (c.new-d.ensures.0 ∙ r.order_is) _ (c.new-d.ensures.1 ∙ c.payload.ensures) _ c.payload-blocks.ensures

pub returns-in_err-frobenius_rule : goal.returns-in_err-frobenius_rule
returns-in_err-frobenius_rule c =
    let r = c.args.certificate.now in
    let seven = built_searched r.bytes.now r.modulus_is (c.new-d.ensures.0 ∙ r.order_is) _ (c.new-d.ensures.1 ∙ c.payload.ensures) _ c.payload-blocks.ensures c.requires c.frobenius_rule.ensures in
    searched_stays _ 7 2 _ _ seven c.in_err-frobenius_rule.was c.from_residual.ensures.1

pub base_rule-requires : goal.base_rule-requires
base_rule-requires c =
    let r = c.args.certificate.now in
    base_payloads r.bytes.now r.is_read r.modulus_is r.order_is _ _ c.payload-base.ensures c.payload-2.ensures

pub returns-in_err-base_rule : goal.returns-in_err-base_rule
returns-in_err-base_rule c =
    let r = c.args.certificate.now in
    let seven = built_searched r.bytes.now r.modulus_is (c.new-d.ensures.0 ∙ r.order_is) _ (c.new-d.ensures.1 ∙ c.payload.ensures) _ c.payload-blocks.ensures c.requires c.frobenius_rule.ensures in
    let eight = base_searched r.bytes.now r.modulus_is r.order_is _ _ c.payload-base.ensures c.payload-2.ensures (searched_held _ 7 _ seven c.in_ok-frobenius_rule.was) c.base_rule.ensures in
    searched_stays _ 8 1 _ _ eight c.in_err-base_rule.was c.from_residual-in_err-base_rule.ensures.1

pub similar_rule-requires : goal.similar_rule-requires
similar_rule-requires c =
    let r = c.args.certificate.now in
    similar_payloads r.bytes.now r.is_read r.modulus_is r.order_is _ _ _ c.payload-3.ensures c.payload-base.ensures c.payload-blocks.ensures

pub returns : goal.returns
returns c =
    let r = c.args.certificate.now in
    let seven = built_searched r.bytes.now r.modulus_is (c.new-d.ensures.0 ∙ r.order_is) _ (c.new-d.ensures.1 ∙ c.payload.ensures) _ c.payload-blocks.ensures c.requires c.frobenius_rule.ensures in
    let eight = base_searched r.bytes.now r.modulus_is r.order_is _ _ c.payload-base.ensures c.payload-2.ensures (searched_held _ 7 _ seven c.in_ok-frobenius_rule.was) c.base_rule.ensures in
    similar_searched r.bytes.now r.modulus_is r.order_is _ _ _ c.payload-3.ensures c.payload-base.ensures c.payload-blocks.ensures (searched_held _ 8 _ eight c.in_ok-base_rule.was) c.similar_rule.ensures
