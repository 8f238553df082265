-- Rules 4 to 6 in turn: each is asked on its payloads where those before it hold.
use Rattle.std.proofs.Common.{◌∙◌}
use Rattle.verdict.specs.NineRules.{searched_held, searched_stays}
use Rattle.verdict.specs.ReadPayloads.{diagonal_long, left_payloads, right_payloads, smith_payloads}
use Rattle.verdict.specs.RulesInCode.{left_searched, right_searched, smith_searched}
use Rattle.verdict.proofs.check.smith_rules.Goals as goal

pub inverse_rule-requires : goal.inverse_rule-requires
inverse_rule-requires c =
    let r = c.args.certificate.now in
    left_payloads r.bytes.now r.is_read r.modulus_is r.order_is _ _ c.payload-left.ensures c.payload.ensures

pub returns-in_err-inverse_rule : goal.returns-in_err-inverse_rule
returns-in_err-inverse_rule c =
    let r = c.args.certificate.now in
    let four = left_searched r.bytes.now r.modulus_is r.order_is _ _ c.payload-left.ensures c.payload.ensures c.requires c.inverse_rule.ensures in
    searched_stays _ 4 2 _ _ four c.in_err-inverse_rule.was c.from_residual.ensures.1

pub inverse_rule-requires-2 : goal.inverse_rule-requires-2
inverse_rule-requires-2 c =
    let r = c.args.certificate.now in
    right_payloads r.bytes.now r.is_read r.modulus_is r.order_is _ _ c.payload-2.ensures c.payload-back.ensures

pub returns-in_err-inverse_rule-2 : goal.returns-in_err-inverse_rule-2
returns-in_err-inverse_rule-2 c =
    let r = c.args.certificate.now in
    let four = left_searched r.bytes.now r.modulus_is r.order_is _ _ c.payload-left.ensures c.payload.ensures c.requires c.inverse_rule.ensures in
    let five = right_searched r.bytes.now r.modulus_is r.order_is _ _ c.payload-2.ensures c.payload-back.ensures (searched_held _ 4 _ four c.in_ok-inverse_rule.was) c.inverse_rule-2.ensures in
    searched_stays _ 5 1 _ _ five c.in_err-inverse_rule-2.was c.from_residual-in_err-inverse_rule-2.ensures.1

pub new-d-requires : goal.new-d-requires
new-d-requires c =
    let r = c.args.certificate.now in
    diagonal_long r.bytes.now r.is_read r.modulus_is r.order_is _ c.payload-3.ensures

pub smith_rule-requires : goal.smith_rule-requires
smith_rule-requires c =
    let r = c.args.certificate.now in
    smith_payloads r.bytes.now r.is_read r.modulus_is (c.new-d.ensures.0 ∙ r.order_is) _ _ _ c.payload-left.ensures c.payload-4.ensures c.payload-back.ensures

pub returns : goal.returns
returns c =
    let r = c.args.certificate.now in
    let four = left_searched r.bytes.now r.modulus_is r.order_is _ _ c.payload-left.ensures c.payload.ensures c.requires c.inverse_rule.ensures in
    let five = right_searched r.bytes.now r.modulus_is r.order_is _ _ c.payload-2.ensures c.payload-back.ensures (searched_held _ 4 _ four c.in_ok-inverse_rule.was) c.inverse_rule-2.ensures in
    smith_searched r.bytes.now r.modulus_is (c.new-d.ensures.0 ∙ r.order_is) _ (c.new-d.ensures.1 ∙ c.payload-3.ensures) _ _ _ c.payload-left.ensures c.payload-4.ensures c.payload-back.ensures
    r.is_read (searched_held _ 5 _ five c.in_ok-inverse_rule-2.was) c.smith_rule.ensures
