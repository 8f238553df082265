-- Rules 1 to 3 in turn: each is asked on the payload of D where those before it hold.
use Rattle.std.proofs.Common.{◌∙◌, lit<}
use Rattle.forms.specs.Reading.{certificate_of}
use Rattle.verdict.specs.NineRules.{searched_held, searched_stays, rule_held}
use Rattle.verdict.specs.ReadPayloads.{some_order, diagonal_long, monic_payload}
use Rattle.verdict.specs.RulesInCode.{monic_searched, chain_searched, degrees_searched}
use Rattle.verdict.proofs.check.diagonal_rules.Goals as goal

pub new-d-requires : goal.new-d-requires
new-d-requires c =
    let r = c.args.certificate.now in
    diagonal_long r.bytes.now r.is_read r.modulus_is r.order_is _ c.payload.ensures

pub returns-in_err-monic_rule : goal.returns-in_err-monic_rule
returns-in_err-monic_rule c =
    let r = c.args.certificate.now in
    let one = monic_searched r.bytes.now r.modulus_is (c.new-d.ensures.0 ∙ r.order_is) _ (c.new-d.ensures.1 ∙ c.payload.ensures) c.monic_rule.ensures in
    searched_stays _ 1 2 _ _ one c.in_err-monic_rule.was c.from_residual.ensures.1

pub chain_rule-requires : goal.chain_rule-requires
chain_rule-requires c =
    let r = c.args.certificate.now in
    let one = monic_searched r.bytes.now r.modulus_is (c.new-d.ensures.0 ∙ r.order_is) _ (c.new-d.ensures.1 ∙ c.payload.ensures) c.monic_rule.ensures in
    let held = searched_held _ 1 _ one c.in_ok-monic_rule.was in (
      monic_payload r.bytes.now r.is_read r.modulus_is (c.new-d.ensures.0 ∙ r.order_is) _ (c.new-d.ensures.1 ∙ c.payload.ensures)
          (rule_held (certificate_of r.bytes.now) 1 held 0 (lit< tt)),
      some_order r.bytes.now r.is_read r.modulus_is (c.new-d.ensures.0 ∙ r.order_is),
    )

pub returns-in_err-chain_rule : goal.returns-in_err-chain_rule
returns-in_err-chain_rule c =
    let r = c.args.certificate.now in
    let one = monic_searched r.bytes.now r.modulus_is (c.new-d.ensures.0 ∙ r.order_is) _ (c.new-d.ensures.1 ∙ c.payload.ensures) c.monic_rule.ensures in
    let two = chain_searched r.bytes.now r.modulus_is (c.new-d.ensures.0 ∙ r.order_is) _ (c.new-d.ensures.1 ∙ c.payload.ensures) (searched_held _ 1 _ one c.in_ok-monic_rule.was) c.chain_rule.ensures in
    searched_stays _ 2 1 _ _ two c.in_err-chain_rule.was c.from_residual-in_err-chain_rule.ensures.1

pub returns : goal.returns
returns c =
    let r = c.args.certificate.now in
    let one = monic_searched r.bytes.now r.modulus_is (c.new-d.ensures.0 ∙ r.order_is) _ (c.new-d.ensures.1 ∙ c.payload.ensures) c.monic_rule.ensures in
    let two = chain_searched r.bytes.now r.modulus_is (c.new-d.ensures.0 ∙ r.order_is) _ (c.new-d.ensures.1 ∙ c.payload.ensures) (searched_held _ 1 _ one c.in_ok-monic_rule.was) c.chain_rule.ensures in
    degrees_searched r.bytes.now r.modulus_is (c.new-d.ensures.0 ∙ r.order_is) _ (c.new-d.ensures.1 ∙ c.payload.ensures) (searched_held _ 2 _ two c.in_ok-chain_rule.was) c.degrees_rule.ensures
