-- The product of the loaded matrices is compared with E.
use Rattle.std.proofs.Common.{◌∙◌, ap, Bool}
use Rattle.rules.specs.FieldRules.{cells_test, payload_product, identity_is}
use Rattle.products.specs.Searches.{failing}
use Rattle.rules.proofs.field.base_rule.Goals as goal

pub returns : goal.returns
returns c =
    let a = c.args in
    c.differing.ensures ∙ ap (λ (b : Bool). failing b 8) (cells_test a.m.p a.order.n a.m.positive _ _ _ _ c.product-unit.ensures.field (c.identity.ensures.field a.m.p c.requires.large)
    (payload_product a.m.p a.order.n a.m.positive a.base.now a.back.now _ _ _ c.field_matrix-t.ensures c.field_matrix.ensures c.product-unit.ensures)
    (identity_is a.m.p a.order.n a.m.positive _ c.identity.ensures))
