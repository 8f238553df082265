-- The products A T and T F of the loaded matrices are compared.
use Rattle.std.proofs.Common.{◌∙◌, ap, Bool}
use Rattle.rules.specs.FieldRules.{cells_test, payload_product}
use Rattle.products.specs.Searches.{failing}
use Rattle.rules.proofs.field.similar_rule.Goals as goal

pub returns : goal.returns
returns c =
    let a = c.args in
    c.differing.ensures ∙ ap (λ (b : Bool). failing b 9) (cells_test a.m.p a.order.n a.m.positive _ _ _ _ c.product-left.ensures.field c.product-right.ensures.field
    (payload_product a.m.p a.order.n a.m.positive a.field.now a.base.now _ _ _ c.field_matrix.ensures c.field_matrix-t.ensures c.product-left.ensures)
    (payload_product a.m.p a.order.n a.m.positive a.base.now a.form.now _ _ _ c.field_matrix-t.ensures c.field_matrix-2.ensures c.product-right.ensures))
