-- The constant term is tested, and then each of the coefficients above it, which are zero in E.
use Rattle.std.proofs.Common.{sym, ◌∙◌, refl, Bool, ℕ, ◌+◌, ◌*◌, ◌%◌, eqb, rules, tests, arith}
use Rattle.std.proofs.lemmas.Iterator.{YieldsList-from_range}
use Rattle.std.proofs.lemmas.Iterator.Search.{all_from_yields_List}
use Rattle.forms.specs.Numbers.{at}
use Rattle.products.specs.Products.{unit_by_parts}
use Rattle.products.specs.Searches.{every_from}
use Rattle.products.proofs.is_unit_entry.Goals as goal

pub returns-then-is_congruent : goal.returns-then-is_congruent
returns-then-is_congruent c =
    let a = c.args in let z = 2 * a.order.n in let t : ℕ → Bool = λ k. eqb (at a.sums.now k % a.m.p) (0 % a.m.p) in
    let above = all_from_yields_List t _ _ _ c.all.ensures.ran (YieldsList-from_range 1 (z + 1) z refl (omega arith)) (λ x b q k. search (rules, tests)) ∙ every_from 1 z t in
    unit_by_parts a.m.p z a.i a.j (at a.sums.now) c.unit_coefficient.ensures (sym c.if-is_congruent.true ∙ c.is_congruent.ensures) above

pub returns-else-is_congruent : goal.returns-else-is_congruent
returns-else-is_congruent c =
    let a = c.args in
    c.if-is_congruent.false ∙ unit_by_parts a.m.p (2 * a.order.n) a.i a.j (at a.sums.now) c.unit_coefficient.ensures (sym c.if-is_congruent.false ∙ c.is_congruent.ensures) refl
