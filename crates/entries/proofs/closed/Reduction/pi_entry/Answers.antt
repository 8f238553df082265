-- The constant term, and minus the entry before it where the row begins no block; the other coefficients are zero.
use Rattle.std.proofs.Common.{ℕ, arith, refl, sym, ◌∙◌, length-set}
use Rattle.heads.specs.Heads.{begins_not_first}
use Rattle.matrices.specs.Filling.{fill_start}
use Rattle.entries.specs.Entries.{PI_first, PI_second, PI_head_short, PI_short}
use Rattle.entries.specs.PutEntries.{one_coefficient, coefficients_more, coefficients_end}
use Rattle.entries.proofs.closed.Reduction.pi_entry.Goals as goal

pub returns-then-is_head : goal.returns-then-is_head
returns-then-is_head c = one_coefficient (PI_first _ _ _ _ _) (omega arith) (PI_head_short _ _ _ _ _ (sym c.is_head.ensures ∙ c.if-is_head.true))

pub overflow_sub-i : goal.overflow_sub-i
overflow_sub-i c = omega (arith, begins_not_first _ _ (sym c.is_head.ensures ∙ c.if-is_head.false))

pub bounds-entry-1 : goal.bounds-entry-1
bounds-entry-1 c = omega (arith, length-set {A = ℕ}, begins_not_first _ _ (sym c.is_head.ensures ∙ c.if-is_head.false))

pub returns : goal.returns
returns c =
    let other = sym c.is_head.ensures ∙ c.if-is_head.false in
    let first = begins_not_first _ _ other in
    coefficients_end 2
    (coefficients_more _ _ 1 (coefficients_more _ _ 0 (fill_start _ _) (PI_first _ _ _ _ _) refl refl (omega arith)) (c.opposite.ensures ∙ PI_second _ _ _ _ _ other) refl refl (omega arith))
    (omega arith)
    (PI_short _ _ _ _ _)
