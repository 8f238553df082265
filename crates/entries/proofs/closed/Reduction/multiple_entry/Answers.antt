-- The multiples of the polynomial's coefficients, the first with the entry before it, and the leading one last.
use Rattle.std.proofs.Common.{arith, ◌≡◌, ◌∙◌, ◌+◌, ◌-◌}
use Rattle.heads.specs.Heads.{begins_not_first}
use Rattle.entries.specs.Entries.{only_first, QI_inside, QI_leading, QI_short}
use Rattle.entries.specs.PutEntries.{coefficients_none, coefficients_more, coefficients_end}
use Rattle.entries.proofs.closed.Reduction.multiple_entry.Goals as goal

pub overflow_sub-i : goal.overflow_sub-i
overflow_sub-i c = omega (arith, begins_not_first _ _ c.requires.4)

pub loop-row-init : goal.loop-row-init
loop-row-init c = let none : c.args.i - c.args.i ≡ 0 = omega arith in (omega arith, rw none c.from-more.ensures, coefficients_none _ _ none)

pub loop-row-preserved : goal.loop-row-preserved
loop-row-preserved c =
    let l = c.loop-row in
    let a = c.args in (
      omega arith,
      only_first (l.row + 1 - a.i) _ (omega arith),
      coefficients_more _ _ (l.row - a.i) l.invariant.2
          (c.remainder.ensures ∙ rw (l.invariant.1, c.from-scale.ensures, c.from-b.ensures, c.opposite.ensures) (QI_inside _ _ _ _ _ _ c.requires.4 l.row (omega arith) (omega arith)))
          (omega arith) (omega arith) (omega arith),
    )

pub bounds-entry-end : goal.bounds-entry-end
bounds-entry-end c = omega (arith, begins_not_first _ _ c.requires.4)

pub returns : goal.returns
returns c =
    let l = c.loop-row in
    let first = begins_not_first _ _ c.requires.4 in
    let k = l.row - c.args.i in
    coefficients_end (k + 1)
    (coefficients_more _ _ k l.invariant.2 (QI_leading _ _ _ _ _ _ c.requires.4 k (omega arith) (omega arith) (c.args.self.now.small.TI.entry _ _)) (omega arith) (omega arith) (omega arith))
    (omega arith)
    (λ k h. QI_short _ _ _ _ _ _ c.requires.4 k (omega arith) (omega arith))
