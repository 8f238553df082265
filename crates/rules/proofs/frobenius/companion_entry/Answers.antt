-- The three cases of the block: its last column, the ones below its diagonal, and zero.
use Rattle.std.proofs.Common.{sym, arith}
use Rattle.rules.specs.Diagonal.{has_coefficients, degrees_limited, coefficient_small}
use Rattle.rules.specs.FrobeniusSearch.{companion_last, companion_before}
use Rattle.rules.proofs.frobenius.companion_entry.Goals as goal

pub overflow_add-j : goal.overflow_add-j
overflow_add-j c = let a = c.args in omega (arith, c.requires.2, degrees_limited _ _ _ a.d.now.degrees_are a.b c.requires.1)

pub bounds-polynomial-i : goal.bounds-polynomial-i
bounds-polynomial-i c = let a = c.args in omega (arith, c.requires.2, c.polynomial.ensures.long, degrees_limited _ _ _ a.d.now.degrees_are a.b c.requires.1)

pub overflow_sub-result : goal.overflow_sub-result
overflow_sub-result c =
    let a = c.args in let h = c.requires in
    omega (arith, coefficient_small (has_coefficients c.polynomial.ensures) h.0 a.i (omega (arith, h.2, degrees_limited _ _ _ a.d.now.degrees_are a.b h.1)))

pub returns-then-j-d : goal.returns-then-j-d
returns-then-j-d c = let a = c.args in companion_last a.m.p _ _ a.i a.j _ c.if-j-d.true (sym (c.polynomial.ensures.coefficient a.i))

pub returns : goal.returns
returns c = let a = c.args in companion_before a.m.p _ _ a.i a.j _ c.if-j-d.false c.from.ensures
