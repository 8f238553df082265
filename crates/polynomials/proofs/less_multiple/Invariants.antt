-- `polynomials::less_multiple` meets its contract: after i turns the first i coefficients of f have been dealt with.
use Rattle.polynomials.specs.Subtraction.{Lessened}
use Rattle.polynomials.proofs.less_multiple.Given as goal

abbrev pub invariant-loop-i : goal.invariant-loop-i
invariant-loop-i l = Lessened l.m.p l.r l.f.coefficients l.k l.c l.i l.d
