-- `polynomials::divide` meets its contract: g is q f + r in every turn, and r has at most `last` coefficients.
use Rattle.polynomials.specs.LongDivision.{Dividing}
use Rattle.polynomials.proofs.divide.Given as goal

abbrev pub invariant-loop-last : goal.invariant-loop-last
invariant-loop-last l = Dividing l.m.p l.initial.remainder l.f.coefficients l.f.len l.last l.quotient l.remainder
