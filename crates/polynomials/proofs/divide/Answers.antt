-- `polynomials::divide` meets its contract: g is q f + r in every turn, and r has at most `last` coefficients.
use Rattle.std.proofs.Common.{arith}
use Rattle.forms.specs.Primes.{prime_means}
use Rattle.polynomials.specs.LongDivision.{dividing_start, dividing_turn}
use Rattle.polynomials.proofs.divide.Goals as goal

pub loop-last-init : goal.loop-last-init
loop-last-init c = dividing_start _ c.requires.1

pub loop-last-preserved : goal.loop-last-preserved
loop-last-preserved c =
    let pre = c.requires in
    dividing_turn _ (prime_means _ pre.0) pre.2 pre.3 c.reciprocal_of-reciprocal.ensures
    c.loop-last.invariant (omega arith) (omega (arith, pre.1.trimmed.fits)) (omega arith) c.plus_multiple-c.ensures c.less_multiple-remainder.ensures
