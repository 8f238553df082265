-- `polynomials::divides` meets its contract: the remainder has no coefficient exactly where f divides g.
use Rattle.forms.specs.Primes.{prime_means}
use Rattle.polynomials.proofs.Divisibility.{divides_by_remainder}
use Rattle.polynomials.proofs.divides.Goals as goal

pub returns : goal.returns
returns c =
    let pre = c.requires in
    divides_by_remainder (prime_means _ pre.0) pre.1 pre.3 c.divide.ensures
