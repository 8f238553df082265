-- After j turns j columns are those of E.
use Rattle.forms.specs.Primes.{prime_means}
use Rattle.inversion.specs.Inversion.{eliminating_start, eliminating_none, eliminating_end}
use Rattle.inversion.proofs.inverse.Goals as goal

pub loop-j-init : goal.loop-j-init
loop-j-init c = eliminating_start _ _ _ _ (prime_means _ c.requires).large c.identity.ensures

pub returns-in_default : goal.returns-in_default
returns-in_default c = eliminating_none _ _ _ _ _ _ (prime_means _ c.requires) c.loop-j-test.true c.in_default.ensures c.loop-j.invariant

pub returns : goal.returns
returns c = eliminating_end _ _ _ _ _ _ c.loop-j.auto.j-end c.loop-j-test.false c.loop-j.invariant
