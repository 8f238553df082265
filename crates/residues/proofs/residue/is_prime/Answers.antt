-- The code is the sieve of specs/Primes.antt.
use Rattle.residues.specs.Primes.{sieve}
use Rattle.residues.proofs.Primes.{sieve_is_prime}
use Rattle.residues.proofs.residue.is_prime.Goals as goal

pub returns : goal.returns
unfolding sieve
returns c = sieve_is_prime c.args.p
