-- The loop keeps what `Euclid` says of the two remainders, and the second falls.
use Rattle.std.proofs.Common.{arith}
use Rattle.forms.specs.Primes.{prime_means}
use Rattle.residues.specs.Euclid.{euclid_start, euclid_step, euclid_end}
use Rattle.residues.proofs.residue.euclid.Goals as goal

pub loop-b-init : goal.loop-b-init
loop-b-init c = rw (c.from-modulus.ensures, c.from-b.ensures) (euclid_start (prime_means _ c.requires.0) c.requires.1 c.requires.2)

pub loop-b-preserved : goal.loop-b-preserved
loop-b-preserved c = rw c.from-modulus.ensures (euclid_step (prime_means c.args.p c.requires.0) c.loop-b.invariant (omega arith))

pub returns : goal.returns
returns c = euclid_end (prime_means c.args.p c.requires.0) c.loop-b.invariant (omega arith) (omega arith)
