-- The vector e_0 + e_j replaces e_0, and a pass follows.
use Rattle.std.proofs.Common.{arith}
use Rattle.forms.specs.Primes.{prime_means}
use Rattle.basis.specs.State.{given_whole, given_next}
use Rattle.splitting.specs.Blocking.{joined_first, joined_field, join_ready, joined}
use Rattle.splitting.proofs.blocks.join.Goals as goal

pub replace-requires : goal.replace-requires
replace-requires c = (
  given_whole c.requires.0,
  omega (arith, c.requires.0.fits),
  rw (c.with_entry-w.ensures, c.unit_row.ensures) (joined_field _ _ _ c.requires.0.order c.requires.1 (omega (arith, c.requires.0.fits)) (prime_means _ c.requires.0.prime_p).large),
  rw (c.with_entry-w.ensures, c.unit_row.ensures) (λ z. omega (arith, joined_first 2 c.args.order.n _ c.requires.0.order c.requires.1 (omega (arith, c.requires.0.fits)), z)),
)

pub chain-requires : goal.chain-requires
chain-requires c = (given_next c.requires.0 c.replace.ensures.0, omega arith, join_ready _ _ _ _ c.args.s _ c.replace.result c.requires.0 c.requires.1 c.requires.2 (rw c.unit_row.ensures at c.with_entry-w.ensures) c.replace.ensures.1 c.requires.3)

pub returns : goal.returns
returns c = (c.chain.ensures.0, joined _ _ _ _ c.args.s _ c.replace.result c.requires.0 c.requires.1 c.requires.2 (rw c.unit_row.ensures at c.with_entry-w.ensures) c.replace.ensures.1 c.chain.result c.chain.ensures.1)
