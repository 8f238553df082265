-- What is taken off is the multiple of p below x.
use Rattle.std.proofs.Common.{rules, arith, mod-lt}
use Rattle.residues.specs.Remainders.{multiple_below, remainder_is}
use Rattle.residues.proofs.modulus.Modulus.remainder.Goals as goal

pub overflow_sub-result : goal.overflow_sub-result
overflow_sub-result c = let m = c.args.self in rw (c.from-number.ensures, c.from.ensures) (multiple_below c.args.x m.p m.factor m.positive (search rules) c.requires m.factor_is)

pub overflow_cast-result : goal.overflow_cast-result
overflow_cast-result c = let m = c.args.self in rw (c.from-number.ensures, c.from.ensures) (omega (arith, remainder_is c.args.x m.p m.factor m.positive (search rules) c.requires m.factor_is, mod-lt c.args.x m.positive))

pub returns : goal.returns
returns c = let m = c.args.self in rw (c.from-number.ensures, c.from.ensures) (remainder_is c.args.x m.p m.factor m.positive (search rules) c.requires m.factor_is)
