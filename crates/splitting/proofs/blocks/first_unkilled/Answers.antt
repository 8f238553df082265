-- The first vector that is not found killed, as the search over the range has it.
use Rattle.std.proofs.Common.{rules}
use borrow.Author.Tests.{tests}
use Rattle.std.proofs.lemmas.Iterator.{first_from_Range}
use Rattle.splitting.specs.Powers.{KillsUnit}
use Rattle.splitting.specs.Tests.{unkilled_in_range}
use Rattle.splitting.proofs.blocks.first_unkilled.Goals as goal

pub returns : goal.returns
returns c = unkilled_in_range _ _ _ _ _ c.args.b.now c.find.result (search rules) (first_from_Range _ _ _ c.find.result (λ j. Unit {0}) (KillsUnit c.args.modulus.p c.args.order.n c.args.m c.args.b.now) c.find.ensures.ran (λ x q k. tt) (λ x q k. search (rules, tests)))
