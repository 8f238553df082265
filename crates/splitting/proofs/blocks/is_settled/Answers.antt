-- All rows have nothing behind the block.
use Rattle.std.proofs.Common.{rules, arith, refl}
use borrow.Author.Tests.{tests}
use Rattle.std.proofs.lemmas.Iterator.{cases_from_all, YieldsList-from_range}
use Rattle.splitting.specs.Finding.{all_in_range}
use Rattle.splitting.specs.Tests.{NothingInRow}
use Rattle.splitting.proofs.blocks.is_settled.Goals as goal

pub returns : goal.returns
returns c = all_in_range c.args.m (NothingInRow c.args.m c.args.k c.args.b.now) _ c.all.result
    (cases_from_all _ _ c.all.result (NothingInRow c.args.m c.args.k c.args.b.now) (λ r. Unit {0}) c.all.ensures.ran (YieldsList-from_range 0 c.args.m c.args.m refl (omega arith)) (λ x q k. search (rules, tests)) (λ x q k. tt))
