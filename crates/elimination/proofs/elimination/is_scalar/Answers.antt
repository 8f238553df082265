-- All rows are those of a multiple of E.
use Rattle.std.proofs.Common.{rules, arith, refl}
use borrow.Author.Tests.{tests}
use Rattle.std.proofs.lemmas.Iterator.{cases_from_all, YieldsList-from_range}
use Rattle.splitting.specs.Finding.{all_in_range}
use Rattle.elimination.specs.Scalar.{ScalarRow}
use Rattle.elimination.proofs.elimination.is_scalar.Goals as goal

pub returns : goal.returns
returns c = λ e. record {
  rows = all_in_range c.args.k (ScalarRow c.args.k c.args.b.now) _ c.all.result
      (cases_from_all _ _ c.all.result (ScalarRow c.args.k c.args.b.now) (λ r. Unit {0}) c.all.ensures.ran (YieldsList-from_range 0 c.args.k c.args.k refl (omega arith)) (λ x q k. search (rules, tests)) (λ x q k. tt)) e;
}
