-- The first entry that is not zero, as the search over the range has it.
use Rattle.std.proofs.Common.{rules, arith, ◌≡◌, ◌≢◌, ◌+◌}
use borrow.Author.Tests.{tests}
use Rattle.std.proofs.lemmas.Iterator.{first_from_Range}
use Rattle.matrices.specs.Matrices.{cell}
use Rattle.splitting.specs.Finding.{found_in_range}
use Rattle.splitting.proofs.passes.first_pivot.Goals as goal

pub returns : goal.returns
returns c = found_in_range (λ i. cell c.args.b.now i c.args.j) (c.args.j + 1) c.args.k c.find.result (omega arith)
    (first_from_Range _ _ _ c.find.result (λ i. cell c.args.b.now i c.args.j ≢ 0) (λ i. cell c.args.b.now i c.args.j ≡ 0) c.find.ensures.ran (λ x q k. search (rules, tests)) (λ x q k. search (rules, tests)))
