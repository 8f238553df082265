-- The search yields the first entry that is not zero.
use Rattle.std.proofs.Common.{◌%◌, ◌≡◌, ◌≢◌, rules, tests}
use Rattle.std.proofs.lemmas.Iterator.{first_from_Range}
use Rattle.matrices.specs.Matrices.{cell}
use Rattle.inversion.specs.Inversion.{pivoted}
use Rattle.inversion.proofs.pivot.Goals as goal

pub returns : goal.returns
returns c =
    let a = c.args in
    pivoted _ _ _ _ _ (first_from_Range _ _ _ _ (λ i. cell a.a i a.j % a.m.p ≢ 0) (λ i. cell a.a i a.j % a.m.p ≡ 0) c.find.ensures.ran (λ x q k. search (rules, tests)) (λ x q k. search (rules, tests)))
