-- Each test of the code is one of the two questions.
use Rattle.std.proofs.Common.{sym, ◌∙◌, Bool, ◌&&◌, ℕ, leb, ap, not}
use borrow.Author.Tests.{not-true, not-false}
use Rattle.forms.specs.Numbers.{order_limit}
use Rattle.forms.specs.Answers.{ask}
use Rattle.forms.specs.Reading.{order_and_prime}
use Rattle.certificate.proofs.limits.order_and_prime.Goals as goal

abbrev ordered : ℕ → Bool
ordered n = leb 1 n && leb n order_limit

pub returns-then-not-n : goal.returns-then-not-n
unfolding order_and_prime ask
returns-then-not-n c = simp (not-true (ordered c.args.n) (ap not c.if-not-n.true))

pub returns-then-not-is_prime : goal.returns-then-not-is_prime
unfolding order_and_prime ask
returns-then-not-is_prime c = simp (not-false (ordered c.args.n) (ap not c.if-not-n.false), sym c.is_prime.ensures ∙ not-true c.is_prime.result (ap not c.if-not-is_prime.true))

pub returns : goal.returns
unfolding order_and_prime ask
returns c = simp (not-false (ordered c.args.n) (ap not c.if-not-n.false), sym c.is_prime.ensures ∙ not-false c.is_prime.result (ap not c.if-not-is_prime.false))
