-- Each return meets the contract by what the tests before it say.
use Rattle.std.proofs.Common.{◌≡◌, ℕ, Bool, true, sym, ◌∙◌, subst, arith, T}
use Rattle.forms.specs.Numbers.{prime}
use Rattle.forms.specs.Primes.{prime_limited}
use Rattle.residues.specs.Answer.{bad_prime_refused, large_refused, residue_answered}
use Rattle.residues.proofs.residue.reciprocal.Goals as goal

-- what the test says of p
told : (p : ℕ) {test answer : Bool} → test ≡ prime p → test ≡ answer → prime p ≡ answer
told p e h = sym e ∙ h

passes : (p : ℕ) {test : Bool} → test ≡ prime p → test ≡ true → T (prime p)
passes p e h = subst T (sym (told p e h)) tt

pub returns-then-not-is_prime : goal.returns-then-not-is_prime
returns-then-not-is_prime c = bad_prime_refused (told c.args.p c.is_prime.ensures c.if-not-is_prime.true)

pub returns-then-x-p : goal.returns-then-x-p
returns-then-x-p c = large_refused (told c.args.p c.is_prime.ensures c.if-not-is_prime.false) (omega arith)

pub overflow_cast-x : goal.overflow_cast-x
overflow_cast-x c = omega (arith, prime_limited _ (passes c.args.p c.is_prime.ensures c.if-not-is_prime.false))

pub overflow_cast-p : goal.overflow_cast-p
overflow_cast-p c = omega (arith, prime_limited _ (passes c.args.p c.is_prime.ensures c.if-not-is_prime.false))

pub returns : goal.returns
returns c = residue_answered (told c.args.p c.is_prime.ensures c.if-not-is_prime.false) (omega arith) c.reciprocal_of.ensures
