-- Six divisions tell the primes from 2 to 251 from the other numbers.
use Rattle.std.specs.Prelude.{◌≡◌, refl, Bool, true, false, ℕ, ◌+◌, ◌-◌, T}
use Rattle.std.proofs.Common.{subst, arith}
use Rattle.std.proofs.Math.Bool.{and-false}
use Rattle.std.specs.Bool.{beq}
use Rattle.std.proofs.Math.Decide.{dec_lt}
use Rattle.std.proofs.lemmas.Bool.{lt-leb}
use Rattle.forms.specs.Numbers.{every, prime}
use Rattle.forms.specs.Tests.{every_at}
use Rattle.residues.specs.Primes.{sieve}

-- two Bools that are the same
same_value : (a b : Bool) → T (beq a b) → a ≡ b
same_value true true t = refl
same_value true false t = absurd t
same_value false true t = absurd t
same_value false false t = refl

-- one test over the numbers from 2 to 251
tested : T (every 250 (λ k. beq (sieve (2 + k)) (prime (2 + k))))
unfolding every prime sieve
tested = tt

pub sieve_is_prime : (p : ℕ) → sieve p ≡ prime p
unfolding prime sieve
sieve_is_prime p = elim (dec_lt p 2) [
  | yes l ↦ rw (lt-leb 2 p l)
  | no l ↦ elim (dec_lt 251 p) [
    | yes m ↦ simp (lt-leb p 251 m, and-false)
    | no m ↦ let place : 2 + (p - 2) ≡ p = omega arith in
        subst (λ (k : ℕ). sieve k ≡ prime k) place (same_value _ _ (every_at 250 (λ k. beq (sieve (2 + k)) (prime (2 + k))) tested (p - 2) (omega arith)))
  ]
]
