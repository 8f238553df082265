-- What the definitions are written with: bytes of a list, sums and tests over an index, and the primes of document 01.
use Rattle.std.specs.Prelude.{Bool, true, not, ◌&&◌, List, ℕ, zero, suc, ◌+◌, ◌-◌, ◌%◌, eqb, leb, get_or}

-- the largest order and the largest prime
abbrev pub order_limit : ℕ
order_limit = 12

abbrev pub prime_limit : ℕ
prime_limit = 251

-- byte k; 0 past the end
abbrev pub at : List ℕ → ℕ → ℕ
at s k = get_or s k 0

-- f 0 + .. + f (n-1)
unfoldable pub total : ℕ → (ℕ → ℕ) → ℕ
total zero f = 0
total (suc n) f = total n f + f n

-- t 0 and .. and t (n-1)
unfoldable pub every : ℕ → (ℕ → Bool) → Bool
every zero t = true
every (suc n) t = every n t && t n

-- a prime in 2..251
unfoldable pub prime : ℕ → Bool
prime p = leb 2 p && leb p prime_limit && every (p - 2) (λ d. not (eqb (p % (2 + d)) 0))
