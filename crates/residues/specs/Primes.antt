-- The six divisions that tell the primes from 2 to 251 from the other numbers.
use Rattle.std.specs.Prelude.{Bool, not, ◌&&◌, ◌||◌, ℕ, ◌%◌, eqb, leb}

-- p is d, or d does not divide it
abbrev pub passes : ℕ → ℕ → Bool
passes p d = eqb p d || not (eqb (p % d) 0)

-- since 251 is below 17 * 17, six divisions are enough
unfoldable pub sieve : ℕ → Bool
sieve p = leb 2 p && leb p 251 && passes p 2 && passes p 3 && passes p 5 && passes p 7 && passes p 11 && passes p 13
