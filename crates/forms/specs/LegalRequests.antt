-- A request in which the analysis has nothing to refuse.
use Rattle.std.specs.Prelude.{List, ℕ, ◌*◌, ◌≤◌, T}
use Rattle.forms.specs.Numbers.{prime, order_limit}
use Rattle.forms.specs.Words.{Residues}

pub record Legal (p n : ℕ) (A : List ℕ) : Type 0 where
  pub low : 1 ≤ n
  pub high : n ≤ order_limit
  pub prime_p : T (prime p)
  pub residues : Residues p (n * n) A
