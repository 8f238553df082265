-- What the tests of a window read off the matrix: that nothing is left behind the block of m, and how far its polynomial kills the basis vectors.
use Rattle.std.specs.Prelude.{◌≡◌, ℕ, ◌+◌, ◌≤◌, ◌<◌, Option, Some, None, MatchOption}
use Rattle.std.proofs.Common.{subst, arith}
use Rattle.std.proofs.Math.Decide.{ℕ_discrete}
use Rattle.matrices.specs.Matrices.{cell}
use Rattle.basis.specs.State.{Array}
use Rattle.splitting.specs.Powers.{KillsUnit}

-- row i has nothing in the columns m .. k - 1
abbrev pub NothingInRow : (m k : ℕ) → Array → ℕ → Type 0
NothingInRow m k b i = (t : ℕ) → m ≤ t → t < k → cell b i t ≡ 0

-- rows 0 .. m - 1 have nothing in the columns m .. k - 1
abbrev pub NothingBehind : (m k : ℕ) → Array → Type 0
NothingBehind m k b = (i : ℕ) → i < m → NothingInRow m k b i

-- e_r is in the window [0,k), or r is k, and e_from .. e_(r-1) are killed
pub record FirstUnkilled (p n m from k : ℕ) (b : Array) (r : ℕ) : Type 0 where
  pub low : from ≤ r
  pub high : r ≤ k
  pub killed : (t : ℕ) → from ≤ t → t < r → KillsUnit p n m b t

-- the place of such an e_r in the window, or none
abbrev pub FoundUnkilled : (p n m from k : ℕ) → Array → Option ℕ → Type 0
FoundUnkilled p n m from k b (Some r) = FirstUnkilled p n m from k b r × (r < k)
FoundUnkilled p n m from k b None = FirstUnkilled p n m from k b k

-- what a search over the range says
pub unkilled_in_range : (p n m from k : ℕ) (b : Array) (r : Option ℕ) → from ≤ k
    → MatchOption r ((t : ℕ) → from ≤ t → t < k → KillsUnit p n m b t) (λ i. (from ≤ i) × (i < k) × Unit {0} × ((t : ℕ) → from ≤ t → t < i → KillsUnit p n m b t)) → FoundUnkilled p n m from k b r
unkilled_in_range p n m from k b (Some r) l h = (record { low = h.0; high = omega (arith, h.1); killed = h.3 }, h.1)
unkilled_in_range p n m from k b None l h = record { low = l; high = omega arith; killed = h }

-- no vector is passed at the start, and one more that is killed
module _ (p n m from k : ℕ) (b : Array) where
  pub unkilled_start : from ≤ k → FirstUnkilled p n m from k b from
  unkilled_start h = record { low = omega arith; high = h; killed = λ t a l. absurd (omega arith) }

  pub unkilled_turn : (j : ℕ) → j < k → FirstUnkilled p n m from k b j → KillsUnit p n m b j → FirstUnkilled p n m from k b (j + 1)
  unkilled_turn j l x h = record {
    low = omega (arith, x.low);
    high = omega arith;
    killed = λ t a g. elim (ℕ_discrete j t) [ yes e ↦ subst (KillsUnit p n m b) e h | no e ↦ x.killed t a (omega arith) ];
  }
