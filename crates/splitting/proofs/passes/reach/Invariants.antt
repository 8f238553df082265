-- All columns passed have a pivot.
use Rattle.std.proofs.Common.{ℕ, ◌<◌}
use Rattle.splitting.specs.Reaching.{HasPivot}
use Rattle.splitting.proofs.passes.reach.Given as goal

abbrev pub invariant-loop-j : goal.invariant-loop-j
invariant-loop-j l = (i : ℕ) → i < l.j → HasPivot l.k l.b i
