-- The opposites are there up to j.
use Rattle.std.proofs.Common.{◌≡◌, min}
use Rattle.splitting.specs.Tails.{tail_of}
use Rattle.splitting.proofs.blocks.tail.Given as goal

abbrev pub invariant-loop-j : goal.invariant-loop-j
invariant-loop-j l = l.r ≡ tail_of l.modulus.p l.m (min l.j l.k) l.x
