-- The loop keeps the powers of b at e_j and the combination of those before, from the first power on, which is column j.
use Rattle.splitting.specs.Powers.{Powered}
use Rattle.splitting.proofs.blocks.killed.Given as goal

abbrev pub invariant-loop-e : goal.invariant-loop-e
invariant-loop-e l = Powered l.modulus.p l.order.n l.m l.j l.b l.e l.g l.v
