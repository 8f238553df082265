-- The loop adds up products of two bytes, at most twelve of them.
use Rattle.std.proofs.Common.{rules}
use Rattle.forms.specs.Numbers.{total}
use Rattle.matrices.specs.Filling.{total_turn}
use Rattle.basis.proofs.steps.inner.Goals as goal

pub loop-k-init : goal.loop-k-init
unfolding total
loop-k-init c = search rules

pub loop-k-preserved : goal.loop-k-preserved
loop-k-preserved c = (search rules, rw (total_turn, ← c.loop-k.invariant.1, c.from.ensures, c.from-in-loop-k.ensures))
