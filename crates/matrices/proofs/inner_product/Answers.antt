-- The sum is at most 255 * 255 for each turn, so that it fits.
use Rattle.std.proofs.Common.{ℕ, ◌≤◌, ◌+◌, ◌*◌, ap₂, mul-le-mul, arith, rules}
use Rattle.forms.specs.Numbers.{total}
use Rattle.matrices.specs.Filling.{total_turn}
use Rattle.matrices.proofs.inner_product.Goals as goal

pub loop-k-init : goal.loop-k-init
unfolding total
loop-k-init c = search rules

pub loop-k-preserved : goal.loop-k-preserved
loop-k-preserved c =
    let l = c.loop-k in
    let x : c.from.result ≤ 255 = search rules in
    let y : c.from-in-loop-k.result ≤ 255 = search rules in
    (omega (arith, mul-le-mul x y), rw (total_turn, ← l.invariant.1) (ap₂ (λ (x y : ℕ). l.sum + x * y) c.from.ensures c.from-in-loop-k.ensures))
