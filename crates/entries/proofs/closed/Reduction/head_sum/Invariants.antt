-- The sum so far is the leading term and the others up to column j.
use Rattle.std.proofs.Common.{◌≡◌, ◌+◌, ◌*◌, ◌-◌, ◌≤◌}
use Rattle.forms.specs.Numbers.{total}
use Rattle.forms.specs.ClosedForms.{opposite}
use Rattle.matrices.specs.Matrices.{cell}
use Rattle.entries.proofs.closed.Reduction.head_sum.Given as goal

abbrev pub invariant-loop-j : goal.invariant-loop-j
invariant-loop-j l = (l.sum ≤ 255 + 65025 * (l.j - l.i)) × (l.sum ≡ cell l.t l.r (l.end - l.k) + total (l.j - l.i) (λ s. cell l.t l.r (l.i + s) * opposite l.self.modulus.p (cell l.f (l.i + s + 1 + l.k) l.end)))
