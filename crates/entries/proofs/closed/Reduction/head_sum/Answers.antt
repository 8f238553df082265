-- The sum so far is the leading term and the others up to column j.
use Rattle.std.proofs.Common.{ℕ, arith, ◌≡◌, ◌∙◌, ◌+◌, ◌*◌, ◌-◌, ◌≤◌, ap, ap₂, mul-le-mul}
use Rattle.forms.specs.Numbers.{total}
use Rattle.forms.specs.ClosedForms.{opposite}
use Rattle.matrices.specs.Matrices.{cell}
use Rattle.matrices.specs.Filling.{total_turn}
use Rattle.entries.specs.Entries.{head_sum_is}
use Rattle.entries.proofs.closed.Reduction.head_sum.Goals as goal

-- one term more
more_terms : (lead n : ℕ) {sum term next : ℕ} (f : ℕ → ℕ) → sum ≡ lead + total n f → next ≡ n + 1 → term ≡ f n → sum + term ≡ lead + total next f
more_terms lead n f e s t = rw (e, s, t, total_turn n f) (omega arith)

pub loop-j-init : goal.loop-j-init
unfolding total
loop-j-init c = let e : c.args.i - c.args.i ≡ 0 = omega arith in (omega arith, rw e (omega arith))

pub loop-j-preserved : goal.loop-j-preserved
loop-j-preserved c =
    let l = c.loop-j in
    let a = c.args in
    let j : l.j ≡ a.i + (l.j - a.i) = omega arith in
    let product : c.from.result * c.from-in-loop-j.result ≤ 65025 = mul-le-mul {n₁ = c.from.result} {m₁ = c.from-in-loop-j.result} {n₂ = 255} {m₂ = 255} (omega arith) (omega arith) in (
      omega arith,
      more_terms _ (l.j - a.i) _ l.invariant.1 (omega arith)
          (ap₂ ◌*◌ c.from.ensures (c.from-in-loop-j.ensures ∙ c.opposite.ensures) ∙ ap (λ (x : ℕ). cell a.self.now.state.now.t a.r x * opposite a.self.now.modulus.p (cell a.self.now.state.now.b (x + 1 + a.k) a.end)) j),
    )

pub returns : goal.returns
returns c =
    let e : c.loop-j.j - c.args.i ≡ c.args.end - c.args.i - c.args.k = omega arith in
    c.remainder.ensures ∙ rw (c.loop-j.invariant.1, e) (head_sum_is _ _ _ _ _ _ _ c.requires.2)
