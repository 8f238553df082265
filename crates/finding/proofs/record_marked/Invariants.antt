-- The loop: none of the records passed has this mark.
use Rattle.std.proofs.Common.{ℕ, ◌<◌, T}
use Rattle.forms.specs.Operations.{is_mark}
use Rattle.finding.proofs.record_marked.Given as goal

abbrev pub invariant-loop-kind : goal.invariant-loop-kind
invariant-loop-kind l = (i : ℕ) → i < l.kind-index → T (is_mark l.m i) → ⊥
