-- The loop: the first i entries refuse nothing.
use Rattle.std.proofs.Common.{◌≡◌, ltb}
use Rattle.forms.specs.Numbers.{at}
use Rattle.forms.specs.Answers.{fine, ask, each}
use Rattle.analysis.proofs.questions.entries_asked.Given as goal

abbrev pub invariant-loop-i : goal.invariant-loop-i
invariant-loop-i l = each l.i (λ i. ask (ltb (at l.matrix i) l.p) 4 i) ≡ fine
