-- Rows and columns are searched up to the first entry in which the matrices differ.
use Rattle.std.proofs.Common.{◌≡◌, true, eqb}
use Rattle.forms.specs.Numbers.{every}
use Rattle.matrices.specs.Matrices.{cell}
use Rattle.rules.proofs.field.differing.Given as goal

abbrev pub invariant-loop-j : goal.invariant-loop-j
invariant-loop-j l = every l.j (λ k. eqb (cell l.a l.i k) (cell l.b l.i k)) ≡ true

abbrev pub invariant-loop-i : goal.invariant-loop-i
invariant-loop-i l = every l.i (λ h. every l.order.n (λ k. eqb (cell l.a h k) (cell l.b h k))) ≡ true
