-- The sum of the exponents of the first i polynomials.
use Rattle.std.proofs.Common.{◌≡◌, ◌*◌, ◌≤◌}
use Rattle.blockform.specs.Diagonal.{exponents}
use Rattle.blockform.proofs.diagonal.lead_of.Given as goal

abbrev pub invariant-loop-i : goal.invariant-loop-i
invariant-loop-i l = (l.sum ≡ exponents l.n l.d l.i) × (l.sum ≤ l.i * 256)
