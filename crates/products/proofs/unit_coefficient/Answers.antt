-- The constant term is 1 on the diagonal, and everything else is zero.
use Rattle.std.proofs.Common.{◌≡◌, refl, Bool, true, false, cond, ne_eqb}
use Rattle.std.specs.Int.{from_bool}
use Rattle.forms.specs.Matrices.{unit, polynomial_unit}
use Rattle.products.proofs.unit_coefficient.Goals as goal
use Rattle.products.proofs.unit_coefficient.Goals.{then-k-eq0, else-k-eq0}

as_number : (b : Bool) → from_bool b ≡ cond b 1 0
as_number true = refl
as_number false = refl

pub returns : goal.returns
unfolding polynomial_unit unit
returns c = elim c.if-k-eq0.branch [
  | then-k-eq0 w ↦ rw (c.from.ensures, w.from-is, w.if-k-eq0.true) (as_number _)
  | else-k-eq0 w ↦ rw (c.from.ensures, w.from-is, ne_eqb _ _ w.if-k-eq0.false) refl
]
