-- The matrix that is reduced holds the entries that its bytes list.
use Rattle.std.specs.Prelude.{List, ℕ}
use Rattle.forms.specs.Matrices as definitions
use Rattle.matrices.specs.Loading.{loaded, loaded_entry}
use Rattle.payloads.specs.ClosedCoefficients.{Holds}

pub loaded_holds : (n : ℕ) (A : List ℕ) → Holds n (loaded n A) (definitions.matrix n A)
unfolding definitions.matrix
loaded_holds n A = loaded_entry n A
