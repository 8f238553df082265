-- The walk of a loop x' = A x modulo p: one step, and k steps.
use Rattle.std.specs.Prelude.{List}
use Prim.Native.Nat.{ℕ, zero, suc, ◌*◌, ◌%◌}
use Rattle.forms.specs.Numbers.{at, total}
use Rattle.forms.specs.Matrices.{matrix}
use Rattle.forms.specs.Listed.{listed}

-- M x modulo p, for a column x of n residues
unfoldable pub applied : ℕ → ℕ → List ℕ → List ℕ → List ℕ
applied p n M x = listed n (λ i. total n (λ j. matrix n M i j * at x j) % p)

-- the state of the loop x' = A x after k steps from x
unfoldable pub steps : ℕ → ℕ → List ℕ → ℕ → List ℕ → List ℕ
steps p n A zero x = x
steps p n A (suc k) x = applied p n A (steps p n A k x)
