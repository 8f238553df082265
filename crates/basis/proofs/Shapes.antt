-- What the type of a state says of its lists: there are three arrays of arrays.
use mathlib.Core.Path.{◌≡◌}
use mathlib.Core.List.{List, [], ◌∷◌}
use Prim.Native.Nat.{ℕ}
use lib.ListN.{length}
use mir.Syntax.{w8}
use mir.Val.{Val}
use denote.Array.{Array, array_val, each}
use denote.Shadow.{shadow}
use denote.Plain.{UInt}
use Rattle.forms.specs.Numbers.{order_limit}
use Rattle.matrices.proofs.Shapes.{square}
use Rattle.basis.specs.declared.steps.State.{State}
use Rattle.basis.specs.State.{Squares}

abbrev Laid : List (List ℕ) → List Val → Type 0
Laid m v = (x : List Val) × (((v ≡ array_val x ∷ []) × (length m ≡ order_limit)) × shadow (each (List ℕ) (Array (UInt w8) order_limit).own_val m x))

-- of a parameter s that stands first: squares c.args.s c.well_formed.0.1.1
pub squares : (s : State) {u v w : List Val} {R : Type 0} → Laid s.b u × (Laid s.t v × (Laid s.back w × R)) → Squares s
squares s h = record { B = square s.b _ h.0.1.0.1 h.0.1.1; T = square s.t _ h.1.0.1.0.1 h.1.0.1.1; I = square s.back _ h.1.1.0.1.0.1 h.1.1.0.1.1 }
