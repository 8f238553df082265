-- What the type of an array of arrays says of its list: there are as many rows as the type says, each with as many entries.
use mathlib.Core.Path.{◌≡◌}
use mathlib.Core.List.{List, [], ◌∷◌}
use Prim.Native.Nat.{ℕ, zero, suc, ◌<◌}
use native.Mathlib.Nat.{le_of_suc-le-suc, not-suc-le-zero}
use native.Mathlib.Omega.{arith}
use lib.ListN.{length, get_or}
use mir.Syntax.{w8}
use mir.Val.{Val}
use denote.Array.{Array, each}
use denote.Shadow.{shadow}
use denote.Plain.{UInt}
use Rattle.forms.specs.Numbers.{order_limit}
use Rattle.matrices.specs.Matrices.{Square}

row_length : (n : ℕ) (m : List (List ℕ)) (vs : List Val) (i : ℕ) → shadow (each (List ℕ) (Array (UInt w8) n).own_val m vs) → i < length m → length (get_or m i []) ≡ n
row_length n [] vs i h l = absurd (not-suc-le-zero l)
row_length n (v ∷ m) [] i h l = absurd h
row_length n (v ∷ m) (x ∷ vs) zero h l = h.0.1.0.1
row_length n (v ∷ m) (x ∷ vs) (suc i) h l = row_length n m vs i h.1 (le_of_suc-le-suc l)

-- of a parameter m that stands first: square m _ (search needs) c.good.0.1.1
pub square : (m : List (List ℕ)) (vs : List Val) → length m ≡ order_limit → shadow (each (List ℕ) (Array (UInt w8) order_limit).own_val m vs) → Square m
square m vs e h = record { tall = e; wide = λ i l. row_length order_limit m vs i h (omega arith) }
