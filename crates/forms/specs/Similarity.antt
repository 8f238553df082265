-- A renaming of the states.
use Rattle.std.specs.Prelude.{◌≡◌, List, ℕ, ◌<◌}
use Rattle.forms.specs.Matrices.{matrix}

-- B is A with state σ i in the place of state i
abbrev pub Renamed : ℕ → (ℕ → ℕ) → List ℕ → List ℕ → Type 0
Renamed n σ A B = (i j : ℕ) → i < n → j < n → matrix n B i j ≡ matrix n A (σ i) (σ j)
