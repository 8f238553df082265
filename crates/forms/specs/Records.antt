-- The bytes of one record. Where each record starts, and what its bytes are, stands in proofs/Records.
use Rattle.std.specs.Prelude.{List, ◌∷◌, ℕ, ◌/◌, ◌%◌}
use Rattle.forms.specs.Numbers.{at}
use Rattle.forms.specs.Certificate.{mark, size}

-- the bytes of record k, with the payload s of the length that the layout asks
abbrev pub laid_record : ℕ → ℕ → List ℕ → List ℕ
laid_record n k s = at (mark k) 0 ∷ at (mark k) 1 ∷ size n k % 256 ∷ size n k / 256 ∷ s
