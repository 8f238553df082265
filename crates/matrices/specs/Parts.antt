-- Rows of one width, one after the other in a list.
use Rattle.std.specs.Prelude.{◌≡◌, List, ℕ, ◌+◌, ◌*◌, ◌≤◌, ◌<◌, length, take, drop}
use Rattle.std.proofs.Common.{◌∙◌, suc-mul, mul-le-mul_right, arith}
use Rattle.std.proofs.Math.ListN.{length-take, length-drop}
use Rattle.std.proofs.Math.Seq.{get_or-take, get_or-drop}
use Rattle.forms.specs.Numbers.{at}

-- row i
unfoldable pub row_of : List ℕ → ℕ → ℕ → List ℕ
row_of s i width = take width (drop (i * width) s)

-- row i lies within s
abbrev pub HasRow : List ℕ → ℕ → ℕ → Type 0
HasRow s i width = i * width + width ≤ length s

pub has_row : (s : List ℕ) (count i width : ℕ) → length s ≡ count * width → i < count → HasRow s i width
has_row s count i width e l = let h = mul-le-mul_right width l in let q = suc-mul i width in omega arith

module _ (s : List ℕ) (i width : ℕ) where
  pub row_length : HasRow s i width → length (row_of s i width) ≡ width
  unfolding row_of
  row_length h = length-take width (drop (i * width) s) ∙ (let q = length-drop (i * width) s in omega arith)

  pub row_at : (k : ℕ) → k < width → at (row_of s i width) k ≡ at s (i * width + k)
  unfolding row_of
  row_at k l = get_or-take width (drop (i * width) s) k 0 l ∙ get_or-drop (i * width) s k 0
