-- One record: what its reading has seen where it refuses nothing.
use Rattle.std.specs.Prelude.{◌≡◌, cond, eqb, ltb, length}
use mathlib.Core.List.{List}
use Prim.Native.Nat.{ℕ, suc, ◌+◌, ◌*◌, ◌≤◌, ◌<◌}
use Rattle.forms.specs.Numbers.{at}
use Rattle.forms.specs.Answers.{Asked, fine, ask, each}
use Rattle.forms.specs.Certificate.{mark, size, offset}
use Rattle.forms.specs.Reading.{order_and_prime}

-- as every slice of bytes is
abbrev pub Bytes : List ℕ → Type 0
Bytes s = (i : ℕ) → at s i < 256

-- what is asked of the payload of record k
abbrev pub content_asked : ℕ → ℕ → List ℕ → ℕ → Asked
content_asked p n s k = cond (eqb k 0) (order_and_prime n p) (each (size n k) (λ i. ask (ltb (at s (offset n k + 4 + i)) p) 9 (offset n k + 4 + i)))

-- record k is read
pub record RecordRead (p n : ℕ) (s : List ℕ) (k : ℕ) : Type 0 where
  pub mark_first : at s (offset n k) ≡ at (mark k) 0
  pub mark_second : at s (suc (offset n k)) ≡ at (mark k) 1
  pub length_right : at s (offset n k + 2) + 256 * at s (offset n k + 3) ≡ size n k
  pub complete : offset n k + 4 + size n k ≤ length s
  pub content : content_asked p n s k ≡ fine
