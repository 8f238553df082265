-- Rows of one length put into the output one after the other.
use Rattle.std.specs.Prelude.{◌≡◌, List, ℕ, zero, suc, ◌+◌, ◌*◌, ◌≤◌, ◌<◌, length}
use Rattle.std.proofs.Math.Path.{sym}
use Rattle.std.proofs.Common.{◌∙◌, ap₂, add-zero, zero-mul, suc-mul, mul-le-mul, add-one, arith, length-append}
use Rattle.forms.specs.Certificate.{joined}
use Rattle.writing.specs.Put.{put_nothing, Puts, puts_then}

pub joined_rows_length : (w : ℕ) (t : ℕ → List ℕ) → ((i : ℕ) → length (t i) ≡ w) → (i : ℕ) → length (joined i t) ≡ i * w
unfolding joined
joined_rows_length w t long zero = sym (zero-mul w)
joined_rows_length w t long (suc i) = length-append (joined i t) (t i) ∙ ap₂ ◌+◌ (joined_rows_length w t long i) (long i) ∙ sym (suc-mul i w)

-- m rows of w bytes, and there is room for them behind `at`
pub record Rows (at m w : ℕ) (t : ℕ → List ℕ) (before : List ℕ) : Type 0 where
  pub long : (i : ℕ) → length (t i) ≡ w
  pub room : at + m * w ≤ length before

module _ {at m w : ℕ} {t : ℕ → List ℕ} {before : List ℕ} (rows : Rows at m w t before) where
  pub rows_start : Puts at (joined 0 t) before before at
  unfolding joined
  rows_start = record { written = sym (put_nothing before at); ends = sym (add-zero at) }

  module _ {i next : ℕ} {between : List ℕ} (l : i < m) (put : Puts at (joined i t) before between next) where
    fits : i * w + w ≤ m * w
    fits = let e = suc-mul i w in let h : suc i * w ≤ m * w = mul-le-mul {n₁ = suc i} {m₁ = w} {n₂ = m} {m₂ = w} l (omega arith) in omega arith

    pub rows_room : length between ≡ length before → next + w ≤ length between
    rows_room e = let h = fits in let q = joined_rows_length w t rows.long i in let n = put.ends in omega (arith, rows.room)

    pub rows_turn : {after : List ℕ} {end : ℕ} → Puts next (t i) between after end → Puts at (joined (i + 1) t) before after end
    unfolding joined
    rows_turn more = rw (add-one i) (puts_then put more (let h = fits in let q = joined_rows_length w t rows.long i in omega (arith, rows.room)))
