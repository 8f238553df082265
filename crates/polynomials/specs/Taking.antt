-- A polynomial made of bytes that stand in a row: an array whose length is looked for, and a slice that is copied first.
use Rattle.std.specs.Prelude.{◌≡◌, List, ℕ, ◌+◌, ◌≤◌, ◌<◌, length, replicate}
use Rattle.std.proofs.Common.{arith}
use Rattle.std.proofs.Math.Decide.{dec_lt}
use Rattle.std.proofs.lemmas.List.{length-replicate, get_or-replicate}
use Rattle.std.proofs.Math.ListN.{get_or-eq_default}
use Rattle.forms.specs.Numbers.{at}
use Rattle.polynomials.specs.declared.Polynomial.{Polynomial}
use Rattle.polynomials.specs.Canonical.{coefficient_limit, Trimmed, Canonical}

-- f is the coefficients s with the length found
pub record TrimmedFrom (s : List ℕ) (f : Polynomial) : Type 0 where
  pub same : f.coefficients ≡ s
  pub trimmed : Trimmed f

-- what [0u8; COEFFICIENTS] is
abbrev pub zeros : List ℕ
zeros = replicate coefficient_limit 0

pub zeros_at : (k : ℕ) → at zeros k ≡ 0
zeros_at k = elim (dec_lt k coefficient_limit) [ yes l ↦ get_or-replicate {A = ℕ} coefficient_limit k 0 0 l | no l ↦ get_or-eq_default zeros 0 {n = k} (omega (arith, length-replicate {A = ℕ} coefficient_limit 0)) ]

-- r is `count` bytes of s from `from` on, and zeros behind them
pub record Copied (s : List ℕ) (from count : ℕ) (r : List ℕ) : Type 0 where
  pub long : length r ≡ coefficient_limit
  pub inside : (k : ℕ) → k < count → at r k ≡ at s (from + k)
  pub outside : (k : ℕ) → count ≤ k → at r k ≡ 0

-- f has these coefficients
pub record TakenFrom (s : List ℕ) (from count : ℕ) (f : Polynomial) : Type 0 where
  pub copied : Copied s from count f.coefficients
  pub trimmed : Trimmed f

-- residues make a canonical polynomial
pub taken_canonical : (p : ℕ) {s : List ℕ} {from count : ℕ} {f : Polynomial} → TakenFrom s from count f → 0 < p → ((k : ℕ) → k < count → at s (from + k) < p) → Canonical p f
taken_canonical p {s} {from} {count} {f} h l small = record {
  trimmed = h.trimmed;
  small = λ k. elim (dec_lt k count) [ yes m ↦ rw (h.copied.inside k m) (small k m) | no m ↦ rw (h.copied.outside k (omega arith)) l ];
}
