-- Records one after the other: their marks and lengths, the bytes of each, and where each starts.
use Rattle.std.specs.Prelude.{◌≡◌, refl, List, [], ◌∷◌, ◌++◌, ℕ, zero, suc, ◌+◌, ◌*◌, ◌-◌, ◌/◌, ◌%◌, ◌≤◌, ◌<◌, eqb, length}
use Rattle.std.proofs.Common.{sym, ◌∙◌, ap, ap₂, subst, add-zero, add-suc, mul-suc, arith, eqb→eq, length-append, get_or-append-add}
use Rattle.std.proofs.Math.Decide.{ℕ_discrete}
use Rattle.std.proofs.Math.ListN.{get_or-append}
use Rattle.forms.specs.Numbers.{at, total, every}
use Rattle.forms.specs.Certificate.{mark, record_bytes, joined, size, offset, certificate_length}
use Rattle.forms.specs.Tests.{every_at, total_suc}
use Rattle.forms.specs.Records.{laid_record}

-- what holds of each of the ten records holds of record k
pub ten_cases : (P : ℕ → Type 0) → P 0 → P 1 → P 2 → P 3 → P 4 → P 5 → P 6 → P 7 → P 8 → P 9 → (k : ℕ) → k < 10 → P k
ten_cases P a b c d e f g h i j zero l = a
ten_cases P a b c d e f g h i j (suc zero) l = b
ten_cases P a b c d e f g h i j (suc (suc zero)) l = c
ten_cases P a b c d e f g h i j (suc (suc (suc zero))) l = d
ten_cases P a b c d e f g h i j (suc (suc (suc (suc zero)))) l = e
ten_cases P a b c d e f g h i j (suc (suc (suc (suc (suc zero))))) l = f
ten_cases P a b c d e f g h i j (suc (suc (suc (suc (suc (suc zero)))))) l = g
ten_cases P a b c d e f g h i j (suc (suc (suc (suc (suc (suc (suc zero))))))) l = h
ten_cases P a b c d e f g h i j (suc (suc (suc (suc (suc (suc (suc (suc zero)))))))) l = i
ten_cases P a b c d e f g h i j (suc (suc (suc (suc (suc (suc (suc (suc (suc zero))))))))) l = j
ten_cases P a b c d e f g h i j (suc (suc (suc (suc (suc (suc (suc (suc (suc (suc k)))))))))) l = absurd (omega arith)

pub mark_length : (k : ℕ) → k < 10 → length (mark k) ≡ 2
unfolding mark every
mark_length k l = eqb→eq _ 2 (every_at 10 (λ i. eqb (length (mark i)) 2) tt k l)

two_bytes : (s : List ℕ) → length s ≡ 2 → s ≡ at s 0 ∷ at s 1 ∷ []
two_bytes [] e = absurd (omega arith)
two_bytes (x ∷ []) e = absurd (omega arith)
two_bytes (x ∷ y ∷ []) e = refl
two_bytes (x ∷ y ∷ z ∷ s) e = absurd (omega arith)

pub mark_bytes : (k : ℕ) → k < 10 → mark k ≡ at (mark k) 0 ∷ at (mark k) 1 ∷ []
mark_bytes k l = two_bytes (mark k) (mark_length k l)

-- a record, byte by byte
record_bytes_are : (k : ℕ) (s : List ℕ) → k < 10 → record_bytes (mark k) s ≡ at (mark k) 0 ∷ at (mark k) 1 ∷ length s % 256 ∷ length s / 256 ∷ s
unfolding record_bytes
record_bytes_are k s l = ap (λ (m : List ℕ). m ++ (length s % 256 ∷ length s / 256 ∷ s)) (mark_bytes k l)

pub record_length : (k : ℕ) (s : List ℕ) → k < 10 → length (record_bytes (mark k) s) ≡ 4 + length s
record_length k s l = ap length (record_bytes_are k s l) ∙ four (length s)
  where
    four : (x : ℕ) → suc (suc (suc (suc x))) ≡ 4 + x
    four x = omega arith

pub record_bytes_laid : (n k : ℕ) (s : List ℕ) → k < 10 → length s ≡ size n k → record_bytes (mark k) s ≡ laid_record n k s
record_bytes_laid n k s l e = record_bytes_are k s l ∙ ap (λ (z : ℕ). at (mark k) 0 ∷ at (mark k) 1 ∷ z % 256 ∷ z / 256 ∷ s) e

-- lists joined
pub joined_length : (k : ℕ) (t : ℕ → List ℕ) (z : ℕ → ℕ) → ((i : ℕ) → i < k → length (t i) ≡ z i) → length (joined k t) ≡ total k z
unfolding joined total
joined_length zero t z h = refl
joined_length (suc k) t z h = length-append (joined k t) (t k) ∙ ap₂ ◌+◌ (joined_length k t z (λ i m. h i (omega arith))) (h k (omega arith))

joined_within : (n : ℕ) (t : ℕ → List ℕ) (k j : ℕ) → k < n → j < length (t k) → length (joined k t) + j < length (joined n t)
unfolding joined
joined_within zero t k j l m = absurd (omega arith)
joined_within (suc n) t k j l m = elim (ℕ_discrete k n) [
  | yes e ↦ subst (λ (x : ℕ). length (joined x t) + j < length (joined n t ++ t n)) (sym e) (let q = length-append (joined n t) (t n) in let w : j < length (t n) = subst (λ (x : ℕ). j < length (t x)) e m in omega arith)
  | no e ↦ (let q = length-append (joined n t) (t n) in let w = joined_within n t k j (omega arith) m in omega arith)
]

pub joined_at : (n : ℕ) (t : ℕ → List ℕ) (k j : ℕ) → k < n → j < length (t k) → at (joined n t) (length (joined k t) + j) ≡ at (t k) j
unfolding joined
joined_at zero t k j l m = absurd (omega arith)
joined_at (suc n) t k j l m = elim (ℕ_discrete k n) [
  | yes e ↦ ap (λ (x : ℕ). at (joined n t ++ t n) (length (joined x t) + j)) e ∙ get_or-append-add (joined n t) (t n) j 0 ∙ ap (λ (x : ℕ). at (t x) j) (sym e)
  | no e ↦ get_or-append (joined n t) (t n) 0 (length (joined k t) + j) (joined_within n t k j (omega arith) m) ∙ joined_at n t k j (omega arith) m
]

-- where records start
pub offset_suc : (n k : ℕ) → offset n (suc k) ≡ offset n k + (4 + size n k)
unfolding offset
offset_suc n k = total_suc k (λ i. 4 + size n i)

offset_rises : (n k d : ℕ) → offset n k ≤ offset n (k + d)
offset_rises n k zero = rw add-zero (omega arith)
offset_rises n k (suc d) = rw add-suc (let a = offset_rises n k d in let b = offset_suc n (k + d) in omega arith)

pub offset_within : (n k : ℕ) → k < 10 → offset n k + 4 + size n k ≤ certificate_length n
offset_within n k l =
    let a = offset_rises n (suc k) (9 - k) in let b = offset_suc n k in
    let e : offset n (suc k + (9 - k)) ≡ offset n 10 = ap (offset n) (ten k l) in
    omega arith
  where
    ten : (k : ℕ) → k < 10 → suc k + (9 - k) ≡ 10
    ten k l = omega arith

-- the whole length, as document 01 says it
pub certificate_length_is : (n : ℕ) → certificate_length n ≡ 4 * (n * n * n) + 5 * (n * n) + n + 42
unfolding offset size total
certificate_length_is n = let e = mul-suc n n in omega arith
