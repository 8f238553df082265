-- The certificate and its bytes: ten records, each a two-byte mark, a two-byte length (low byte first) and a payload.
use Rattle.std.specs.Prelude.{List, [], ◌∷◌, ◌++◌, ℕ, zero, suc, ◌+◌, ◌*◌, ◌/◌, ◌%◌, length, get_or, take, drop}
use Rattle.forms.specs.Numbers.{at, total}

-- p, n and the payloads of the other nine records
pub record Certificate : Type 0 where
  pub p : ℕ
  pub n : ℕ
  pub MA : List ℕ
  pub DF : List ℕ
  pub PL : List ℕ
  pub PI : List ℕ
  pub QR : List ℕ
  pub QI : List ℕ
  pub FB : List ℕ
  pub TB : List ℕ
  pub TI : List ℕ

-- the mark of record k, as ASCII: HD MA DF PL PI QR QI FB TB TI
unfoldable pub mark : ℕ → List ℕ
mark k = get_or (
    (72 ∷ 68 ∷ []) ∷ (77 ∷ 65 ∷ []) ∷ (68 ∷ 70 ∷ []) ∷ (80 ∷ 76 ∷ []) ∷ (80 ∷ 73 ∷ [])
    ∷ (81 ∷ 82 ∷ []) ∷ (81 ∷ 73 ∷ []) ∷ (70 ∷ 66 ∷ []) ∷ (84 ∷ 66 ∷ []) ∷ (84 ∷ 73 ∷ []) ∷ []) k []

-- its payload
unfoldable pub payload : Certificate → ℕ → List ℕ
payload c k = get_or ((c.p ∷ c.n ∷ []) ∷ c.MA ∷ c.DF ∷ c.PL ∷ c.PI ∷ c.QR ∷ c.QI ∷ c.FB ∷ c.TB ∷ c.TI ∷ []) k []

-- mark, length, payload
unfoldable pub record_bytes : List ℕ → List ℕ → List ℕ
record_bytes m s = m ++ (length s % 256 ∷ length s / 256 ∷ s)

-- t 0 ++ .. ++ t (n-1)
unfoldable pub joined : ℕ → (ℕ → List ℕ) → List ℕ
joined zero t = []
joined (suc n) t = joined n t ++ t n

unfoldable pub layout : Certificate → List ℕ
layout c = joined 10 (λ k. record_bytes (mark k) (payload c k))

-- the length of record k's payload
unfoldable pub size : ℕ → ℕ → ℕ
size n k = at (2 ∷ n * n ∷ n * suc n ∷ n * n * n ∷ n * n * n ∷ n * n * n ∷ n * n * n ∷ n * n ∷ n * n ∷ n * n ∷ []) k

-- where record k starts
unfoldable pub offset : ℕ → ℕ → ℕ
offset n k = total k (λ i. 4 + size n i)

abbrev pub certificate_length : ℕ → ℕ
certificate_length n = offset n 10

-- the part of s that is the payload of record k
unfoldable pub part : ℕ → ℕ → List ℕ → List ℕ
part n k s = take (size n k) (drop (offset n k + 4) s)
