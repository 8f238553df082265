-- Reading: what is asked of bytes, record by record, and the certificate that they are where nothing is refused.
use Rattle.std.specs.Prelude.{Bool, cond, ◌&&◌, List, ℕ, suc, ◌+◌, ◌*◌, eqb, ltb, leb, length}
use Rattle.forms.specs.Numbers.{at, prime, order_limit}
use Rattle.forms.specs.Answers.{Asked, ◌then◌, ask, each}
use Rattle.forms.specs.Certificate.{Certificate, mark, size, offset, part}

unfoldable pub order_and_prime : ℕ → ℕ → Asked
order_and_prime n p = ask (leb 1 n && leb n order_limit) 1 n then ask (prime p) 2 p

-- the two bytes are the mark of record k
abbrev pub marked : ℕ → ℕ → ℕ → Bool
marked k first second = eqb first (at (mark k) 0) && eqb second (at (mark k) 1)

-- record k of the bytes s, with p and n from the payload of HD
unfoldable pub record_asked : ℕ → ℕ → List ℕ → ℕ → Asked
record_asked p n s k =
    let start = offset n k in let many = size n k in
    let content : Asked = cond (eqb k 0) (order_and_prime n p) (each many (λ i. ask (ltb (at s (start + 4 + i)) p) 9 (start + 4 + i))) in
    ask (leb (start + 4) (length s)) 6 start
    then ask (marked k (at s start) (at s (suc start))) 7 start
    then ask (eqb (at s (start + 2) + 256 * at s (start + 3)) many) 8 (start + 2)
    then ask (leb (start + 4 + many) (length s)) 6 start
    then content

-- the first k records, and nothing after them
unfoldable pub records_asked : ℕ → List ℕ → Asked
records_asked k s = let end = offset (at s 5) k in each k (record_asked (at s 4) (at s 5) s) then ask (leb (length s) end) 10 end

abbrev pub reading : List ℕ → Asked
reading s = records_asked 10 s

unfoldable pub certificate_of : List ℕ → Certificate
certificate_of s = let n = at s 5 in record {
  p = at s 4;
  n = n;
  MA = part n 1 s;
  DF = part n 2 s;
  PL = part n 3 s;
  PI = part n 4 s;
  QR = part n 5 s;
  QI = part n 6 s;
  FB = part n 7 s;
  TB = part n 8 s;
  TI = part n 9 s;
}
