-- Long inputs: reading looks at no byte behind the longest certificate, so that a buffer of first bytes gets the answer that the whole
-- input would get.
use Rattle.std.specs.Prelude.{◌≡◌, refl, Bool, cond, List, ℕ, zero, suc, ◌+◌, ◌≤◌, ◌<◌, eqb, ltb, length, take}
use Rattle.std.proofs.Common.{sym, ◌∙◌, mul-le-mul, arith, leb→le, lit<, le-leb, length-take-le, take_all, get_or-take}
use Rattle.std.proofs.Math.Path.{ap, ap₂}
use Rattle.std.proofs.Math.Decide.{dec_le}
use Rattle.std.proofs.Math.Dec.{leb}
use Rattle.std.proofs.lemmas.Bool.{lt-leb}
use Rattle.forms.specs.Numbers.{at, total, order_limit}
use Rattle.forms.specs.Answers.{Asked, fine, refuse, ◌then◌, ask, each}
use Rattle.forms.specs.Certificate.{size, offset, certificate_length}
use Rattle.forms.specs.Reading.{order_and_prime, record_asked, records_asked, reading, certificate_of}
use Rattle.forms.specs.Rules.{rules, verdict_of, verdict}
use Rattle.forms.specs.Tests.{ask_fine, then_fine, each_fine}
use Rattle.forms.proofs.Records.{offset_suc, offset_within, certificate_length_is}
use Rattle.forms.specs.OneRecord.{content_asked}
use Rattle.forms.proofs.OneRecord.{record_read}
use Rattle.forms.proofs.Layouts.{order_and_prime_means}

-- questions that are the same as long as nothing is refused come to the same
then_equal : (q r t u : Asked) → q ≡ r → (q ≡ fine → t ≡ u) → (q then t) ≡ (r then u)
then_equal fine r t u e h = h refl ∙ ap (λ (x : Asked). x then u) e
then_equal (refuse number place) r t u e h = ap (λ (x : Asked). x then u) e

each_equal : (n : ℕ) (t u : ℕ → Asked) → ((k : ℕ) → k < n → each k t ≡ fine → t k ≡ u k) → each n t ≡ each n u
unfolding each
each_equal zero t u h = refl
each_equal (suc n) t u h = then_equal (each n t) (each n u) (t n) (u n) (each_equal n t u (λ k l. h k (omega arith))) (h n (omega arith))

-- the first k records with this p and n, and nothing after them
abbrev asked_with : ℕ → ℕ → ℕ → List ℕ → Asked
asked_with p n k s = each k (record_asked p n s) then ask (leb (length s) (offset n k)) 10 (offset n k)

-- a larger order has the longer certificate
pub certificate_length_rises : (n m : ℕ) → n ≤ m → certificate_length n ≤ certificate_length m
certificate_length_rises n m l =
    let square = mul-le-mul l l in let cube = mul-le-mul square l in
    let e = certificate_length_is n in let f = certificate_length_is m in omega arith

module _ (s : List ℕ) (m : ℕ) (enough : certificate_length order_limit < m) (long : m ≤ length s) where
  abbrev first : List ℕ
  first = take m s

  first_length : length first ≡ m
  first_length = length-take-le m s long

  first_at : (k : ℕ) → k < m → at first k ≡ at s k
  first_at k l = get_or-take m s k 0 l

  six : 6 ≤ m
  six = let e = certificate_length_is order_limit in omega arith

  both_longer : (x : ℕ) → x ≤ m → leb x (length first) ≡ leb x (length s)
  both_longer x l = let e = first_length in le-leb x (length first) (omega arith) ∙ sym (le-leb x (length s) (omega arith))

  neither_ends : (x : ℕ) → x < m → leb (length first) x ≡ leb (length s) x
  neither_ends x l = let e = first_length in lt-leb (length first) x (omega arith) ∙ sym (lt-leb (length s) x (omega arith))

  module _ (p n : ℕ) where
    content_of_first : (k : ℕ) → offset n k + 4 + size n k ≤ m → content_asked p n first k ≡ content_asked p n s k
    content_of_first k l = ap (λ (q : Asked). cond (eqb k 0) (order_and_prime n p) q) (each_equal (size n k) _ _ (λ i h _. ap (λ (x : ℕ). ask (ltb x p) 9 (offset n k + 4 + i)) (first_at (offset n k + 4 + i) (omega arith))))

    record_of_first : (k : ℕ) → offset n k + 4 + size n k ≤ m → record_asked p n first k ≡ record_asked p n s k
    unfolding record_asked
    record_of_first k l =
        let start = offset n k in
        let four_left : leb (start + 4) (length first) ≡ leb (start + 4) (length s) = both_longer (start + 4) (omega arith) in
        let mark_first : at first start ≡ at s start = first_at start (omega arith) in
        let mark_second : at first (suc start) ≡ at s (suc start) = first_at (suc start) (omega arith) in
        let length_low : at first (start + 2) ≡ at s (start + 2) = first_at (start + 2) (omega arith) in
        let length_high : at first (start + 3) ≡ at s (start + 3) = first_at (start + 3) (omega arith) in
        let all_left : leb (start + 4 + size n k) (length first) ≡ leb (start + 4 + size n k) (length s) = both_longer (start + 4 + size n k) l in
        let content : content_asked p n first k ≡ content_asked p n s k = content_of_first k l in
        cc

    -- once HD is read, the whole certificate is shorter
    order_limited : record_asked p n first 0 ≡ fine → certificate_length n < m
    order_limited e = let r = (record_read p n first 0 e).content in let h = certificate_length_rises n order_limit (order_and_prime_means n p r).1 in omega arith

    header_within : offset n 0 + 4 + size n 0 ≤ m
    unfolding offset size total
    header_within = six

    records_of_first : (k : ℕ) → k ≤ 10 → each k (record_asked p n first) ≡ each k (record_asked p n s)
    records_of_first k l = each_equal k (record_asked p n first) (record_asked p n s) go
      where
        go : (i : ℕ) → i < k → each i (record_asked p n first) ≡ fine → record_asked p n first i ≡ record_asked p n s i
        go zero h e = record_of_first 0 header_within
        go (suc i) h e = let q = order_limited (each_fine (suc i) (record_asked p n first) e 0 (omega arith)) in let w = offset_within n (suc i) (omega arith) in record_of_first (suc i) (omega arith)

    end_within : (k : ℕ) → k < 10 → each (suc k) (record_asked p n first) ≡ fine → offset n (suc k) < m
    end_within k l e =
        let q = order_limited (each_fine (suc k) (record_asked p n first) e 0 (omega arith)) in
        let w = offset_within n k l in let r = offset_suc n k in omega arith

    -- and whether bytes follow
    all_asked_of_first : (k : ℕ) → k < 10 → asked_with p n (suc k) first ≡ asked_with p n (suc k) s
    all_asked_of_first k l = then_equal _ _ _ _ (records_of_first (suc k) (omega arith)) (λ e. ap (λ (b : Bool). ask b 10 (offset n (suc k))) (neither_ends (offset n (suc k)) (end_within k l e)))

    all_refused : (k : ℕ) → k < 10 → asked_with p n (suc k) first ≡ fine → ⊥
    all_refused k l e =
        let end = offset n (suc k) in
        let a = then_fine (each (suc k) (record_asked p n first)) (ask (leb (length first) end) 10 end) e in
        let short = leb→le (length first) end (ask_fine (leb (length first) end) 10 end a.1) in
        let h = end_within k l a.0 in let f = first_length in omega arith

  first_records : (k : ℕ) → k < 10 → records_asked (suc k) first ≡ records_asked (suc k) s
  unfolding records_asked
  first_records k l =
      let h = six in
      ap₂ (λ (p n : ℕ). asked_with p n (suc k) first) (first_at 4 (omega arith)) (first_at 5 (omega arith))
      ∙ all_asked_of_first (at s 4) (at s 5) k l

  first_refused : (k : ℕ) → k < 10 → records_asked (suc k) first ≡ fine → ⊥
  unfolding records_asked
  first_refused k l e = all_refused (at first 4) (at first 5) k l e

-- what the reading refuses is refused whatever follows
verdict_refused : (q r t u : Asked) (x y : ℕ) → q ≡ r → (q ≡ fine → ⊥) → verdict_of q t x ≡ verdict_of r u y
unfolding verdict_of
verdict_refused fine r t u x y e h = absurd (h refl)
verdict_refused (refuse number place) r t u x y e h = ap (λ (q : Asked). verdict_of q u y) e

-- a buffer of 65,536 bytes is enough for what follows
pub buffer_enough : certificate_length order_limit < 65536
buffer_enough = let e = certificate_length_is order_limit in omega arith

module _ (s : List ℕ) (m : ℕ) (enough : certificate_length order_limit < m) where
  -- the first k + 1 records, and whether bytes follow them
  pub records_asked_of_prefix : (k : ℕ) → k < 10 → records_asked (suc k) (take m s) ≡ records_asked (suc k) s
  records_asked_of_prefix k l = elim (dec_le m (length s)) [
    | yes long ↦ first_records s m enough long k l
    | no short ↦ ap (records_asked (suc k)) (take_all m s (omega arith))
  ]

  -- HD and MA
  pub matrix_of_prefix : records_asked 2 (take m s) ≡ records_asked 2 s
  matrix_of_prefix = records_asked_of_prefix 1 (lit< tt)

  pub verdict_of_prefix : verdict (take m s) ≡ verdict s
  unfolding verdict
  verdict_of_prefix = elim (dec_le m (length s)) [
    | yes long ↦ verdict_refused (reading (take m s)) (reading s) (rules (certificate_of (take m s))) (rules (certificate_of s)) (length (take m s)) (length s) (records_asked_of_prefix 9 (lit< tt)) (first_refused s m enough long 9 (lit< tt))
    | no short ↦ ap verdict (take_all m s (omega arith))
  ]
