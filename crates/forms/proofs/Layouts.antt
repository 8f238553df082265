-- The bytes that are read are exactly the layouts of laid out certificates, and they give the certificate back.
use Rattle.std.specs.Prelude.{◌≡◌, refl, ◌↔◌, Bool, cond, ◌&&◌, T, ltb, leb, length, take}
use Rattle.std.proofs.Common.{sym, ◌∙◌, add-zero, add_assoc, arith, ltb→lt, lt→ltb, le→leb, lit<, lit≤, take-add, drop-cons, ext_get_or}
use Rattle.std.proofs.Math.Path.{ap, ap₂, subst}
use mathlib.Core.List.{List, ◌∷◌, ◌++◌}
use Prim.Native.Nat.{ℕ, zero, suc, ◌+◌, ◌*◌, ◌≤◌, ◌<◌}
use Rattle.std.proofs.Math.Nat.{mod-add-div}
use Rattle.std.proofs.Math.Decide.{dec_lt}
use Rattle.std.proofs.Math.Dec.{eqb-suc-zero, leb→le}
use Rattle.std.proofs.Math.ListN.{get_or-eq_default}
use Rattle.std.proofs.Math.Seq.{take_all}
use Rattle.forms.specs.Numbers.{at, total, prime, order_limit}
use Rattle.forms.specs.Answers.{Asked, fine, ◌then◌, ask, each}
use Rattle.forms.specs.Certificate.{Certificate, mark, payload, record_bytes, joined, layout, size, offset, certificate_length, part}
use Rattle.forms.specs.Reading.{order_and_prime, record_asked, records_asked, reading, certificate_of}
use Rattle.forms.specs.Words.{Residues, LaidOut}
use Rattle.forms.specs.Tests.{and_parts, and_holds, ask_fine, fine_ask, then_fine, fine_then, each_fine, fine_each}
use Rattle.forms.specs.Primes.{prime_positive}
use Rattle.forms.specs.Records.{laid_record}
use Rattle.forms.proofs.Records.{ten_cases, record_bytes_laid, record_length, joined_length, joined_at, offset_suc, offset_within, certificate_length_is}
use Rattle.forms.proofs.Payloads.{payload_length}
use Rattle.forms.specs.OneRecord.{Bytes, RecordRead, content_asked}
use Rattle.forms.proofs.OneRecord.{record_read, read_record, part_length, part_at, record_of_bytes}

pub order_and_prime_means : (n p : ℕ) → order_and_prime n p ≡ fine → (1 ≤ n) × (n ≤ order_limit) × T (prime p)
unfolding order_and_prime
order_and_prime_means n p e =
    let a = then_fine (ask (leb 1 n && leb n order_limit) 1 n) (ask (prime p) 2 p) e in
    let b = and_parts (leb 1 n) (leb n order_limit) (ask_fine (leb 1 n && leb n order_limit) 1 n a.0) in
    (leb→le 1 n b.0, leb→le n order_limit b.1, ask_fine (prime p) 2 p a.1)

pub order_and_prime_fine : (n p : ℕ) → 1 ≤ n → n ≤ order_limit → T (prime p) → order_and_prime n p ≡ fine
unfolding order_and_prime
order_and_prime_fine n p a b t = fine_then (fine_ask (leb 1 n && leb n order_limit) 1 n (and_holds (leb 1 n) (leb n order_limit) (le→leb 1 n a) (le→leb n order_limit b))) ∙ fine_ask (prime p) 2 p t

-- from bytes that are read to the certificate
residues_of_content : (p n : ℕ) (s : List ℕ) (k : ℕ) → 0 < p → RecordRead p n s (suc k) → Residues p (size n (suc k)) (part n (suc k) s)
residues_of_content p n s k l h =
    let o = offset n (suc k) in let z = size n (suc k) in
    let residues : Asked = each z (λ i. ask (ltb (at s (o + 4 + i)) p) 9 (o + 4 + i)) in
    let e : residues ≡ fine = sym (ap (λ (b : Bool). cond b (order_and_prime n p) residues) (eqb-suc-zero k)) ∙ h.content in
    record {
      many = part_length p n s (suc k) h;
      small = λ i. elim (dec_lt i z) [
        | yes m ↦ subst (λ (x : ℕ). x < p) (sym (part_at p n s (suc k) i m)) (ltb→lt _ _ (ask_fine (ltb (at s (o + 4 + i)) p) 9 (o + 4 + i) (each_fine z _ e i m)))
        | no m ↦ subst (λ (x : ℕ). x < p) (sym (get_or-eq_default (part n (suc k) s) 0 {n = i} (let q = part_length p n s (suc k) h in omega arith))) l
      ];
    }

payload_is_part : (s : List ℕ) → 6 ≤ length s → (k : ℕ) → k < 10 → payload (certificate_of s) k ≡ part (at s 5) k s
unfolding payload certificate_of part size offset total
payload_is_part s m = ten_cases (λ k. payload (certificate_of s) k ≡ part (at s 5) k s)
    (sym (ap (take 2) (drop-cons s 4 0 (omega arith) ∙ ap (λ (x : List ℕ). at s 4 ∷ x) (drop-cons s 5 0 (omega arith)))))
    refl refl refl refl refl refl refl refl refl

header_complete : (n l : ℕ) → offset n 0 + 4 + size n 0 ≤ l → 6 ≤ l
unfolding offset size total
header_complete n l h = h

-- the records up to k, joined, are the first bytes
joined_records : (p n : ℕ) (s : List ℕ) (t : ℕ → List ℕ) → Bytes s → (k : ℕ) → k ≤ 10 → ((i : ℕ) → i < k → RecordRead p n s i × (t i ≡ record_bytes (mark i) (part n i s))) → joined k t ≡ take (offset n k) s
unfolding joined offset total
joined_records p n s t b zero l h = refl
joined_records p n s t b (suc k) l h =
    let w = h k (omega arith) in
    ap₂ (λ (x y : List ℕ). x ++ y) (joined_records p n s t b k (omega arith) (λ i m. h i (omega arith))) (w.1 ∙ sym (record_of_bytes p n s k (omega arith) b w.0))
    ∙ sym (ap (λ (x : ℕ). take x s) (offset_suc n k) ∙ take-add (offset n k) (4 + size n k) s)

module _ (s : List ℕ) (e : reading s ≡ fine) where
  pub records_read : (k : ℕ) → k < 10 → RecordRead (at s 4) (at s 5) s k
  unfolding records_asked
  records_read k l = record_read (at s 4) (at s 5) s k (each_fine 10 (record_asked (at s 4) (at s 5) s) (then_fine (each 10 (record_asked (at s 4) (at s 5) s)) (ask (leb (length s) (offset (at s 5) 10)) 10 (offset (at s 5) 10)) e).0 k l)

  nothing_after : length s ≤ certificate_length (at s 5)
  unfolding records_asked
  nothing_after = leb→le _ _ (ask_fine (leb (length s) (offset (at s 5) 10)) 10 (offset (at s 5) 10) (then_fine (each 10 (record_asked (at s 4) (at s 5) s)) (ask (leb (length s) (offset (at s 5) 10)) 10 (offset (at s 5) 10)) e).1)

  pub payload_read : (k : ℕ) → k < 10 → payload (certificate_of s) k ≡ part (at s 5) k s
  payload_read = payload_is_part s (header_complete (at s 5) (length s) (records_read 0 (lit< tt)).complete)

  pub reading_laid_out : LaidOut (certificate_of s)
  unfolding certificate_of
  reading_laid_out =
      let header = order_and_prime_means (at s 5) (at s 4) (records_read 0 (lit< tt)).content in
      record {
        low = header.0;
        high = header.1;
        prime_p = header.2;
        residues = λ k l m. read k l m (prime_positive (at s 4) header.2);
      }
    where
      read : (k : ℕ) → 1 ≤ k → k < 10 → 0 < at s 4 → Residues (at s 4) (size (at s 5) k) (payload (certificate_of s) k)
      read zero l m q = absurd (omega arith)
      read (suc k) l m q = subst (Residues (at s 4) (size (at s 5) (suc k))) (sym (payload_read (suc k) m)) (residues_of_content (at s 4) (at s 5) s k q (records_read (suc k) m))

  pub layout_of_reading : Bytes s → layout (certificate_of s) ≡ s
  unfolding layout
  layout_of_reading b =
      joined_records (at s 4) (at s 5) s (λ k. record_bytes (mark k) (payload (certificate_of s) k)) b 10 (lit≤ tt) (λ i l. (records_read i l, ap (record_bytes (mark i)) (payload_read i l)))
      ∙ take_all (certificate_length (at s 5)) s nothing_after

-- from a laid out certificate to its bytes
module _ (c : Certificate) (h : LaidOut c) where
  abbrev n : ℕ
  n = c.n

  abbrev written_record : ℕ → List ℕ
  written_record k = record_bytes (mark k) (payload c k)

  written_record_length : (k : ℕ) → k < 10 → length (written_record k) ≡ 4 + size n k
  written_record_length k l = record_length k (payload c k) l ∙ ap (λ (x : ℕ). 4 + x) (payload_length c h k l)

  pub layout_certificate_length : length (layout c) ≡ certificate_length n
  unfolding layout offset
  layout_certificate_length = joined_length 10 written_record (λ k. 4 + size n k) written_record_length

  pub layout_length : length (layout c) ≡ 4 * (n * n * n) + 5 * (n * n) + n + 42
  layout_length = layout_certificate_length ∙ certificate_length_is n

  -- byte j of record k
  pub layout_at : (k j : ℕ) → k < 10 → j < 4 + size n k → at (layout c) (offset n k + j) ≡ at (laid_record n k (payload c k)) j
  unfolding layout offset
  layout_at k j l m =
      ap (λ (x : ℕ). at (joined 10 written_record) (x + j)) (sym (joined_length k written_record (λ k. 4 + size n k) (λ i q. written_record_length i (omega arith))))
      ∙ joined_at 10 written_record k j l (rw (written_record_length k l) m)
      ∙ ap (λ (x : List ℕ). at x j) (record_bytes_laid n k (payload c k) l (payload_length c h k l))

  payload_at : (k i : ℕ) → k < 10 → i < size n k → at (layout c) (offset n k + 4 + i) ≡ at (payload c k) i
  payload_at k i l m = ap (at (layout c)) (add_assoc (offset n k) 4 i) ∙ layout_at k (4 + i) l (omega arith) ∙ ap (at (laid_record n k (payload c k))) (four i)
    where
      four : (i : ℕ) → 4 + i ≡ suc (suc (suc (suc i)))
      four i = omega arith

  p_at : at (layout c) 4 ≡ c.p
  unfolding payload size offset total
  p_at = payload_at 0 0 (lit< tt) (lit< tt)

  n_at : at (layout c) 5 ≡ n
  unfolding payload size offset total
  n_at = payload_at 0 1 (lit< tt) (lit< tt)

  content_fine : (k : ℕ) → k < 10 → content_asked c.p n (layout c) k ≡ fine
  content_fine zero l = order_and_prime_fine n c.p h.low h.high h.prime_p
  content_fine (suc k) l =
      let residues : Asked = each (size n (suc k)) (λ i. ask (ltb (at (layout c) (offset n (suc k) + 4 + i)) c.p) 9 (offset n (suc k) + 4 + i)) in
      ap (λ (b : Bool). cond b (order_and_prime n c.p) residues) (eqb-suc-zero k)
      ∙ fine_each (size n (suc k)) _ (λ i m. fine_ask (ltb (at (layout c) (offset n (suc k) + 4 + i)) c.p) 9 _ (lt→ltb _ _ (subst (λ (x : ℕ). x < c.p) (sym (payload_at (suc k) i l m)) ((h.residues (suc k) (omega arith) l).small i))))

  layout_records_read : (k : ℕ) → k < 10 → RecordRead c.p n (layout c) k
  layout_records_read k l = record {
    mark_first = ap (at (layout c)) (sym (add-zero (offset n k))) ∙ layout_at k 0 l (omega arith);
    mark_second = ap (at (layout c)) (one (offset n k)) ∙ layout_at k 1 l (omega arith);
    length_right = ap₂ (λ (x y : ℕ). x + 256 * y) (layout_at k 2 l (omega arith)) (layout_at k 3 l (omega arith)) ∙ mod-add-div (size n k) 256;
    complete = (let a = offset_within n k l in let d = layout_certificate_length in omega arith);
    content = content_fine k l;
  }
    where
      one : (x : ℕ) → suc x ≡ x + 1
      one x = omega arith

  pub reading_of_layout : reading (layout c) ≡ fine
  unfolding records_asked
  reading_of_layout =
      ap₂ (λ (p' n' : ℕ). each 10 (record_asked p' n' (layout c)) then ask (leb (length (layout c)) (offset n' 10)) 10 (offset n' 10)) p_at n_at
      ∙ fine_then (fine_each 10 (record_asked c.p n (layout c)) (λ k l. read_record c.p n (layout c) k (layout_records_read k l)))
      ∙ fine_ask (leb (length (layout c)) (offset n 10)) 10 (offset n 10) (le→leb (length (layout c)) (offset n 10) (let e = layout_certificate_length in omega arith))

  pub part_of_layout : (k : ℕ) → k < 10 → part n k (layout c) ≡ payload c k
  part_of_layout k l =
      let r = layout_records_read k l in let e = part_length c.p n (layout c) k r in
      ext_get_or 0 _ _ (e ∙ sym (payload_length c h k l)) (λ i m. part_at c.p n (layout c) k i (omega arith) ∙ payload_at k i l (omega arith))

  pub part_there : (k : ℕ) → k < 10 → part (at (layout c) 5) k (layout c) ≡ payload c k
  part_there k l = ap (λ (x : ℕ). part x k (layout c)) n_at ∙ part_of_layout k l

  pub certificate_of_layout : certificate_of (layout c) ≡ c
  unfolding certificate_of payload
  certificate_of_layout = λ i. record {
    p = p_at i;
    n = n_at i;
    MA = part_there 1 (lit< tt) i;
    DF = part_there 2 (lit< tt) i;
    PL = part_there 3 (lit< tt) i;
    PI = part_there 4 (lit< tt) i;
    QR = part_there 5 (lit< tt) i;
    QI = part_there 6 (lit< tt) i;
    FB = part_there 7 (lit< tt) i;
    TB = part_there 8 (lit< tt) i;
    TI = part_there 9 (lit< tt) i;
  }

pub layout_injective : (c d : Certificate) → LaidOut c → LaidOut d → layout c ≡ layout d → c ≡ d
layout_injective c d g h e = sym (certificate_of_layout c g) ∙ ap certificate_of e ∙ certificate_of_layout d h

-- reading refuses nothing exactly on layouts
pub reading_iff_layout : (s : List ℕ) → Bytes s → (reading s ≡ fine) ↔ ((c : Certificate) × LaidOut c × (s ≡ layout c))
reading_iff_layout s b = (
  (λ e. (certificate_of s, reading_laid_out s e, sym (layout_of_reading s e b))),
  (λ w. ap reading w.2 ∙ reading_of_layout w.0 w.1),
)
