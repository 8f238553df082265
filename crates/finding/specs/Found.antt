-- Finding: which record a mark stands for, and what it finds.
use Rattle.std.specs.Prelude.{◌≡◌, true, false, ℕ, zero, suc, ◌+◌, ◌-◌, ◌≤◌, ◌<◌, T, eqb, length, take, drop, Option, Some, None, Ok, Err}
use Rattle.std.proofs.Math.Path.{refl}
use Rattle.std.proofs.Common.{sym, ◌∙◌, ap, ap₂, subst, arith, lit<, eqb→eq, ext_get_or}
use mathlib.Core.List.{List, []}
use Rattle.forms.specs.Numbers.{at, total, order_limit}
use Rattle.forms.specs.Answers.{Asked, fine, refuse}
use Rattle.forms.specs.Certificate.{mark, payload, size, offset, part}
use Rattle.forms.specs.Reading.{marked, reading, certificate_of}
use Rattle.forms.specs.Operations.{is_mark, part_found, Finds}
use Rattle.forms.specs.Primes.{prime_positive}
use Rattle.forms.specs.Tests.{equal_holds, and_parts, and_holds}
use Rattle.forms.proofs.Layouts.{payload_read, reading_laid_out}
use Rattle.forms.proofs.Records.{mark_length}
use Rattle.forms.proofs.Findings.{found_by_mark, nothing_found, payload_not_empty}
use Rattle.forms.specs.declared.Fault.{Fault}
use Rattle.certificate.specs.Numbering.{number_of, number_small}
use Rattle.certificate.specs.Sizes.{offset_next}
use Rattle.certificate.specs.declared.records.Record.{Record}
use Rattle.certificate.specs.ReadRecords.{read_of, good_read, payload_within}
use Rattle.certificate.specs.declared.reading.Cursor.{Cursor}

-- m is the mark of the record, or of none of the ten
abbrev pub Marks : List ℕ → Option Record → Type 0
Marks m (Some kind) = T (is_mark m (number_of kind))
Marks m None = (i : ℕ) → i < 10 → T (is_mark m i) → ⊥

module _ (m : List ℕ) where
  pub marked_here : (kind : Record) → length m ≡ 2 → marked (number_of kind) (at m 0) (at m 1) ≡ true → Marks m (Some kind)
  marked_here kind two e = and_holds (eqb (length m) 2) (marked (number_of kind) (at m 0) (at m 1)) (equal_holds _ _ two) (subst T (sym e) tt)

  pub not_marked_here : (k : ℕ) → marked k (at m 0) (at m 1) ≡ false → T (is_mark m k) → ⊥
  not_marked_here k e t = subst T e (and_parts (eqb (length m) 2) (marked k (at m 0) (at m 1)) t).1

  pub not_two_bytes : (length m ≡ 2 → ⊥) → Marks m None
  not_two_bytes h i l t = h (eqb→eq _ _ (and_parts (eqb (length m) 2) (marked i (at m 0) (at m 1)) t).0)

  pub is_the_mark : (k : ℕ) → k < 10 → T (is_mark m k) → m ≡ mark k
  is_the_mark k l t =
      let a = and_parts (eqb (length m) 2) (marked k (at m 0) (at m 1)) t in
      let b = and_parts (eqb (at m 0) (at (mark k) 0)) (eqb (at m 1) (at (mark k) 1)) a.1 in
      let two : length m ≡ 2 = eqb→eq _ _ a.0 in
      ext_get_or 0 m (mark k) (two ∙ sym (mark_length k l)) (λ i q. same (eqb→eq _ _ b.0) (eqb→eq _ _ b.1) i (omega arith))
    where
      same : at m 0 ≡ at (mark k) 0 → at m 1 ≡ at (mark k) 1 → (i : ℕ) → i < 2 → at m i ≡ at (mark k) i
      same e f zero q = e
      same e f (suc zero) q = f
      same e f (suc (suc i)) q = absurd (omega arith)

-- what find answers, from what it has read and which record is marked
pub found_unread : {s m found : List ℕ} {fault : Fault} (next : ℕ) → Err fault ≡ read_of (reading s) next → found ≡ [] → Finds s m found
unfolding part_found
found_unread {s} {m} {found} {fault} next read e = record { answered = e ∙ go (reading s) read }
  where
    go : (q : Asked) → Err fault ≡ read_of q next → [] ≡ part_found q s m
    go fine f = cc
    go (refuse number place) f = refl

pub found_marked : {s m found : List ℕ} → reading s ≡ fine → (kind : Record) → Marks m (Some kind) → found ≡ part (at s 5) (number_of kind) s → Finds s m found
found_marked {s} {m} read kind h e =
    let k = number_of kind in let l = number_small kind in
    record { answered = e ∙ sym (ap (part_found (reading s) s) (is_the_mark m k l h) ∙ found_by_mark s k l read) }

pub found_unmarked : {s m found : List ℕ} → Marks m None → found ≡ [] → Finds s m found
found_unmarked {s} {m} h e = record { answered = e ∙ sym (nothing_found s m h) }

-- where the certificate is read and the mark is one of the ten, the part is the payload of that record, and not empty
pub found_payload : (s m found : List ℕ) → Finds s m found → reading s ≡ fine → (k : ℕ) → k < 10 → T (is_mark m k) → found ≡ payload (certificate_of s) k
found_payload s m found h e k l t = h.answered ∙ ap (part_found (reading s) s) (is_the_mark m k l t) ∙ found_by_mark s k l e ∙ sym (payload_read s e k l)

pub found_not_empty : (s m found : List ℕ) → Finds s m found → reading s ≡ fine → (k : ℕ) → k < 10 → T (is_mark m k) → 0 < length found
found_not_empty s m found h e k l t = rw (found_payload s m found h e k l t) (payload_not_empty (certificate_of s) (reading_laid_out s e) k l)

-- where reading comes to an end nothing is refused
pub read_fine : (s : List ℕ) {c : Cursor} (next : ℕ) → Ok c ≡ read_of (reading s) next → reading s ≡ fine
read_fine s next e = (good_read (reading s) next e refl).0

-- the order and the prime of what was read
pub order_read : (s : List ℕ) → reading s ≡ fine → at s 5 ≤ order_limit
unfolding certificate_of
order_read s read = (reading_laid_out s read).high

pub prime_read : (s : List ℕ) → reading s ≡ fine → 0 < at s 4
unfolding certificate_of
prime_read s read = prime_positive (at s 4) (reading_laid_out s read).prime_p

-- each payload of what was read is complete, and so are p and n
pub read_complete : (s : List ℕ) → reading s ≡ fine → (k : ℕ) → k < 10 → offset (at s 5) (k + 1) ≤ length s
read_complete = payload_within 10

pub header_complete : (s : List ℕ) → reading s ≡ fine → 6 ≤ length s
unfolding offset size total
header_complete s read = read_complete s read 0 (lit< tt)

-- the payload of record k, from behind its head to its end
pub part_by_offsets : (n k : ℕ) (s : List ℕ) {start next : ℕ} → start ≡ offset n k → next ≡ offset n (k + 1) → take (next - (start + 4)) (drop (start + 4) s) ≡ part n k s
unfolding part
part_by_offsets n k s {start} {next} e f =
    let many : next - (start + 4) ≡ size n k = let g = offset_next n k in omega arith in
    ap₂ (λ (x y : ℕ). take x (drop y s)) many (ap (λ (x : ℕ). x + 4) e)
