-- The code's answers as the questions of reading: what one record comes to, and one record after the other.
use Rattle.std.specs.Prelude.{◌≡◌, List, ℕ, ◌+◌, ◌*◌, ◌≤◌, ◌<◌, eqb, ltb, length, Result, Ok, Err, IsErrAnd}
use Rattle.std.proofs.Math.Path.{refl, sym, ap, ap₂}
use Rattle.std.proofs.Common.{◌∙◌, arith, leb→le}
use Rattle.std.proofs.Math.Bool.{Bool, true, false, cond}
use Rattle.std.proofs.Math.Numerals.{add-one}
use Rattle.std.proofs.Math.Dec.{leb}
use borrow.Author.Tests.{lt-ltb, le-ltb, le-leb, lt-leb, ne_eqb}
use Rattle.forms.specs.Numbers.{at}
use Rattle.forms.specs.Answers.{Asked, fine, refuse, ◌then◌, ask, each, reason_of, refused_by, form_fault}
use Rattle.forms.specs.Certificate.{size, offset}
use Rattle.forms.specs.Reading.{order_and_prime, marked, record_asked, records_asked}
use Rattle.forms.specs.Tests.{ask_fine, then_fine, fine_then, each_fine, refuse_each}
use Rattle.forms.specs.OneRecord.{content_asked}
use Rattle.forms.proofs.OneRecord.{record_read}
use Rattle.forms.specs.declared.Fault.{Fault}
use Rattle.forms.proofs.Reasons.{reason_of_number}
use Rattle.forms.specs.declared.Reason.{Reason}
use Rattle.forms.specs.declared.Reason.TheVariants.{BytesAfter}
use Rattle.forms.specs.declared.Fault.TheVariants.{Form}
use Rattle.certificate.specs.Sizes.{offset_next}
use Rattle.forms.specs.declared.Refusal.{Refusal}
use Rattle.certificate.specs.declared.reading.Cursor.{Cursor}

-- what an answer about n and p says
abbrev pub limits_asked : Result (Unit {0}) Refusal → Asked
limits_asked (Ok nothing) = fine
limits_asked (Err refusal) = refused_by refusal

-- where nothing is refused, the cursor goes to next
abbrev pub read_of : Asked → ℕ → Result Cursor Fault
read_of fine next = Ok (record { at = next })
read_of (refuse number place) next = Err (Form (reason_of number) place)

-- an error that is known
pub error_is : {A B : Type 0} (q : Result A B) {e : B} → IsErrAnd q (λ (x : B). x ≡ e) → q ≡ Err e
error_is (Ok a) h = absurd h
error_is (Err x) h = ap Err h

-- a refusal that is handed on
pub refusal_kept : (r : Refusal) (q : Result (Unit {0}) Refusal) {a : Asked} → refused_by r ≡ a → IsErrAnd q (λ (x : Refusal). x ≡ r) → limits_asked q ≡ a
refusal_kept r q e h = ap limits_asked (error_is q h) ∙ e

-- a refusal is the fault that a reading makes of it
pub read_refused : (r : Refusal) (read : Result Cursor Fault) (q : Asked) (next : ℕ) → refused_by r ≡ q → IsErrAnd read (λ (fault : Fault). fault ≡ form_fault r) → read ≡ read_of q next
read_refused r read q next e h =
    error_is read h ∙ ap (λ (x : Reason). Err (Form x r.place)) (sym (reason_of_number r.reason)) ∙ ap (λ (x : Asked). read_of x next) e

-- record k, which starts at start and has a payload of many bytes, up to the payload
unfoldable pub frame_asked : ℕ → ℕ → ℕ → List ℕ → Asked
frame_asked k start many s =
    ask (leb (start + 4) (length s)) 6 start
    then ask (marked k (at s start) (at s (start + 1))) 7 start
    then ask (eqb (at s (start + 2) + 256 * at s (start + 3)) many) 8 (start + 2)
    then ask (leb (start + 4 + many) (length s)) 6 start

-- many residues from start on
unfoldable pub residues_asked : ℕ → ℕ → ℕ → List ℕ → Asked
residues_asked p start many s = each many (λ i. ask (ltb (at s (start + i)) p) 9 (start + i))

-- what was refused is the refusal of all that begins with it
module _ {r : Result Cursor Fault} {fault : Fault} where
  pub bad_then : (q t : Asked) (next end : ℕ) → r ≡ read_of q next → r ≡ Err fault → r ≡ read_of (q then t) end
  bad_then fine t next end e f = cc
  bad_then (refuse number place) t next end e f = e

  pub bad_each : (t : ℕ → Asked) (k count next end : ℕ) → k < count → each k t ≡ fine → r ≡ read_of (t k) next → r ≡ Err fault → r ≡ read_of (each count t) end
  bad_each t k count next end l h e f = go (t k) refl e
    where
      go : (q : Asked) → t k ≡ q → r ≡ read_of q next → r ≡ read_of (each count t) end
      go fine d e = cc
      go (refuse number place) d e = e ∙ sym (ap (λ (q : Asked). read_of q end) (refuse_each count t k number place l (each_fine k t h) d))

-- what was read had nothing to refuse, and the cursor is past it
pub good_read : {r : Result Cursor Fault} {c : Cursor} (q : Asked) (next : ℕ) → r ≡ read_of q next → r ≡ Ok c → (q ≡ fine) × (c.at ≡ next)
good_read {r} {c} fine next e f = (refl, (let w : record { at = next } ≡ c = cc in sym (ap (λ (x : Cursor). x.at) w)))
good_read (refuse number place) next e f = (cc, cc)

-- one more question
pub each_next : (k : ℕ) (t : ℕ → Asked) → each k t ≡ fine → t k ≡ fine → each (k + 1) t ≡ fine
unfolding each
each_next k t h e = rw (add-one k) (fine_then h ∙ e)

module _ (p start : ℕ) (s : List ℕ) where
  pub no_residues : residues_asked p start 0 s ≡ fine
  unfolding residues_asked each
  no_residues = refl

  pub next_residue : (i : ℕ) → residues_asked p start i s ≡ fine → at s (start + i) < p → residues_asked p start (i + 1) s ≡ fine
  unfolding residues_asked ask
  next_residue i h l = each_next i _ h (simp (lt-ltb _ _ l))

  pub no_residue : (i many : ℕ) → i < many → residues_asked p start i s ≡ fine → p ≤ at s (start + i) → residues_asked p start many s ≡ refuse 9 (start + i)
  unfolding residues_asked ask
  no_residue i many m h l = refuse_each many _ i 9 (start + i) m (each_fine i _ h) (simp (le-ltb _ _ l))

-- record k, of which the code reads the frame at start, with many bytes of payload
module _ (p n : ℕ) (s : List ℕ) (k : ℕ) {start many : ℕ} (starts : start ≡ offset n k) (sized : many ≡ size n k) {r : Result Cursor Fault} (framed : r ≡ read_of (frame_asked k start many s) (start + 4)) where
  record_asked_parts : record_asked p n s k ≡ (frame_asked k start many s then content_asked p n s k)
  unfolding record_asked frame_asked
  record_asked_parts = rw (starts, sized, add-one (offset n k))

  pub record_bad : {fault : Fault} (end : ℕ) → r ≡ Err fault → r ≡ read_of (record_asked p n s k) end
  record_bad end e = bad_then (frame_asked k start many s) (content_asked p n s k) (start + 4) end framed e ∙ sym (ap (λ (q : Asked). read_of q end) record_asked_parts)

  module _ {payload : Cursor} (good : r ≡ Ok payload) where
    frame_fine : frame_asked k start many s ≡ fine
    frame_fine = (good_read (frame_asked k start many s) (start + 4) framed good).0

    pub payload_start : payload.at ≡ start + 4
    payload_start = (good_read (frame_asked k start many s) (start + 4) framed good).1

    pub payload_complete : payload.at + many ≤ length s
    unfolding frame_asked
    payload_complete =
        let head : Asked = ask (leb (start + 4) (length s)) 6 start then ask (marked k (at s start) (at s (start + 1))) 7 start then ask (eqb (at s (start + 2) + 256 * at s (start + 3)) many) 8 (start + 2) in
        let complete : Bool = leb (start + 4 + many) (length s) in
        rw payload_start (leb→le _ _ (ask_fine complete 6 start (then_fine head (ask complete 6 start) frame_fine).1))

    record_content : record_asked p n s k ≡ content_asked p n s k
    record_content = record_asked_parts ∙ fine_then frame_fine

    next_record : payload.at + many ≡ offset n (k + 1)
    next_record = ap (λ (x : ℕ). x + many) (payload_start ∙ ap (λ (x : ℕ). x + 4) starts) ∙ ap (λ (x : ℕ). offset n k + 4 + x) sized ∙ sym (offset_next n k)

    pub header_content : k ≡ 0 → read_of (order_and_prime n p) (payload.at + 2) ≡ read_of (record_asked p n s k) (offset n (k + 1))
    unfolding size
    header_content e =
        let two : 2 ≡ many = ap (size n) (sym e) ∙ sym sized in
        let content : content_asked p n s k ≡ order_and_prime n p = ap (content_asked p n s) e in
        ap₂ read_of (sym (record_content ∙ content)) (ap (λ (x : ℕ). payload.at + x) two ∙ next_record)

    pub residues_content : (k ≡ 0 → ⊥) → read_of (residues_asked p payload.at many s) (payload.at + many) ≡ read_of (record_asked p n s k) (offset n (k + 1))
    unfolding residues_asked
    residues_content h =
        let content : content_asked p n s k ≡ residues_asked p (offset n k + 4) (size n k) s = ap (λ (b : Bool). cond b (order_and_prime n p) (residues_asked p (offset n k + 4) (size n k) s)) (ne_eqb k 0 h) in
        ap₂ read_of (ap₂ (λ (x y : ℕ). residues_asked p x y s) (payload_start ∙ ap (λ (x : ℕ). x + 4) starts) sized ∙ sym (record_content ∙ content)) next_record

-- the record that was read is record k
pub read_here : {r : Result Cursor Fault} {p n x y j k : ℕ} (s : List ℕ) → r ≡ read_of (record_asked p n s j) (offset n (j + 1)) → p ≡ x → n ≡ y → j ≡ k → r ≡ read_of (record_asked x y s k) (offset y (k + 1))
read_here s h e f g = rw (← e, ← f, ← g) h

-- the first k records have been read
module _ (count : ℕ) (s : List ℕ) where
  abbrev records : ℕ → Asked
  records = record_asked (at s 4) (at s 5) s

  abbrev end : ℕ
  end = offset (at s 5) count

  pub records_bad : {r : Result Cursor Fault} {fault : Fault} (k next : ℕ) → k < count → each k records ≡ fine → r ≡ read_of (records k) next → r ≡ Err fault → r ≡ read_of (records_asked count s) end
  unfolding records_asked
  records_bad k next l h e f = bad_then (each count records) (ask (leb (length s) end) 10 end) end end (bad_each records k count next end l h e f) f

  -- every one of them is complete
  pub payload_within : records_asked count s ≡ fine → (k : ℕ) → k < count → offset (at s 5) (k + 1) ≤ length s
  unfolding records_asked
  payload_within e k l =
      let first = (then_fine (each count records) (ask (leb (length s) end) 10 end) e).0 in
      rw (offset_next (at s 5) k) (record_read (at s 4) (at s 5) s k (each_fine count records first k l)).complete

  module _ {k start : ℕ} (all : k ≡ count) (starts : start ≡ offset (at s 5) k) (good : each k records ≡ fine) where
    ends : start ≡ end
    ends = starts ∙ ap (offset (at s 5)) all

    every_good : each count records ≡ fine
    every_good = ap (λ (i : ℕ). each i records) (sym all) ∙ good

    pub records_after : start < length s → Err (Form BytesAfter start) ≡ read_of (records_asked count s) end
    unfolding records_asked ask
    records_after l =
        let after : leb (length s) end ≡ false = lt-leb (length s) end (let e = ends in omega arith) in
        ap (λ (x : ℕ). Err (Form BytesAfter x)) ends ∙ sym (ap (λ (q : Asked). read_of q end) (fine_then every_good ∙ ap (λ (b : Bool). cond b fine (refuse 10 end)) after))

    pub records_fine : length s ≤ start → Ok (record { at = start }) ≡ read_of (records_asked count s) end
    unfolding records_asked ask
    records_fine l =
        let none : leb (length s) end ≡ true = le-leb (length s) end (let e = ends in omega arith) in
        ap (λ (x : ℕ). Ok (record { at = x })) ends ∙ sym (ap (λ (q : Asked). read_of q end) (fine_then every_good ∙ ap (λ (b : Bool). cond b fine (refuse 10 end)) none))
