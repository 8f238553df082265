-- Reasons and numbers: each reason has a number of its own, and whatever is refused by a number from 1 to 10 has its reason.
use Rattle.std.specs.Prelude.{◌≡◌, refl, Bool, true, false, cond, List, ℕ, zero, suc, ◌+◌, ◌*◌, eqb, leb, ltb, length}
use Rattle.std.proofs.Common.{sym, ◌∙◌, ap, ap₂}
use Rattle.forms.specs.Numbers.{at, prime}
use Rattle.forms.specs.Answers.{Asked, fine, refuse, ◌then◌, ask, each, reason_number, reason_of, refusal_of, refused_by}
use Rattle.forms.specs.Certificate.{size, offset, certificate_length}
use Rattle.forms.specs.Reading.{order_and_prime, marked, record_asked, records_asked, reading}
use Rattle.forms.specs.Operations.{analysis_asked}
use Rattle.forms.specs.Reciprocals.{reciprocal_asked}
use Rattle.forms.specs.declared.Reason.{Reason}
use Rattle.forms.specs.declared.Reason.TheVariants.{OrderOutOfRange, NotPrime, MatrixLength, EntryTooLarge, OutputTooShort, RecordIncomplete, WrongMark, WrongLength, ByteTooLarge, BytesAfter}
use Rattle.forms.specs.declared.Refusal.{Refusal}

pub reason_of_number : (r : Reason) → reason_of (reason_number r) ≡ r
reason_of_number OrderOutOfRange = refl
reason_of_number NotPrime = refl
reason_of_number MatrixLength = refl
reason_of_number EntryTooLarge = refl
reason_of_number OutputTooShort = refl
reason_of_number RecordIncomplete = refl
reason_of_number WrongMark = refl
reason_of_number WrongLength = refl
reason_of_number ByteTooLarge = refl
reason_of_number BytesAfter = refl

-- a refusal is told by its number and place
pub refused_is : (r : Refusal) (number place : ℕ) → refused_by r ≡ refuse number place → r ≡ refusal_of number place
refused_is r number place e =
    let same_number : reason_number r.reason ≡ number = cc in
    let same_place : r.place ≡ place = cc in
    ap₂ (λ (x : Reason) (y : ℕ). let z : Refusal = record { reason = x; place = y } in z) (sym (reason_of_number r.reason) ∙ ap reason_of same_number) same_place

-- what questions come to has a reason
abbrev pub Reasoned : Asked → Type 0
Reasoned fine = Unit {0}
Reasoned (refuse number place) = reason_number (reason_of number) ≡ number

pub reasoned_then : (s t : Asked) → Reasoned s → Reasoned t → Reasoned (s then t)
reasoned_then fine t h g = g
reasoned_then (refuse number place) t h g = h

pub reasoned_ask : (b : Bool) (number place : ℕ) → reason_number (reason_of number) ≡ number → Reasoned (ask b number place)
unfolding ask
reasoned_ask true number place h = tt
reasoned_ask false number place h = h

pub reasoned_each : (n : ℕ) (t : ℕ → Asked) → ((k : ℕ) → Reasoned (t k)) → Reasoned (each n t)
unfolding each
reasoned_each zero t h = tt
reasoned_each (suc n) t h = reasoned_then (each n t) (t n) (reasoned_each n t h) (h n)

pub limits_reasoned : (n p : ℕ) → Reasoned (order_and_prime n p)
unfolding order_and_prime
limits_reasoned n p = reasoned_then _ _ (reasoned_ask _ 1 n refl) (reasoned_ask (prime p) 2 p refl)

pub record_reasoned : (p n : ℕ) (s : List ℕ) (k : ℕ) → Reasoned (record_asked p n s k)
unfolding record_asked
record_reasoned p n s k =
    let start = offset n k in let many = size n k in
    reasoned_then _ _
    (reasoned_then _ _
    (reasoned_then _ _
    (reasoned_then _ _ (reasoned_ask (leb (start + 4) (length s)) 6 start refl) (reasoned_ask (marked k (at s start) (at s (suc start))) 7 start refl))
    (reasoned_ask (eqb (at s (start + 2) + 256 * at s (start + 3)) many) 8 (start + 2) refl))
    (reasoned_ask (leb (start + 4 + many) (length s)) 6 start refl))
    (content (eqb k 0))
  where
    content : (b : Bool) → Reasoned (cond b (order_and_prime n p) (each (size n k) (λ i. ask (ltb (at s (offset n k + 4 + i)) p) 9 (offset n k + 4 + i))))
    content true = limits_reasoned n p
    content false = reasoned_each (size n k) _ (λ i. reasoned_ask (ltb (at s (offset n k + 4 + i)) p) 9 (offset n k + 4 + i) refl)

pub reading_reasoned : (s : List ℕ) → Reasoned (reading s)
unfolding records_asked
reading_reasoned s =
    reasoned_then _ _ (reasoned_each 10 _ (record_reasoned (at s 4) (at s 5) s)) (reasoned_ask (leb (length s) (offset (at s 5) 10)) 10 (offset (at s 5) 10) refl)

pub reciprocal_reasoned : (p x : ℕ) → Reasoned (reciprocal_asked p x)
unfolding reciprocal_asked
reciprocal_reasoned p x = reasoned_then _ _ (reasoned_ask (prime p) 2 p refl) (reasoned_ask (ltb x p) 4 0 refl)

pub analysis_reasoned : (p n : ℕ) (A : List ℕ) (room : ℕ) → Reasoned (analysis_asked p n A room)
unfolding analysis_asked
analysis_reasoned p n A room =
    reasoned_then _ _
    (reasoned_then _ _
    (reasoned_then _ _ (limits_reasoned n p) (reasoned_ask (eqb (length A) (n * n)) 3 (length A) refl))
    (reasoned_each (n * n) _ (λ i. reasoned_ask (ltb (at A i) p) 4 i refl)))
    (reasoned_ask (leb (certificate_length n) room) 5 (certificate_length n) refl)
