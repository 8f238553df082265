-- Questions asked in an order, of which the first that fails gives the refusal; and the number and the place of each answer.
use Rattle.std.specs.Prelude.{Bool, cond, List, [], ◌∷◌, ℕ, zero, suc, ◌-◌, Result, Ok, Err, get_or}
use Rattle.forms.specs.declared.Reason.{Reason}
use Rattle.forms.specs.declared.Reason.TheVariants.{OrderOutOfRange, NotPrime, MatrixLength, EntryTooLarge, OutputTooShort, RecordIncomplete, WrongMark, WrongLength, ByteTooLarge, BytesAfter}
use Rattle.forms.specs.declared.Refusal.{Refusal}
use Rattle.forms.specs.declared.Fault.{Fault}
use Rattle.forms.specs.declared.Fault.TheVariants.{Form, Rule}

-- what questions come to: nothing to refuse, or a number and a place
pub data Asked : Type 0 where
  fine : Asked
  refuse : ℕ → ℕ → Asked

infixl 20 ◌then◌
abbrev pub ◌then◌ : Asked → Asked → Asked
fine then t = t
refuse a b then t = refuse a b

-- one question: where the test fails, this number and place
unfoldable pub ask : Bool → ℕ → ℕ → Asked
ask b number place = cond b fine (refuse number place)

-- t 0 then .. then t (n-1)
unfoldable pub each : ℕ → (ℕ → Asked) → Asked
each zero t = fine
each (suc n) t = each n t then t n

-- the number and the place that come of it; the place of 0 is a length
abbrev pub asked_number : Asked → ℕ
asked_number fine = 0
asked_number (refuse number place) = number

abbrev pub asked_place : Asked → ℕ → ℕ
asked_place fine length = length
asked_place (refuse number place) length = place

-- the number of each reason
abbrev pub reason_number : Reason → ℕ
reason_number OrderOutOfRange = 1
reason_number NotPrime = 2
reason_number MatrixLength = 3
reason_number EntryTooLarge = 4
reason_number OutputTooShort = 5
reason_number RecordIncomplete = 6
reason_number WrongMark = 7
reason_number WrongLength = 8
reason_number ByteTooLarge = 9
reason_number BytesAfter = 10

-- the reason of each number from 1 to 10
abbrev pub reason_of : ℕ → Reason
reason_of number =
    get_or (OrderOutOfRange ∷ NotPrime ∷ MatrixLength ∷ EntryTooLarge ∷ OutputTooShort ∷ RecordIncomplete ∷ WrongMark ∷ WrongLength ∷ ByteTooLarge ∷ BytesAfter ∷ []) (number - 1) BytesAfter

abbrev pub refusal_of : ℕ → ℕ → Refusal
refusal_of number place = record { reason = reason_of number; place = place }

-- the refusals of the analysis and of the reciprocal
abbrev pub refusal_number : Refusal → ℕ
refusal_number refusal = reason_number refusal.reason

abbrev pub refusal_place : Refusal → ℕ
refusal_place refusal = refusal.place

-- the question that a refusal answers
abbrev pub refused_by : Refusal → Asked
refused_by refusal = refuse (refusal_number refusal) (refusal_place refusal)

-- what is refused of n and p alone, as a fault of the header that holds them
abbrev pub form_fault : Refusal → Fault
form_fault refusal = Form refusal.reason refusal.place

-- the check's answer
abbrev pub fault_number : Fault → ℕ
fault_number (Form reason offset) = reason_number reason
fault_number (Rule rule) = 11

abbrev pub fault_place : Fault → ℕ
fault_place (Form reason offset) = offset
fault_place (Rule rule) = rule

-- the number and the place of any answer: 0 with the value, or those of what refuses
abbrev pub answer_number : {E : Type 0} → (E → ℕ) → Result ℕ E → ℕ
answer_number number (Ok value) = 0
answer_number number (Err refusal) = number refusal

abbrev pub answer_place : {E : Type 0} → (E → ℕ) → Result ℕ E → ℕ
answer_place place (Ok value) = value
answer_place place (Err refusal) = place refusal

abbrev pub verdict_number : Result ℕ Fault → ℕ
verdict_number = answer_number fault_number

abbrev pub verdict_place : Result ℕ Fault → ℕ
verdict_place = answer_place fault_place

-- the analysis's answer
abbrev pub analysed_number : Result ℕ Refusal → ℕ
analysed_number = answer_number refusal_number

abbrev pub analysed_place : Result ℕ Refusal → ℕ
analysed_place = answer_place refusal_place

-- the reciprocal's answer: its value is the residue, or the place of the refusal
abbrev pub reciprocal_number : Result ℕ Refusal → ℕ
reciprocal_number = answer_number refusal_number

abbrev pub reciprocal_value : Result ℕ Refusal → ℕ
reciprocal_value = answer_place refusal_place
