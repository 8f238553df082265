-- What each public operation promises: number, place and every lent byte. (The reciprocal stands in Reciprocals.)
use Rattle.std.specs.Prelude.{◌≡◌, Bool, cond, ◌&&◌, List, [], ◌++◌, ℕ, zero, suc, ◌*◌, eqb, ltb, leb, length, drop, Result, Ok, Err}
use Rattle.forms.specs.Numbers.{at}
use Rattle.forms.specs.Answers.{Asked, fine, refuse, ◌then◌, ask, each, asked_number, asked_place, refusal_of, analysed_number, analysed_place, verdict_number, verdict_place}
use Rattle.forms.specs.Certificate.{Certificate, layout, part, certificate_length}
use Rattle.forms.specs.Reading.{order_and_prime, marked, reading, certificate_of}
use Rattle.forms.specs.Rules.{rules, verdict}
use Rattle.forms.specs.Words.{Certified, LaidOut}
use Rattle.forms.specs.declared.Fault.{Fault}
use Rattle.forms.specs.declared.Refusal.{Refusal}

-- of p, n, the matrix A and the room of the output
unfoldable pub analysis_asked : ℕ → ℕ → List ℕ → ℕ → Asked
analysis_asked p n A room =
    order_and_prime n p
    then ask (eqb (length A) (n * n)) 3 (length A)
    then each (n * n) (λ i. ask (ltb (at A i) p) 4 i)
    then ask (leb (certificate_length n) room) 5 (certificate_length n)

-- before and after are the bytes of the output at entry and at exit
pub record Analyses (p n : ℕ) (A before after : List ℕ) (answer : Result ℕ Refusal) : Type 0 where
  pub refused : (number place : ℕ) → analysis_asked p n A (length before) ≡ refuse number place → (answer ≡ Err (refusal_of number place)) × (after ≡ before)
  pub written : analysis_asked p n A (length before) ≡ fine → (answer ≡ Ok (certificate_length n))
      × ((c : Certificate) × (after ≡ layout c ++ drop (certificate_length n) before) × LaidOut c × Certified p n A c)
  pub number : analysed_number answer ≡ asked_number (analysis_asked p n A (length before))
  pub place : analysed_place answer ≡ asked_place (analysis_asked p n A (length before)) (certificate_length n)

pub record Checks (s : List ℕ) (answer : Result ℕ Fault) : Type 0 where
  pub answered : answer ≡ verdict s
  pub number : verdict_number answer ≡ asked_number (reading s then rules (certificate_of s))
  pub place : verdict_place answer ≡ asked_place (reading s then rules (certificate_of s)) (length s)

-- m is exactly the mark of record k
abbrev pub is_mark : List ℕ → ℕ → Bool
is_mark m k = eqb (length m) 2 && marked k (at m 0) (at m 1)

-- the part of s that m marks, among the first k records; empty where it marks none
unfoldable pub part_marked : ℕ → List ℕ → List ℕ → List ℕ
part_marked zero s m = []
part_marked (suc k) s m = cond (is_mark m k) (part (at s 5) k s) (part_marked k s m)

unfoldable pub part_found : Asked → List ℕ → List ℕ → List ℕ
part_found fine s m = part_marked 10 s m
part_found (refuse number place) s m = []

pub record Finds (s m found : List ℕ) : Type 0 where
  pub answered : found ≡ part_found (reading s) s m
