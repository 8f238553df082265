-- Document 01's own cases, computed from the definitions: case b byte by byte, its refusals, and the questions of each operation.
use Rattle.std.specs.Prelude.{◌≡◌, refl, List, [], ◌∷◌, ◌++◌, ℕ, take, Result, Ok, Err}
use Rattle.forms.specs.Numbers.{total, every, prime}
use Rattle.forms.specs.Answers.{fine, refuse, ask, each}
use Rattle.forms.specs.Reciprocals.{reciprocal_asked}
use Rattle.forms.specs.Polynomials.{convolution, degree, remainder, exponent}
use Rattle.forms.specs.Matrices.{matrix, polynomial_matrix, diagonal, unit, polynomial_unit, diagonal_matrix, characteristic, field_product, polynomial_product}
use Rattle.forms.specs.Frobenius.{companion, blocks, frobenius, lead}
use Rattle.forms.specs.Certificate.{Certificate, mark, payload, record_bytes, joined, layout, size, offset, certificate_length, part}
use Rattle.forms.specs.Reading.{order_and_prime, record_asked, records_asked, reading, certificate_of}
use Rattle.forms.specs.Rules.{rule, rules, verdict_of, verdict}
use Rattle.forms.specs.Operations.{analysis_asked, part_marked, part_found}
use Rattle.forms.specs.declared.Fault.TheVariants.{Form, Rule}
use Rattle.forms.specs.declared.Reason.TheVariants.{RecordIncomplete, BytesAfter}

-- p 5, n 2, A = (2 1 / 0 3), with one choice of P, Q and T
abbrev case_b : Certificate
case_b = record {
  p = 5;
  n = 2;
  MA = 2 ∷ 1 ∷ 0 ∷ 3 ∷ [];
  DF = 1 ∷ 0 ∷ 0 ∷ 1 ∷ 0 ∷ 1 ∷ [];
  PL = 4 ∷ 0 ∷ 0 ∷ 0 ∷ 2 ∷ 1 ∷ 1 ∷ 0 ∷ [];
  PI = 4 ∷ 0 ∷ 0 ∷ 0 ∷ 2 ∷ 1 ∷ 1 ∷ 0 ∷ [];
  QR = 0 ∷ 0 ∷ 1 ∷ 0 ∷ 1 ∷ 0 ∷ 3 ∷ 1 ∷ [];
  QI = 2 ∷ 4 ∷ 1 ∷ 0 ∷ 1 ∷ 0 ∷ 0 ∷ 0 ∷ [];
  FB = 0 ∷ 4 ∷ 1 ∷ 0 ∷ [];
  TB = 0 ∷ 1 ∷ 1 ∷ 3 ∷ [];
  TI = 2 ∷ 1 ∷ 1 ∷ 0 ∷ [];
}

-- the first eight records, the mark and length of TB, and all
abbrev up_to_T : List ℕ
up_to_T =
    72 ∷ 68 ∷ 2 ∷ 0 ∷ 5 ∷ 2
    ∷ 77 ∷ 65 ∷ 4 ∷ 0 ∷ 2 ∷ 1 ∷ 0 ∷ 3
    ∷ 68 ∷ 70 ∷ 6 ∷ 0 ∷ 1 ∷ 0 ∷ 0 ∷ 1 ∷ 0 ∷ 1
    ∷ 80 ∷ 76 ∷ 8 ∷ 0 ∷ 4 ∷ 0 ∷ 0 ∷ 0 ∷ 2 ∷ 1 ∷ 1 ∷ 0
    ∷ 80 ∷ 73 ∷ 8 ∷ 0 ∷ 4 ∷ 0 ∷ 0 ∷ 0 ∷ 2 ∷ 1 ∷ 1 ∷ 0
    ∷ 81 ∷ 82 ∷ 8 ∷ 0 ∷ 0 ∷ 0 ∷ 1 ∷ 0 ∷ 1 ∷ 0 ∷ 3 ∷ 1
    ∷ 81 ∷ 73 ∷ 8 ∷ 0 ∷ 2 ∷ 4 ∷ 1 ∷ 0 ∷ 1 ∷ 0 ∷ 0 ∷ 0
    ∷ 70 ∷ 66 ∷ 4 ∷ 0 ∷ 0 ∷ 4 ∷ 1 ∷ 0
    ∷ []

abbrev case_b_bytes : List ℕ
case_b_bytes = up_to_T ++ (84 ∷ 66 ∷ 4 ∷ 0 ∷ 0 ∷ 1 ∷ 1 ∷ 3 ∷ 84 ∷ 73 ∷ 4 ∷ 0 ∷ 2 ∷ 1 ∷ 1 ∷ 0 ∷ [])

pub document_example : layout case_b ≡ case_b_bytes
unfolding layout joined record_bytes mark payload
document_example = refl

pub whole_lengths : (certificate_length 1 ≡ 52) × (certificate_length 2 ≡ 96) × (certificate_length 12 ≡ 7686)
unfolding offset size total
whole_lengths = (refl, refl, refl)

-- what the check answers to case b, and to bytes that are nearly it
pub case_b_accepted : verdict case_b_bytes ≡ Ok 96
unfolding verdict verdict_of records_asked record_asked order_and_prime rules rule certificate_of ask each every total prime matrix polynomial_matrix diagonal unit polynomial_unit diagonal_matrix characteristic field_product convolution polynomial_product degree remainder companion blocks frobenius mark size offset part
case_b_accepted = refl

pub no_bytes : verdict [] ≡ Err (Form RecordIncomplete 0)
unfolding verdict verdict_of records_asked record_asked ask each mark size offset total
no_bytes = refl

pub last_byte_gone : verdict (take 95 case_b_bytes) ≡ Err (Form RecordIncomplete 88)
unfolding verdict verdict_of records_asked record_asked order_and_prime ask each every total prime mark size offset
last_byte_gone = refl

pub one_byte_more : verdict (case_b_bytes ++ (0 ∷ [])) ≡ Err (Form BytesAfter 96)
unfolding verdict verdict_of records_asked record_asked order_and_prime ask each every total prime mark size offset
one_byte_more = refl

pub T_all_zero : verdict (up_to_T ++ (84 ∷ 66 ∷ 4 ∷ 0 ∷ 0 ∷ 0 ∷ 0 ∷ 0 ∷ 84 ∷ 73 ∷ 4 ∷ 0 ∷ 0 ∷ 0 ∷ 0 ∷ 0 ∷ [])) ≡ Err (Rule 8)
unfolding verdict verdict_of records_asked record_asked order_and_prime rules rule certificate_of ask each every total prime matrix polynomial_matrix diagonal unit polynomial_unit diagonal_matrix characteristic field_product convolution polynomial_product degree remainder companion blocks frobenius mark size offset part
T_all_zero = refl

-- where two things are wrong, the first asked decides: mark, length, payload's end, n, p
pub first_refusal : (reading (72 ∷ 69 ∷ 3 ∷ 0 ∷ []) ≡ refuse 7 0) × (reading (72 ∷ 68 ∷ 3 ∷ 0 ∷ 5 ∷ []) ≡ refuse 8 2)
    × (reading (72 ∷ 68 ∷ 2 ∷ 0 ∷ 9 ∷ []) ≡ refuse 6 0) × (reading (72 ∷ 68 ∷ 2 ∷ 0 ∷ 9 ∷ 13 ∷ []) ≡ refuse 1 13)
    × (reading (72 ∷ 68 ∷ 2 ∷ 0 ∷ 9 ∷ 2 ∷ []) ≡ refuse 2 9) × (reading (72 ∷ 68 ∷ 2 ∷ 0 ∷ 5 ∷ 2 ∷ 77 ∷ 65 ∷ 4 ∷ 0 ∷ 2 ∷ 5 ∷ 5 ∷ []) ≡ refuse 6 6)
    × (reading (72 ∷ 68 ∷ 2 ∷ 0 ∷ 5 ∷ 2 ∷ 77 ∷ 65 ∷ 4 ∷ 0 ∷ 2 ∷ 5 ∷ 5 ∷ 3 ∷ []) ≡ refuse 9 11)
unfolding records_asked record_asked order_and_prime ask each every total prime mark size offset
first_refusal = (refl, refl, refl, refl, refl, refl, refl)

-- what the analysis asks of p, n, A and the room of the output
pub analysis_questions : (analysis_asked 5 0 [] 96 ≡ refuse 1 0) × (analysis_asked 9 13 [] 96 ≡ refuse 1 13) × (analysis_asked 9 2 [] 96 ≡ refuse 2 9)
    × (analysis_asked 251 1 (250 ∷ []) 52 ≡ fine) × (analysis_asked 257 1 (0 ∷ []) 52 ≡ refuse 2 257)
    × (analysis_asked 5 2 (0 ∷ 0 ∷ 0 ∷ []) 96 ≡ refuse 3 3) × (analysis_asked 5 2 (0 ∷ 0 ∷ 0 ∷ 5 ∷ []) 96 ≡ refuse 4 3)
    × (analysis_asked 5 2 (0 ∷ 0 ∷ 0 ∷ 4 ∷ []) 95 ≡ refuse 5 96) × (analysis_asked 5 2 (0 ∷ 0 ∷ 0 ∷ 4 ∷ []) 96 ≡ fine)
unfolding analysis_asked order_and_prime ask each every total prime size offset
analysis_questions = (refl, refl, refl, refl, refl, refl, refl, refl, refl)

-- and the reciprocal of p and a number
pub reciprocal_questions : (reciprocal_asked 9 10 ≡ refuse 2 9) × (reciprocal_asked 5 7 ≡ refuse 4 0) × (reciprocal_asked 5 4 ≡ fine)
unfolding reciprocal_asked ask every prime
reciprocal_questions = (refl, refl, refl)

-- what finding gives: the payload, nothing for a mark that is none or is longer, nothing where reading refuses
pub case_b_found : (part_found (reading case_b_bytes) case_b_bytes (68 ∷ 70 ∷ []) ≡ 1 ∷ 0 ∷ 0 ∷ 1 ∷ 0 ∷ 1 ∷ []) × (part_found (reading case_b_bytes) case_b_bytes (68 ∷ 71 ∷ []) ≡ [])
    × (part_found (reading case_b_bytes) case_b_bytes (68 ∷ 70 ∷ 0 ∷ []) ≡ []) × (part_found (reading up_to_T) up_to_T (68 ∷ 70 ∷ []) ≡ [])
unfolding part_found part_marked records_asked record_asked order_and_prime ask each every total prime mark size offset part
case_b_found = (refl, refl, refl, refl)

-- lead of cases b, f and g
pub leads : (lead 2 (diagonal 2 (1 ∷ 0 ∷ 0 ∷ 1 ∷ 0 ∷ 1 ∷ [])) ≡ 0) × (lead 3 (diagonal 3 (1 ∷ 0 ∷ 0 ∷ 0 ∷ 1 ∷ 0 ∷ 0 ∷ 0 ∷ 0 ∷ 4 ∷ 4 ∷ 1 ∷ [])) ≡ 1)
    × (lead 3 (diagonal 3 (0 ∷ 1 ∷ 0 ∷ 0 ∷ 0 ∷ 1 ∷ 0 ∷ 0 ∷ 0 ∷ 1 ∷ 0 ∷ 0 ∷ [])) ≡ 3)
unfolding lead exponent diagonal total
leads = (refl, refl, refl)

-- F of case i, whose blocks are of sizes 1, 1 and 2: the one 1 stands in the last block
abbrev case_i_F : ℕ → ℕ → ℕ
case_i_F = frobenius 2 4 (diagonal 4 (1 ∷ 0 ∷ 0 ∷ 0 ∷ 0 ∷ 0 ∷ 1 ∷ 0 ∷ 0 ∷ 0 ∷ 0 ∷ 1 ∷ 0 ∷ 0 ∷ 0 ∷ 0 ∷ 0 ∷ 1 ∷ 0 ∷ 0 ∷ []))

pub case_i_blocks : (case_i_F 3 2 ≡ 1) × (case_i_F 1 0 ≡ 0) × (case_i_F 2 3 ≡ 0)
unfolding frobenius blocks companion unit degree diagonal
case_i_blocks = (refl, refl, refl)
