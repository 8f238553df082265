-- Each record has its number, from 0 for HD to 9 for TI, and stands under it in the table.
use Rattle.std.specs.Prelude.{◌≡◌, refl, List, [], ◌∷◌, ℕ, ◌≤◌, ◌<◌, length, get_or, take}
use Rattle.std.proofs.Common.{◌∙◌, ap, arith, lit<}
use Rattle.std.proofs.lemmas.List.{get_or-take, length-take-le}
use Rattle.forms.proofs.Records.{ten_cases}
use Rattle.certificate.specs.declared.records.Record.{Record}
use Rattle.certificate.specs.declared.records.Record.TheVariants.{HD, MA, DF, PL, PI, QR, QI, FB, TB, TI}

abbrev pub number_of : Record → ℕ
number_of HD = 0
number_of MA = 1
number_of DF = 2
number_of PL = 3
number_of PI = 4
number_of QR = 5
number_of QI = 6
number_of FB = 7
number_of TB = 8
number_of TI = 9

abbrev pub records : List Record
records = HD ∷ MA ∷ DF ∷ PL ∷ PI ∷ QR ∷ QI ∷ FB ∷ TB ∷ TI ∷ []

-- what holds of each record holds of any
pub each_record : (P : Record → Type 0) → P HD → P MA → P DF → P PL → P PI → P QR → P QI → P FB → P TB → P TI → (r : Record) → P r
each_record P a b c d e f g h i j HD = a
each_record P a b c d e f g h i j MA = b
each_record P a b c d e f g h i j DF = c
each_record P a b c d e f g h i j PL = d
each_record P a b c d e f g h i j PI = e
each_record P a b c d e f g h i j QR = f
each_record P a b c d e f g h i j QI = g
each_record P a b c d e f g h i j FB = h
each_record P a b c d e f g h i j TB = i
each_record P a b c d e f g h i j TI = j

pub number_small : (r : Record) → number_of r < 10
number_small = each_record (λ r. number_of r < 10) (lit< tt) (lit< tt) (lit< tt) (lit< tt) (lit< tt) (lit< tt) (lit< tt) (lit< tt) (lit< tt) (lit< tt)

-- no other record has the number of HD
pub header_alone : (r : Record) → (r ≡ HD → ⊥) → number_of r ≡ 0 → ⊥
header_alone HD h e = h refl
header_alone MA h e = omega arith
header_alone DF h e = omega arith
header_alone PL h e = omega arith
header_alone PI h e = omega arith
header_alone QR h e = omega arith
header_alone QI h e = omega arith
header_alone FB h e = omega arith
header_alone TB h e = omega arith
header_alone TI h e = omega arith

-- the record in place i has the number i
pub number_at : (i : ℕ) (d : Record) → i < 10 → number_of (get_or records i d) ≡ i
number_at i d l = ten_cases (λ (i : ℕ). number_of (get_or records i d) ≡ i) refl refl refl refl refl refl refl refl refl refl i l

module _ (k : ℕ) (h : k ≤ 10) where
  -- there are k records among the first k
  pub first_records : length (take k records) ≡ k
  first_records = length-take-le k records h

  pub number_among : (i : ℕ) (d : Record) → i < length (take k records) → number_of (get_or (take k records) i d) ≡ i
  number_among i d l =
      let below : i < k = let e = first_records in omega arith in
      ap number_of (get_or-take k records i d below) ∙ number_at i d (omega arith)
