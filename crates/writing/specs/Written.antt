-- The ten records put into the output one after the other: the layout, and behind it what stood there before.
use Rattle.std.specs.Prelude.{◌≡◌, ℕ, suc, ◌+◌, ◌≤◌, ◌<◌, ◌%◌, ◌/◌, length}
use Rattle.std.proofs.Math.Path.{sym, ap}
use Rattle.std.proofs.Common.{◌∙◌, zero-add, arith}
use mathlib.Core.List.{List, [], ◌∷◌, ◌++◌, append_assoc}
use Rattle.std.proofs.Math.ListN.{drop}
use Rattle.forms.specs.Numbers.{at}
use Rattle.forms.specs.Certificate.{Certificate, mark, payload, record_bytes, joined, layout, size, offset, certificate_length}
use Rattle.forms.specs.Words.{LaidOut}
use Rattle.forms.proofs.Records.{mark_bytes, record_length, joined_length, offset_within}
use Rattle.forms.proofs.Payloads.{payload_length}
use Rattle.writing.specs.Put.{put, put_nothing, put_put}

-- mark and length of record k
unfoldable pub head_bytes : ℕ → ℕ → List ℕ
head_bytes k many = mark k ++ (many % 256 ∷ many / 256 ∷ [])

pub head_then_payload : (k many : ℕ) (s : List ℕ) → length s ≡ many → head_bytes k many ++ s ≡ record_bytes (mark k) s
unfolding head_bytes record_bytes
head_then_payload k many s e = append_assoc (mark k) _ s ∙ ap (λ (z : ℕ). mark k ++ (z % 256 ∷ z / 256 ∷ s)) (sym e)

-- the head, byte by byte
pub head_by_bytes : (k many : ℕ) → k < 10 → at (mark k) 0 ∷ at (mark k) 1 ∷ many % 256 ∷ many / 256 ∷ [] ≡ head_bytes k many
unfolding head_bytes
head_by_bytes k many l = ap (λ (m : List ℕ). m ++ (many % 256 ∷ many / 256 ∷ [])) (sym (mark_bytes k l))

pub head_length : (k many : ℕ) → k < 10 → length (head_bytes k many) ≡ 4
head_length k many l = sym (ap length (head_by_bytes k many l))

-- the first k records stand in the output, and the rest is as it was
pub record RecordsPut (c : Certificate) (k : ℕ) (before after : List ℕ) : Type 0 where
  pub written : after ≡ put before 0 (joined k (λ i. record_bytes (mark i) (payload c i)))

module _ (c : Certificate) (laid : LaidOut c) where
  abbrev n : ℕ
  n = c.n

  abbrev records : ℕ → List ℕ
  records k = record_bytes (mark k) (payload c k)

  records_length : (k : ℕ) → k ≤ 10 → length (joined k records) ≡ offset n k
  unfolding offset
  records_length k h = joined_length k records (λ i. 4 + size n i) (λ i l. record_length i (payload c i) (omega arith) ∙ ap (λ (z : ℕ). 4 + z) (payload_length c laid i (omega arith)))

  pub no_record_put : (before : List ℕ) → RecordsPut c 0 before before
  unfolding joined
  no_record_put before = record { written = sym (put_nothing before 0) }

  pub next_record_put : {k : ℕ} {before between after : List ℕ} → k < 10 → certificate_length n ≤ length before → RecordsPut c k before between
      → after ≡ put between (offset n k) (record_bytes (mark k) (payload c k)) → RecordsPut c (suc k) before after
  unfolding joined
  next_record_put {k} {before} l h p e =
      let long = records_length k (omega arith) in let within = offset_within n k l in
      record { written = e ∙ ap (λ (d : List ℕ). put d (offset n k) (records k)) p.written ∙ put_put before 0 (offset n k) (joined k records) (records k) (omega arith) (omega arith) }

  pub certificate_put : {before after : List ℕ} → RecordsPut c 10 before after → after ≡ layout c ++ drop (certificate_length n) before
  unfolding put layout
  certificate_put {before} p = p.written ∙ ap (λ (z : ℕ). layout c ++ drop z before) (zero-add _ ∙ records_length 10 (omega arith))
