-- One record: what its reading has seen where it refuses nothing, and the bytes that it then has.
use Rattle.std.specs.Prelude.{◌≡◌, Bool, ◌&&◌, eqb, leb, length}
use Rattle.std.proofs.Math.Path.{sym, ap, ap₂}
use Rattle.std.proofs.Common.{◌∙◌, le→leb}
use mathlib.Core.List.{List, ◌∷◌}
use Prim.Native.Nat.{ℕ, suc, ◌+◌, ◌*◌, ◌/◌, ◌%◌, ◌<◌}
use Rattle.std.proofs.Math.Nat.{zero-add, add-mul-mod_self_left, add-mul-div_left, mod-eq_of_lt, div-eq_of_lt}
use native.Mathlib.Omega.{arith}
use Rattle.std.proofs.Math.Dec.{eqb→eq, leb→le}
use Rattle.std.proofs.Math.ListN.{take, drop, length-take, length-drop}
use Rattle.std.proofs.Math.Seq.{drop-cons, get_or-take, get_or-drop}
use Rattle.forms.specs.Numbers.{at}
use Rattle.forms.specs.Answers.{fine, ◌then◌, ask}
use Rattle.forms.specs.Certificate.{mark, record_bytes, size, offset, part}
use Rattle.forms.specs.Reading.{record_asked}
use Rattle.forms.specs.Tests.{equal_holds, and_parts, and_holds, ask_fine, fine_ask, then_fine, fine_then}
use Rattle.forms.proofs.Records.{record_bytes_laid}
use Rattle.forms.specs.OneRecord.{Bytes, RecordRead, content_asked}

module _ (p n : ℕ) (s : List ℕ) (k : ℕ) where
  abbrev start : ℕ
  start = offset n k

  abbrev many : ℕ
  many = size n k

  abbrev four_left : Bool
  four_left = leb (start + 4) (length s)

  abbrev first_right : Bool
  first_right = eqb (at s start) (at (mark k) 0)

  abbrev second_right : Bool
  second_right = eqb (at s (suc start)) (at (mark k) 1)

  abbrev length_test : Bool
  length_test = eqb (at s (start + 2) + 256 * at s (start + 3)) many

  abbrev all_left : Bool
  all_left = leb (start + 4 + many) (length s)

  pub record_read : record_asked p n s k ≡ fine → RecordRead p n s k
  unfolding record_asked
  record_read e =
      let a = then_fine (ask four_left 6 start then ask (first_right && second_right) 7 start then ask length_test 8 (start + 2) then ask all_left 6 start) (content_asked p n s k) e in
      let b = then_fine (ask four_left 6 start then ask (first_right && second_right) 7 start then ask length_test 8 (start + 2)) (ask all_left 6 start) a.0 in
      let c = then_fine (ask four_left 6 start then ask (first_right && second_right) 7 start) (ask length_test 8 (start + 2)) b.0 in
      let d = then_fine (ask four_left 6 start) (ask (first_right && second_right) 7 start) c.0 in
      let m = and_parts first_right second_right (ask_fine (first_right && second_right) 7 start d.1) in
      record {
        mark_first = eqb→eq _ _ m.0;
        mark_second = eqb→eq _ _ m.1;
        length_right = eqb→eq _ _ (ask_fine length_test 8 (start + 2) c.1);
        complete = leb→le _ _ (ask_fine all_left 6 start b.1);
        content = a.1;
      }

  pub read_record : RecordRead p n s k → record_asked p n s k ≡ fine
  unfolding record_asked
  read_record h =
      let four_fine : ask four_left 6 start ≡ fine = fine_ask four_left 6 start (le→leb (start + 4) (length s) (let q = h.complete in omega arith)) in
      let mark_fine : ask (first_right && second_right) 7 start ≡ fine = fine_ask (first_right && second_right) 7 start (and_holds first_right second_right (equal_holds _ _ h.mark_first) (equal_holds _ _ h.mark_second)) in
      let length_fine : ask length_test 8 (start + 2) ≡ fine = fine_ask length_test 8 (start + 2) (equal_holds _ _ h.length_right) in
      let all_fine : ask all_left 6 start ≡ fine = fine_ask all_left 6 start (le→leb (start + 4 + many) (length s) h.complete) in
      fine_then (fine_then (fine_then (fine_then four_fine ∙ mark_fine) ∙ length_fine) ∙ all_fine) ∙ h.content

  pub part_length : RecordRead p n s k → length (part n k s) ≡ many
  unfolding part
  part_length h = let c = h.complete in length-take many (drop (start + 4) s) ∙ (let q = length-drop (start + 4) s in omega arith)

  pub part_at : (i : ℕ) → i < many → at (part n k s) i ≡ at s (start + 4 + i)
  unfolding part
  part_at i m = get_or-take many (drop (start + 4) s) i 0 m ∙ get_or-drop (start + 4) s i 0

  -- the bytes of record k are its mark, its length and its part
  pub record_of_bytes : k < 10 → Bytes s → RecordRead p n s k → take (4 + many) (drop start s) ≡ record_bytes (mark k) (part n k s)
  unfolding part
  record_of_bytes l b h =
      let complete = h.complete in
      let four : 4 + many ≡ suc (suc (suc (suc many))) = omega arith in
      let two : suc (suc start) ≡ start + 2 = omega arith in let three : suc (suc (suc start)) ≡ start + 3 = omega arith in let last : suc (suc (suc (suc start))) ≡ start + 4 = omega arith in
      let low : many % 256 ≡ at s (start + 2) = ap (λ (x : ℕ). x % 256) (sym h.length_right) ∙ add-mul-mod_self_left (at s (start + 2)) 256 (at s (start + 3)) ∙ mod-eq_of_lt (b (start + 2)) in
      let high : many / 256 ≡ at s (start + 3) = ap (λ (x : ℕ). x / 256) (sym h.length_right) ∙ add-mul-div_left (at s (start + 2)) (at s (start + 3)) {y = 256} (omega arith) ∙ ap (λ (x : ℕ). x + at s (start + 3)) (div-eq_of_lt (b (start + 2))) ∙ zero-add _ in
      let d : drop start s ≡ at s start ∷ at s (suc start) ∷ at s (suc (suc start)) ∷ at s (suc (suc (suc start))) ∷ drop (suc (suc (suc (suc start)))) s =
      drop-cons s start 0 (omega arith) ∙ ap (λ (x : List ℕ). at s start ∷ x) (drop-cons s (suc start) 0 (omega arith) ∙ ap (λ (x : List ℕ). at s (suc start) ∷ x) (drop-cons s (suc (suc start)) 0 (omega arith) ∙ ap (λ (x : List ℕ). at s (suc (suc start)) ∷ x) (drop-cons s (suc (suc (suc start))) 0 (omega arith)))) in
      ap₂ (λ (x : ℕ) (y : List ℕ). take x y) four d
      ∙ five h.mark_first h.mark_second (ap (at s) two ∙ sym low) (ap (at s) three ∙ sym high) (ap (λ (x : ℕ). take many (drop x s)) last)
      ∙ sym (record_bytes_laid n k (part n k s) l (part_length h))
    where
      five : {a a' b b' c c' d d' : ℕ} {s t : List ℕ} → a ≡ a' → b ≡ b' → c ≡ c' → d ≡ d' → s ≡ t → a ∷ b ∷ c ∷ d ∷ s ≡ a' ∷ b' ∷ c' ∷ d' ∷ t
      five e f g h i = cc
