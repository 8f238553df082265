-- What the program knows of its input once HD and MA are read, and of the room for the certificate.
use Rattle.std.specs.Prelude.{◌≡◌, List, ℕ, suc, ◌+◌, ◌*◌, ◌≤◌, ◌<◌, leb, length, drop}
use Rattle.std.proofs.Common.{◌∙◌, add-one, arith, lit<}
use Rattle.std.proofs.Math.ListN.{length-take, length-drop}
use Rattle.forms.specs.Numbers.{at, order_limit}
use Rattle.forms.specs.Answers.{fine, ask, each}
use Rattle.forms.specs.Certificate.{size, offset, certificate_length, part}
use Rattle.forms.specs.Reading.{record_asked, records_asked}
use Rattle.forms.specs.Tests.{then_fine, each_fine}
use Rattle.forms.proofs.Records.{offset_suc, offset_within}
use Rattle.forms.specs.OneRecord.{RecordRead}
use Rattle.forms.proofs.OneRecord.{record_read}
use Rattle.forms.proofs.Layouts.{order_and_prime_means}
use Rattle.forms.proofs.Prefixes.{certificate_length_rises}

-- HD and MA are read
module _ (s : List ℕ) (read : records_asked 2 s ≡ fine) where
  abbrev p : ℕ
  p = at s 4

  abbrev n : ℕ
  n = at s 5

  matrix_record : (k : ℕ) → k < 2 → RecordRead p n s k
  unfolding records_asked
  matrix_record k l = record_read p n s k (each_fine 2 (record_asked p n s) (then_fine (each 2 (record_asked p n s)) (ask (leb (length s) (offset n 2)) 10 (offset n 2)) read).0 k l)

  pub order_read : n ≤ order_limit
  order_read = (order_and_prime_means n p (matrix_record 0 (lit< tt)).content).1

  pub matrix_complete : offset n 2 ≤ length s
  matrix_complete = let h = (matrix_record 1 (lit< tt)).complete in let e = offset_suc n 1 in omega arith

-- the room is that of the largest certificate
module _ (n : ℕ) (room : List ℕ) (limited : n ≤ order_limit) (long : length room ≡ certificate_length order_limit) where
  pub record_within : (k : ℕ) → k < 10 → offset n (suc k) ≤ length room
  record_within k l = let a = offset_within n k l in let b = certificate_length_rises n order_limit limited in let e = offset_suc n k in omega arith

  part_length : (k : ℕ) → k < 10 → length (part n k room) ≡ size n k
  unfolding part
  part_length k l =
      let a = record_within k l in let e = offset_suc n k in
      length-take (size n k) (drop (offset n k + 4) room) ∙ (let q = length-drop (offset n k + 4) room in omega arith)

  pub D_length : length (part n 2 room) ≡ n * (n + 1)
  unfolding size
  D_length = rw (add-one n) (part_length 2 (lit< tt))

  pub F_length : length (part n 7 room) ≡ n * n
  unfolding size
  F_length = part_length 7 (lit< tt)
