-- The records of a laid out certificate put into the output one after the other, each as its head and its payload.
use Rattle.std.specs.Prelude.{◌≡◌, List, ℕ, ◌+◌, ◌*◌, ◌≤◌, ◌<◌, length}
use Rattle.std.proofs.Common.{sym, ◌∙◌, ap, subst, mul-le-mul, mul-suc, add-one, arith}
use Rattle.forms.specs.Numbers.{order_limit}
use Rattle.forms.specs.Certificate.{Certificate, mark, payload, record_bytes, size, offset, certificate_length}
use Rattle.forms.specs.Words.{LaidOut}
use Rattle.forms.proofs.Records.{ten_cases, offset_within}
use Rattle.forms.proofs.Payloads.{payload_length}
use Rattle.certificate.specs.Sizes.{offset_next}
use Rattle.writing.specs.Put.{put, Puts, puts_then, puts_bytes}
use Rattle.writing.specs.Written.{head_bytes, head_length, head_then_payload, RecordsPut, next_record_put}

-- a length of two bytes
pub size_fits : (n k : ℕ) → n ≤ order_limit → k < 10 → size n k < 65536
unfolding size
size_fits n k h =
    let square : n * n ≤ order_limit * order_limit = mul-le-mul h h in let cube : n * n * n ≤ order_limit * order_limit * order_limit = mul-le-mul square h in let e = mul-suc n n in
    ten_cases (λ k. size n k < 65536) (omega arith) (omega arith) (omega arith) (omega arith) (omega arith) (omega arith) (omega arith) (omega arith) (omega arith) (omega arith) k

-- before record k: it starts at `at`, its payload has `many` bytes, and there is room for the whole certificate
pub record Turn (c : Certificate) (k at many : ℕ) (before between : List ℕ) : Type 0 where
  pub due : k < 10
  pub room : certificate_length c.n ≤ length before
  pub kept : length between ≡ length before
  pub starts : at ≡ offset c.n k
  pub sized : many ≡ size c.n k

module _ {c : Certificate} {k at many : ℕ} {before between : List ℕ} (turn : Turn c k at many before between) where
  pub head_room : at + 4 ≤ length between
  head_room = let h = offset_within c.n k turn.due in omega arith

  module _ {start : ℕ} {middle : List ℕ} (head : Puts at (head_bytes k many) between middle start) where
    four : length (head_bytes k many) ≡ 4
    four = head_length k many turn.due

    pub payload_room : length middle ≡ length between → start + size c.n k ≤ length middle
    payload_room e = let h = offset_within c.n k turn.due in let q = four in let s = head.ends in omega arith

    -- the next record
    pub record_turn : {next : ℕ} {after : List ℕ} → LaidOut c → RecordsPut c k before between → Puts start (payload c k) middle after next → RecordsPut c (k + 1) before after × (next ≡ offset c.n (k + 1))
    record_turn {next} {after} laid done body =
        let z = payload_length c laid k turn.due in let q = four in let o = offset_next c.n k in let e = head.ends in let f = body.ends in
        let whole : Puts at (record_bytes (mark k) (payload c k)) between after next =
        puts_bytes (head_then_payload k many (payload c k) (z ∙ sym turn.sized)) (puts_then head body (let h = head_room in omega arith)) in
        let put_there = whole.written ∙ ap (λ (x : ℕ). put between x (record_bytes (mark k) (payload c k))) turn.starts in
        (subst (λ (i : ℕ). RecordsPut c i before after) (sym (add-one k)) (next_record_put c laid turn.due turn.room done put_there), omega arith)
