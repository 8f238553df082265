-- Each return answers one question, and the questions before it refuse nothing.
use Rattle.std.proofs.Common.{arith, ℕ, sym, ◌∙◌, ap}
use Rattle.forms.specs.Answers.{refuse}
use Rattle.certificate.specs.ReadRecords.{refusal_kept}
use Rattle.analysis.specs.Questions.{order_kept, square_kept, prime_kept, limits_refused, length_refused, entry_refused, room_refused, nothing_refused}
use Rattle.analysis.proofs.questions.analysis_asked.Goals as goal

pub returns-in_err-order_and_prime : goal.returns-in_err-order_and_prime
returns-in_err-order_and_prime c =
    let a = c.args in
    refusal_kept _ _ (sym (limits_refused a.p a.n a.matrix.now a.room (sym c.in_err-order_and_prime.ensures))) c.from_residual.ensures.1

pub overflow_mul-rows : goal.overflow_mul-rows
overflow_mul-rows c = let a = c.args in omega (arith, square_kept a.n a.p (sym c.in_ok-order_and_prime.ensures))

pub returns-then-matrix-rows : goal.returns-then-matrix-rows
returns-then-matrix-rows c = let a = c.args in sym (length_refused a.p a.n a.matrix.now a.room (sym c.in_ok-order_and_prime.ensures) c.if-matrix-rows.true)

pub overflow_cast-p : goal.overflow_cast-p
overflow_cast-p c = let a = c.args in omega (arith, prime_kept a.n a.p (sym c.in_ok-order_and_prime.ensures))

pub returns-in_err-entries_asked : goal.returns-in_err-entries_asked
returns-in_err-entries_asked c =
    let a = c.args in
    refusal_kept _ _ (sym (entry_refused a.p a.n a.matrix.now a.room (sym c.in_ok-order_and_prime.ensures) c.if-matrix-rows.false (sym c.in_err-entries_asked.ensures))) c.from_residual-in_err-entries_asked.ensures.1

pub overflow_cast-n : goal.overflow_cast-n
overflow_cast-n c = let a = c.args in omega (arith, order_kept a.n a.p (sym c.in_ok-order_and_prime.ensures))

pub returns-then-room-needed : goal.returns-then-room-needed
returns-then-room-needed c =
    let a = c.args in
    ap (λ (z : ℕ). refuse 5 z) c.end-needed.ensures ∙ sym (room_refused a.p a.n a.matrix.now a.room (sym c.in_ok-order_and_prime.ensures) c.if-matrix-rows.false (sym c.in_ok-entries_asked.ensures) (rw c.end-needed.ensures at c.if-room-needed.true))

pub returns : goal.returns
returns c =
    let a = c.args in
    sym (nothing_refused a.p a.n a.matrix.now a.room (sym c.in_ok-order_and_prime.ensures) c.if-matrix-rows.false (sym c.in_ok-entries_asked.ensures) (rw c.end-needed.ensures at c.if-room-needed.false))
