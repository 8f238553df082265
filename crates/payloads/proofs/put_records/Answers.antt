-- The loop: the first records are put, and `at` is where the next one starts.
use Rattle.std.proofs.Common.{List, length, arith, ◌+◌, ◌≡◌, ◌≤◌, ◌<◌, ◌∙◌, sym, ap, subst, ℕ, get_or}
use Rattle.forms.specs.Certificate.{size, offset, certificate_length}
use Rattle.certificate.specs.declared.records.Record.TheVariants.{HD}
use Rattle.certificate.specs.Numbering.{records, number_of, number_small, number_at}
use Rattle.certificate.specs.Sizes.{offset_zero}
use Rattle.writing.specs.Written.{RecordsPut, no_record_put, certificate_put}
use Rattle.entries.specs.declared.closed.Reduction.{Reduction}
use Rattle.payloads.specs.Written.{certificate_of, written, written_length}
use Rattle.payloads.specs.PutRecords.{size_fits, Turn, head_room, payload_room, record_turn}
use Rattle.payloads.proofs.put_records.Goals as goal

-- before the record in place i
turn : (form : Reduction) (A : List ℕ) {i at many : ℕ} {before between : List ℕ} → i < 10 → certificate_length form.order.n ≤ length before → length between ≡ length before → at ≡ offset form.order.n i → many ≡ size form.order.n (number_of (get_or records i HD)) → Turn (certificate_of form A) (number_of (get_or records i HD)) at many before between
unfolding written
turn form A {i} l room kept starts sized = record { due = number_small _; room = room; kept = kept; starts = starts ∙ ap (offset form.order.n) (sym (number_at i HD l)); sized = sized }

pub loop-kind-init : goal.loop-kind-init
loop-kind-init c = (offset_zero c.args.form.now.order.n, no_record_put (certificate_of c.args.form.now c.args.matrix.now) c.requires.1 c.args.out.now)

pub put_head-start-requires : goal.put_head-start-requires
unfolding written
put_head-start-requires c =
    (rw c.payload_size.ensures (size_fits _ _ c.args.form.now.order.limited (number_small _)), head_room (turn c.args.form.now c.args.matrix.now c.loop-kind-test.true c.requires.0 c.loop-kind.auto.out c.loop-kind.invariant.0 c.payload_size.ensures))

pub put_payload-at-requires : goal.put_payload-at-requires
unfolding written
put_payload-at-requires c =
    (written_length _ _ c.args.matrix.now _ _ _ c.requires.1, payload_room (turn c.args.form.now c.args.matrix.now c.loop-kind-test.true c.requires.0 c.loop-kind.auto.out c.loop-kind.invariant.0 c.payload_size.ensures) c.put_head-start.ensures c.put_head-start.auto.out)

pub loop-kind-preserved : goal.loop-kind-preserved
unfolding written
loop-kind-preserved c =
    let e = number_at c.loop-kind.kind-index HD c.loop-kind-test.true in
    let done = subst (λ (i : ℕ). RecordsPut (certificate_of c.args.form.now c.args.matrix.now) i c.args.out.now c.loop-kind.out) (sym e) c.loop-kind.invariant.1 in
    let (more, ends) = record_turn (turn c.args.form.now c.args.matrix.now c.loop-kind-test.true c.requires.0 c.loop-kind.auto.out c.loop-kind.invariant.0 c.payload_size.ensures) c.put_head-start.ensures c.requires.1 done c.put_payload-at.ensures in
    (ends ∙ ap (λ (i : ℕ). offset c.args.form.now.order.n (i + 1)) e, rw e at more)

pub returns : goal.returns
unfolding written
returns c =
    let l = c.loop-kind in
    let e : l.kind-index ≡ 10 = omega arith in
    (l.invariant.0 ∙ ap (offset c.args.form.now.order.n) e, certificate_put (certificate_of c.args.form.now c.args.matrix.now) c.requires.1 (subst (λ (i : ℕ). RecordsPut (certificate_of c.args.form.now c.args.matrix.now) i c.args.out.now l.out) e l.invariant.1))
