-- The loop: start is where the record of this index starts.
use Rattle.std.proofs.Common.{arith, sym, ◌∙◌, ap, ℕ, ◌+◌, ◌≤◌, ◌<◌, ◌≡◌}
use Rattle.forms.specs.Certificate.{offset, size}
use Rattle.certificate.specs.Numbering.{number_of, number_small, first_records, number_among}
use Rattle.certificate.specs.declared.records.Record.{Record}
use Rattle.certificate.specs.Sizes.{offset_zero, offset_next, offset_small, size_small}
use Rattle.certificate.proofs.records.Record.start.Goals as goal
use Rattle.certificate.proofs.records.Record.start.Goals.{After-payload_size}

-- at most ten records stand before one
few : (r : Record) {k : ℕ} → k ≡ number_of r → k ≤ 10
few r e = omega (arith, number_small r)

here : (c : After-payload_size) → c.loop-record.record-index < c.number.result
here c = let e = first_records c.number.result (few c.args.self c.number.ensures) in omega arith

added : (c : After-payload_size) → c.payload_size.result ≡ size c.args.n c.loop-record.record-index
added c = c.payload_size.ensures ∙ ap (size c.args.n) (number_among c.number.result (few c.args.self c.number.ensures) c.loop-record.record-index _ c.loop-record-test.true)

added_small : (c : After-payload_size) → c.payload_size.result ≤ 16581375
added_small c = let e = added c in let l = few c.args.self c.number.ensures in let h = here c in omega (arith, size_small c.args.n c.loop-record.record-index c.ranges.n.fits (omega arith))

pub loop-record-init : goal.loop-record-init
loop-record-init c = offset_zero c.args.n

pub overflow_add-start : goal.overflow_add-start
overflow_add-start c = omega (arith, added_small c)

pub overflow_add-start-in-loop-record : goal.overflow_add-start-in-loop-record
overflow_add-start-in-loop-record c =
    let l = few c.args.self c.number.ensures in let h = here c in
    omega (arith, added_small c, offset_small c.args.n c.loop-record.record-index c.ranges.n.fits (omega arith))

pub loop-record-preserved : goal.loop-record-preserved
loop-record-preserved c =
    let i = c.loop-record.record-index in
    let sum : c.loop-record.start + (4 + c.payload_size.result) ≡ offset c.args.n i + 4 + size c.args.n i = omega (arith, added c) in
    sum ∙ sym (offset_next c.args.n i)
