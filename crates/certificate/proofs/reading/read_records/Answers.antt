-- The loop: the first records refuse nothing, and the cursor stands where the next one starts.
use Rattle.std.proofs.Common.{arith, refl, sym, ◌∙◌, ap₂, ◌+◌}
use Rattle.forms.specs.Numbers.{at}
use Rattle.forms.specs.Answers.{each}
use Rattle.forms.specs.Certificate.{offset}
use Rattle.forms.specs.Reading.{record_asked}
use Rattle.certificate.specs.Numbering.{first_records, number_among}
use Rattle.certificate.specs.declared.records.Record.TheVariants.{HD}
use Rattle.certificate.specs.Sizes.{offset_zero}
use Rattle.certificate.specs.ReadRecords.{good_read, read_here, each_next, records_bad, records_after, records_fine}
use Rattle.certificate.proofs.reading.read_records.Goals as goal

pub loop-record-init : goal.loop-record-init
unfolding each
loop-record-init c = (offset_zero (at c.args.s.now 5), refl)

pub read_record-read-requires : goal.read_record-read-requires
read_record-read-requires c =
    let here = number_among c.args.count c.requires c.loop-record.record-index HD c.loop-record-test.true in
    c.loop-record.invariant.0 ∙ sym (ap₂ offset c.byte-n.ensures here)

pub returns-in_default : goal.returns-in_default
returns-in_default c =
    let a = c.args in
    let e = first_records a.count c.requires in
    let read = read_here a.s.now c.read_record-read.ensures c.byte-p.ensures c.byte-n.ensures (number_among a.count c.requires c.loop-record.record-index HD c.loop-record-test.true) in
    records_bad a.count a.s.now c.loop-record.record-index _ (omega arith) c.loop-record.invariant.1 read c.in_default.is

pub loop-record-preserved : goal.loop-record-preserved
loop-record-preserved c =
    let a = c.args in
    let k = c.loop-record.record-index in
    let read = read_here a.s.now c.read_record-read.ensures c.byte-p.ensures c.byte-n.ensures (number_among a.count c.requires k HD c.loop-record-test.true) in
    let good = good_read (record_asked (at a.s.now 4) (at a.s.now 5) a.s.now k) (offset (at a.s.now 5) (k + 1)) read c.in-Ok.is in
    (good.1, each_next k _ c.loop-record.invariant.1 good.0)

pub returns-then-end-s : goal.returns-then-end-s
returns-then-end-s c =
    let a = c.args in
    let e = first_records a.count c.requires in
    c.refused.ensures ∙ records_after a.count a.s.now {k = c.loop-record.record-index} (omega arith) c.loop-record.invariant.0 c.loop-record.invariant.1 (omega arith)

pub returns : goal.returns
returns c =
    let a = c.args in
    let e = first_records a.count c.requires in
    records_fine a.count a.s.now {k = c.loop-record.record-index} (omega arith) c.loop-record.invariant.0 c.loop-record.invariant.1 (omega arith)
