-- The refusal of the frame is that of the record; else the record comes to its content.
use Rattle.std.proofs.Common.{arith, ◌∙◌, ap}
use Rattle.certificate.specs.Numbering.{number_of, number_small, header_alone}
use Rattle.certificate.specs.Sizes.{offset_small, size_small}
use Rattle.certificate.specs.ReadRecords.{record_bad, payload_start, payload_complete, header_content, residues_content}
use Rattle.certificate.proofs.reading.read_record.Goals as goal

pub read_frame-frame-requires : goal.read_frame-frame-requires
read_frame-frame-requires c =
    let few = number_small c.args.kind in
    let start = offset_small c.args.n (number_of c.args.kind) c.ranges.n.fits (omega arith) in
    let many = size_small c.args.n (number_of c.args.kind) c.ranges.n.fits few in
    (omega arith, omega (arith, c.payload_size-size.ensures))

pub returns-in_default : goal.returns-in_default
returns-in_default c =
    record_bad c.args.p c.args.n c.args.s.now (number_of c.args.kind) c.requires c.payload_size-size.ensures c.read_frame-frame.ensures _ c.in_default.is

pub read_header-requires : goal.read_header-requires
read_header-requires c =
    omega (arith, payload_start c.args.p c.args.n c.args.s.now (number_of c.args.kind) c.requires c.payload_size-size.ensures c.read_frame-frame.ensures c.in-Ok.is, offset_small c.args.n (number_of c.args.kind) c.ranges.n.fits (omega (arith, number_small c.args.kind)), number_small c.args.kind)

pub returns-in-HD : goal.returns-in-HD
returns-in-HD c =
    c.read_header.ensures ∙ header_content c.args.p c.args.n c.args.s.now (number_of c.args.kind) c.requires c.payload_size-size.ensures c.read_frame-frame.ensures c.in-Ok.is (ap number_of c.in-HD.is)

pub read_residues-requires : goal.read_residues-requires
read_residues-requires c =
    payload_complete c.args.p c.args.n c.args.s.now (number_of c.args.kind) c.requires c.payload_size-size.ensures c.read_frame-frame.ensures c.in-Ok.is

pub returns-in_default-kind : goal.returns-in_default-kind
returns-in_default-kind c =
    c.read_residues.ensures ∙ residues_content c.args.p c.args.n c.args.s.now (number_of c.args.kind) c.requires c.payload_size-size.ensures c.read_frame-frame.ensures c.in-Ok.is (header_alone c.args.kind c.in_default-kind.not-HD)
