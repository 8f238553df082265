-- The part between the start and the end of a record, without the head, is the payload.
use Rattle.std.proofs.Common.{arith}
use Rattle.certificate.specs.Numbering.{number_of}
use Rattle.certificate.specs.Sizes.{offset_next}
use Rattle.finding.specs.Found.{part_by_offsets}
use Rattle.finding.proofs.payload.Goals as goal

pub overflow_add-start : goal.overflow_add-start
overflow_add-start c = omega (arith, offset_next c.args.n (number_of c.args.kind), c.start-start.ensures)

pub slice_bounds-result-count : goal.slice_bounds-result-count
slice_bounds-result-count c = omega (arith, offset_next c.args.n (number_of c.args.kind), c.start-start.ensures, c.end-end.ensures)

pub slice_bounds-result-start : goal.slice_bounds-result-start
slice_bounds-result-start c = omega (arith, offset_next c.args.n (number_of c.args.kind), c.start-start.ensures, c.end-end.ensures)

pub returns : goal.returns
returns c =
    let a = c.args in
    part_by_offsets a.n (number_of a.kind) a.certificate.now c.start-start.ensures c.end-end.ensures
