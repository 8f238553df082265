-- It ends behind its payload.
use Rattle.std.proofs.Common.{arith, sym, ◌∙◌, ap₂, ℕ, ◌+◌}
use Rattle.certificate.specs.Numbering.{number_of, number_small}
use Rattle.certificate.specs.Sizes.{offset_next, offset_small, size_small}
use Rattle.certificate.proofs.records.Record.end.Goals as goal

pub overflow_add-result : goal.overflow_add-result
overflow_add-result c =
    let few = number_small c.args.self in
    omega (arith, offset_small c.args.n (number_of c.args.self) c.ranges.n.fits (omega arith))

pub overflow_add-result-2 : goal.overflow_add-result-2
overflow_add-result-2 c =
    let few = number_small c.args.self in
    omega (arith, offset_small c.args.n (number_of c.args.self) c.ranges.n.fits (omega arith), size_small c.args.n (number_of c.args.self) c.ranges.n.fits few)

pub returns : goal.returns
returns c = ap₂ (λ (x y : ℕ). x + 4 + y) c.start.ensures c.payload_size.ensures ∙ sym (offset_next c.args.n (number_of c.args.self))
