-- Each row of D is inside, and holds n + 1 coefficients.
use Rattle.std.proofs.Common.{◌+◌, arith}
use Rattle.matrices.specs.Parts.{has_row, row_length}
use Rattle.blockform.proofs.listing.print_diagonal.Goals as goal

pub row-requires : goal.row-requires
row-requires g c =
    has_row c.args.d.now c.args.n c.loop-i.i (c.args.n + 1) c.requires.1 (omega arith)

pub print_polynomial-requires : goal.print_polynomial-requires
print_polynomial-requires g c =
    let long = row_length c.args.d.now c.loop-i.i (c.args.n + 1) (has_row c.args.d.now c.args.n c.loop-i.i (c.args.n + 1) c.requires.1 (omega arith)) in
    rw (c.row.ensures, long) (omega arith)
