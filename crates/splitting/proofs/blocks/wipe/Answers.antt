-- Multiples of column a are added in B and T, and the combinations are taken from row a of B and of the inverse.
use Rattle.std.proofs.Common.{arith}
use Rattle.basis.specs.Changes.{rows_taken}
use Rattle.basis.proofs.Shapes.{squares}
use Rattle.splitting.specs.Blocking.{wiping_field, wiped_now}
use Rattle.splitting.proofs.blocks.wipe.Goals as goal

pub add_columns-c-requires : goal.add_columns-c-requires
add_columns-c-requires c = (omega (arith, c.requires.0.fits, c.requires.1.fits), c.requires.0.fields, wiping_field _ _ _ _ _ c.args.s c.requires.0 c.requires.1 c.requires.2 _ c.tail-v.ensures)

pub returns : goal.returns
returns c =
    let r = rows_taken _ _ _ _ _ _ _ _ c.add_columns-c.result c.args.modulus.positive c.args.order.limited (omega (arith, c.requires.0.fits, c.requires.1.fits)) (squares c.add_columns-c.result c.add_columns-c.type_inv.1.1) c.add_columns-c.ensures.0 c.combination.ensures c.add_multiple.ensures c.combination-2.ensures c.add_multiple-2.ensures in
    (r.0, wiped_now _ _ _ _ _ c.args.s c.requires.0 c.requires.1 c.requires.2 _ c.tail-v.ensures c.add_columns-c.ensures.1 r.1)
