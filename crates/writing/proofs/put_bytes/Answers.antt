-- The part is overwritten.
use Rattle.std.proofs.Common.{refl, arith}
use Rattle.writing.specs.Put.{middle_is_put}
use Rattle.writing.proofs.put_bytes.Goals as goal

pub returns : goal.returns
returns c = record { written = middle_is_put c.args.out.now c.args.at _ _ _ (omega arith) c.copy_from_slice.ensures.after; ends = refl }
