-- At 251 the code's table is the one whose rule is proved in proofs/TableRule.
use Rattle.std.proofs.Common.{arith}
use Rattle.residues.specs.Table.{reciprocals}
use Rattle.residues.proofs.TableRule.{reciprocal_at}
use Rattle.residues.proofs.residue.reciprocal_of.Goals as goal

pub returns-then-p-eq251 : goal.returns-then-p-eq251
unfolding reciprocals
returns-then-p-eq251 c = rw (c.if-p-eq251.true, c.from.ensures) (reciprocal_at c.args.x (omega arith))
