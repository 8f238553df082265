-- One row is set.
use Rattle.std.proofs.Common.{◌≡◌, arith, length, rules}
use Rattle.forms.specs.Numbers.{order_limit}
use Rattle.inversion.specs.RowAddition.{row_added}
use Rattle.inversion.proofs.add_row.Goals as goal

pub returns : goal.returns
returns c =
    let long : length c.args.a ≡ order_limit = search rules in
    row_added _ _ _ _ _ _ (search rules) (search rules) (search rules) (omega arith) _ (rw c.plus_row.ensures)
