-- The multiple 0 adds nothing.
use Rattle.std.proofs.Common.{rules, ◌≡◌}
use Rattle.basis.specs.Steps.{plus_row_nothing}
use Rattle.basis.proofs.steps.plus_multiple_row.Goals as goal

pub returns-then-k-eq0 : goal.returns-then-k-eq0
returns-then-k-eq0 c = let e : c.args.k ≡ 0 = search rules in rw e (plus_row_nothing _ c.args.x c.args.y (search rules) c.requires)
