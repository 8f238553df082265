-- The table is filled with the places that the rotation takes.
use Rattle.std.proofs.Common.{rules, ◌≡◌}
use Rattle.forms.specs.Numbers.{order_limit}
use Rattle.matrices.specs.Filling.{filled, fill_start, fill_turn}
use Rattle.matrices.specs.Matrices.{zero_row}
use Rattle.ordering.specs.Rotation.{rotation}
use Rattle.ordering.specs.Turning.{rotation_places}
use Rattle.ordering.proofs.turning.rotation_of.Goals as goal

pub loop-j-init : goal.loop-j-init
loop-j-init c = fill_start _ _

pub loop-j-preserved : goal.loop-j-preserved
loop-j-preserved c = fill_turn _ _ _ (search rules) c.loop-j.invariant c.turned.ensures

pub returns : goal.returns
returns c =
    let q : c.loop-j.r ≡ filled order_limit (rotation c.args.m c.args.k) zero_row = search rules in
    (q, rotation_places _ _ c.requires.0 _ q order_limit c.requires.1 (search rules))
