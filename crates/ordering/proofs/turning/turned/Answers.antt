-- Each branch is a case of the rotation.
use Rattle.std.proofs.Common.{sym, rules}
use Rattle.ordering.specs.Rotation.{rotation_low, rotation_middle, rotation_high}
use Rattle.ordering.proofs.turning.turned.Goals as goal

pub returns-then-i-k : goal.returns-then-i-k
returns-then-i-k c = sym (rotation_low _ _ _ (search rules))

pub returns-then-i-k-2 : goal.returns-then-i-k-2
returns-then-i-k-2 c = sym (rotation_middle _ _ _ (search rules) (search rules))

pub returns : goal.returns
returns c = sym (rotation_high _ _ _ (search rules))
