-- Row 0 has nothing left, or its first entry says which vector goes first.
use Rattle.std.proofs.Common.{arith}
use Rattle.basis.specs.State.{given_next}
use Rattle.splitting.specs.Blocking.{settled_here, turned_ready, settled_further}
use Rattle.splitting.proofs.blocks.settle.Goals as goal

pub returns-in_default : goal.returns-in_default
returns-in_default c = (c.clear-c.ensures.0, (_, settled_here _ _ _ _ c.args.s c.clear-c.result (given_next c.requires.0 c.clear-c.ensures.0) c.requires.1 c.clear-c.ensures.1 c.in_default.ensures.zeros))

pub chain-requires : goal.chain-requires
chain-requires c = (
  given_next c.requires.0 (c.rotate.ensures.fields _ c.clear-c.ensures.0),
  omega arith,
  turned_ready _ _ _ _ c.args.s c.clear-c.result (given_next c.requires.0 c.clear-c.ensures.0) c.requires.1 c.clear-c.ensures.1 _ c.in-Some.ensures.0 c.in-Some.ensures.1 c.rotate.result c.rotate.ensures,
)

pub returns : goal.returns
returns c = (
  c.chain.ensures.0,
  (
    _,
    settled_further _ _ _ _ c.args.s c.clear-c.result (given_next c.requires.0 c.clear-c.ensures.0) c.requires.1 c.clear-c.ensures.1 _ c.in-Some.ensures.0 c.in-Some.ensures.1 c.rotate.result c.rotate.ensures _ c.chain.result c.chain.ensures.1.1,
  ),
)
