-- The loop keeps the pass up to column j. A pivot stands in row j + 1 already, or is brought there; then column j can replace e_(j+1).
use Rattle.std.proofs.Common.{arith, suc}
use Rattle.algebra.specs.Modular.{modulo}
use Rattle.basis.specs.State.{frame, Fields, given_whole, given_next}
use Rattle.basis.specs.Searches.{column_of_row}
use Rattle.splitting.specs.Pass.{passed_start, Pulled}
use Rattle.splitting.specs.Passing.{pull_none, pull_some, push_some, push_nonzero, chain_turn, chain_end}
use Rattle.splitting.proofs.passes.chain.Goals as goal
use Rattle.splitting.proofs.passes.chain.Goals.{Joined-j-q, then-j-q, else-j-q}

-- the first pivot of column j has come to row j + 1
pulled : (c : Joined-j-q) → Fields c.args.modulus.p c.args.order.n c.if-j-q.s × Pulled (modulo c.args.modulus.p) c.args.order.n c.args.k c.loop-j.j (frame c.args.modulus.p c.args.order.n c.loop-j.s) (frame c.args.modulus.p c.args.order.n c.if-j-q.s)
pulled c = let g = given_next c.requires.0 c.loop-j.invariant.0 in elim c.if-j-q.branch [
  | then-j-q w ↦ rw w.s-is (w.exchange_vectors-pulled.ensures.fields _ c.loop-j.invariant.0, pull_some _ _ _ _ _ c.loop-j.s g c.loop-j.invariant.1.ready c.in-Some.ensures.1 c.in-Some.ensures.0 w.exchange_vectors-pulled.result w.if-j-q.true w.exchange_vectors-pulled.ensures)
  | else-j-q w ↦ rw w.s-is (c.loop-j.invariant.0, pull_none _ _ _ _ _ c.loop-j.s g c.loop-j.invariant.1.ready c.in-Some.ensures.1 c.in-Some.ensures.0 w.if-j-q.false)
]

pub loop-j-init : goal.loop-j-init
loop-j-init c = (c.requires.0.fields, passed_start _ _ _ _ _ _ c.requires.2)

pub returns-in_default : goal.returns-in_default
returns-in_default c = (c.loop-j.invariant.0, (suc c.loop-j.j, chain_end _ _ _ _ c.args.s c.loop-j.s (given_next c.requires.0 c.loop-j.invariant.0) (omega arith) c.in_default.ensures.zeros c.loop-j.invariant.1))

pub replace-next-requires : goal.replace-next-requires
replace-next-requires c = (
  given_whole (given_next c.requires.0 (pulled c.before.before).0),
  omega (arith, c.requires.0.fits),
  rw c.column-w.ensures (column_of_row _ _ _ _ (omega (arith, c.requires.0.fits)) (pulled c.before.before).0.B),
  push_nonzero _ _ _ _ c.if-j-q.s _ c.requires.0.fits (omega arith) c.column-w.ensures (pulled c.before.before).1.pivot,
)

pub loop-j-preserved : goal.loop-j-preserved
loop-j-preserved c = (
  c.replace-next.ensures.0,
  chain_turn _ _ _ _ c.args.s c.loop-j.s c.if-j-q.s c.replace-next.result c.loop-j.invariant.1 (pulled c.before.before.before).1
      (push_some _ _ _ _ c.if-j-q.s _ c.replace-next.result (given_next c.requires.0 (pulled c.before.before.before).0) (pulled c.before.before.before).1.passed.ready (omega arith) c.column-w.ensures c.replace-next.ensures.1),
)

pub returns : goal.returns
returns c = (c.loop-j.invariant.0, (suc c.loop-j.j, chain_end _ _ _ _ c.args.s c.loop-j.s (given_next c.requires.0 c.loop-j.invariant.0) (omega arith) (λ i a b. absurd (omega arith)) c.loop-j.invariant.1))
