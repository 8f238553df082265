-- The loop: the first r rows of n entries are put.
use Rattle.std.proofs.Common.{ℕ, List, ◌+◌, ◌*◌, ◌≤◌, length, arith, mul_assoc}
use Rattle.forms.specs.Listed.{listed, listed_length}
use Rattle.forms.specs.Certificate.{joined}
use Rattle.entries.specs.declared.closed.Factor.{Factor}
use Rattle.entries.specs.declared.closed.Reduction.{Reduction}
use Rattle.entries.specs.Coefficients.{closed_entry}
use Rattle.entries.specs.PutRows.{Rows, joined_rows_length, rows_start, rows_room, rows_turn}
use Rattle.payloads.proofs.put_polynomials.Goals as goal

-- rows of n entries of n coefficients, with room for all of them
rows : (form : Reduction) (factor : Factor) {at : ℕ} {out : List ℕ} → at + form.order.n * form.order.n * form.order.n ≤ length out → Rows at form.order.n (form.order.n * form.order.n) (λ r. joined form.order.n (λ c. listed form.order.n (closed_entry form.modulus.p form.state.now form.from form.last factor r c))) out
rows form factor room = record { long = λ r. joined_rows_length _ _ (λ c. listed_length _ _) _; room = omega (arith, room, mul_assoc form.order.n form.order.n form.order.n) }

pub loop-r-init : goal.loop-r-init
loop-r-init c = rows_start (rows c.args.form.now c.args.factor c.requires)

pub put_line-next-requires : goal.put_line-next-requires
put_line-next-requires c =
    let l = c.loop-r in
    (omega arith, rows_room (rows c.args.form.now c.args.factor c.requires) (omega arith) l.invariant l.auto.out)

pub loop-r-preserved : goal.loop-r-preserved
loop-r-preserved c =
    let l = c.loop-r in
    let w = c.put_line-next in
    rows_turn (rows c.args.form.now c.args.factor c.requires) (omega arith) l.invariant w.ensures
