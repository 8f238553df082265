-- The loop: the first b entries of D are put.
use Rattle.std.proofs.Common.{ℕ, List, ◌≡◌, ◌+◌, ◌*◌, ◌≤◌, length, take, length-take-le, arith}
use Rattle.forms.specs.Listed.{listed, listed_length}
use Rattle.writing.specs.Put.{puts_bytes}
use Rattle.entries.specs.declared.closed.Reduction.{Reduction}
use Rattle.entries.specs.Coefficients.{D_entry}
use Rattle.entries.specs.Listing.{filled_listed}
use Rattle.entries.specs.PutRows.{Rows, rows_start, rows_room, rows_turn}
use Rattle.payloads.proofs.put_diagonal.Goals as goal

-- entries of n + 1 coefficients, with room for all of them
rows : (form : Reduction) {at : ℕ} {out : List ℕ} → at + form.order.n * (form.order.n + 1) ≤ length out → Rows at form.order.n (form.order.n + 1) (λ b. listed (form.order.n + 1) (D_entry form.modulus.p form.state.now.b form.from form.last b)) out
rows form room = record { long = λ b. listed_length _ _; room = room }

pub loop-b-init : goal.loop-b-init
loop-b-init c = rows_start (rows c.args.form.now c.requires)

pub put_bytes-next-requires : goal.put_bytes-next-requires
put_bytes-next-requires c =
    let many : length (take (c.args.form.now.order.n + 1) c.d_entry-entry.result) ≡ c.args.form.now.order.n + 1 = length-take-le _ _ (omega arith) in
    let room = rows_room (rows c.args.form.now c.requires) (omega arith) c.loop-b.invariant c.loop-b.auto.out in
    omega (arith, many, room)

pub loop-b-preserved : goal.loop-b-preserved
loop-b-preserved c =
    let entry = c.d_entry-entry in
    let bytes = filled_listed (c.args.form.now.order.n + 1) _ _ entry.ensures (length-take-le _ _ (omega arith)) in
    rows_turn (rows c.args.form.now c.requires) (omega arith) c.loop-b.invariant (puts_bytes bytes c.put_bytes-next.ensures)
