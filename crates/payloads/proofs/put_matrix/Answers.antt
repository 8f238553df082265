-- The loop: the rows so far are put.
use Rattle.std.proofs.Common.{ℕ, List, [], ◌≡◌, ◌+◌, ◌*◌, ◌≤◌, ap, length, take, get_or, length-take-le, get_or-take, arith}
use Rattle.forms.specs.Listed.{listed, listed_length}
use Rattle.matrices.specs.Matrices.{cell}
use Rattle.writing.specs.Put.{puts_bytes}
use Rattle.entries.specs.PutRows.{Rows, rows_start, rows_room, rows_turn}
use Rattle.payloads.proofs.put_matrix.Goals as goal

-- rows of n entries, with room for all of them
rows : (m : List (List ℕ)) {at n : ℕ} {out : List ℕ} → at + n * n ≤ length out → Rows at n n (λ i. listed n (cell m i)) out
rows m room = record { long = λ i. listed_length _ _; room = room }

pub loop-row-init : goal.loop-row-init
loop-row-init c = rows_start (rows c.args.m.now c.requires)

pub put_row-next-requires : goal.put_row-next-requires
put_row-next-requires c =
    let many : length (take c.args.order.n c.args.m.now) ≡ c.args.order.n = length-take-le _ _ (omega arith) in
    rows_room (rows c.args.m.now c.requires) (omega arith) c.loop-row.invariant c.loop-row.auto.out

pub loop-row-preserved : goal.loop-row-preserved
loop-row-preserved c =
    let l = c.loop-row in
    let many : length (take c.args.order.n c.args.m.now) ≡ c.args.order.n = length-take-le _ _ (omega arith) in
    rows_turn (rows c.args.m.now c.requires) (omega arith) l.invariant
    (puts_bytes (ap (λ (row : List ℕ). listed c.args.order.n (λ j. get_or row j 0)) (get_or-take c.args.order.n c.args.m.now l.row-index [] (omega arith))) c.put_row-next.ensures)
