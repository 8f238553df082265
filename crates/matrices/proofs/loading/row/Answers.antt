-- The row is a part of the whole.
use Rattle.std.proofs.Common.{◌≡◌, ap, ℕ, ◌+◌, ◌*◌, ◌-◌, arith, take, drop}
use Rattle.matrices.specs.Parts.{row_of}
use Rattle.matrices.proofs.loading.row.Goals as goal

pub returns : goal.returns
unfolding row_of
returns c =
    let a = c.args in
    let e : a.i * a.width + a.width - a.i * a.width ≡ a.width = omega arith in
    ap (λ (x : ℕ). take x (drop (a.i * a.width) a.bytes.now)) e
