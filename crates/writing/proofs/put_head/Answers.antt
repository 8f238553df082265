-- Four bytes are put.
use Rattle.std.proofs.Common.{◌≡◌, ◌%◌, ◌/◌, arith}
use Rattle.certificate.specs.Numbering.{number_of, number_small}
use Rattle.writing.specs.Put.{puts_bytes}
use Rattle.writing.specs.Written.{head_by_bytes}
use Rattle.writing.proofs.put_head.Goals as goal

pub returns : goal.returns
returns c =
    let a = c.args in
    let high : a.size / 256 % 256 ≡ a.size / 256 = omega arith in
    puts_bytes
    (rw (c.mark-mark.ensures, c.to_le_bytes-length.ensures, high) (head_by_bytes (number_of a.kind) a.size (number_small a.kind)))
    c.put_bytes.ensures
