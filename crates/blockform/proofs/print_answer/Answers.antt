-- What was read has an order below the limit and a whole matrix.
use Rattle.std.proofs.Common.{refl}
use Rattle.forms.specs.Numbers.{at}
use Rattle.forms.specs.Certificate.{offset}
use Rattle.forms.specs.Reading.{records_asked}
use Rattle.certificate.specs.ReadRecords.{good_read}
use Rattle.blockform.specs.Read.{order_read, matrix_complete}
use Rattle.blockform.proofs.print_answer.Goals as goal

pub payload-requires : goal.payload-requires
payload-requires g c =
    let s = c.args.input.now in
    rw c.byte-n.ensures (matrix_complete s (good_read (records_asked 2 s) (offset (at s 5) 2) c.in-Ok.ensures refl).0)

pub print_forms-requires : goal.print_forms-requires
print_forms-requires g c =
    let s = c.args.input.now in
    rw c.byte-n.ensures (order_read s (good_read (records_asked 2 s) (offset (at s 5) 2) c.in-Ok.ensures refl).0)
