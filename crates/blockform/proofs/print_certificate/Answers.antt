-- The payloads of D and F lie in the room of the largest certificate.
use Rattle.std.proofs.Common.{◌∙◌, ap, lit<, length}
use Rattle.blockform.specs.Read.{record_within, D_length, F_length}
use Rattle.blockform.proofs.print_certificate.Goals as goal

pub payload-requires : goal.payload-requires
payload-requires g c =
    record_within c.args.n c.args.room.now c.requires.0 c.requires.1 2 (lit< tt)

pub payload-requires-2 : goal.payload-requires-2
payload-requires-2 g c =
    record_within c.args.n c.args.room.now c.requires.0 c.requires.1 7 (lit< tt)

pub print_listing-requires : goal.print_listing-requires
print_listing-requires g c = (
  ap length c.payload.ensures ∙ D_length c.args.n c.args.room.now c.requires.0 c.requires.1,
  ap length c.payload-2.ensures ∙ F_length c.args.n c.args.room.now c.requires.0 c.requires.1,
)
