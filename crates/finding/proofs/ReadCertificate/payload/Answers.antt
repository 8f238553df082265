-- The header and every payload are complete.
use Rattle.std.proofs.Common.{arith}
use Rattle.certificate.specs.Numbering.{number_of, number_small}
use Rattle.finding.specs.Found.{header_complete, read_complete}
use Rattle.finding.proofs.ReadCertificate.payload.Goals as goal

pub bounds-self-5 : goal.bounds-self-5
bounds-self-5 c = let own = c.args.self.now in omega (arith, header_complete own.bytes.now own.is_read)

pub payload-requires : goal.payload-requires
payload-requires c =
    let own = c.args.self.now in
    read_complete own.bytes.now own.is_read (number_of c.args.kind) (number_small c.args.kind)
