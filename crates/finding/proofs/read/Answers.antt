-- What is read has a header, an order up to the limit and a prime.
use Rattle.std.proofs.Common.{arith}
use Rattle.finding.specs.Found.{read_fine, order_read, prime_read, header_complete}
use Rattle.finding.proofs.read.Goals as goal

pub bounds-bytes-5 : goal.bounds-bytes-5
bounds-bytes-5 c = omega (arith, header_complete c.args.bytes.now (read_fine c.args.bytes.now _ c.in_ok-read_certificate.ensures))

pub new-order-requires : goal.new-order-requires
new-order-requires c = order_read c.args.bytes.now (read_fine c.args.bytes.now _ c.in_ok-read_certificate.ensures)

pub bounds-bytes-4 : goal.bounds-bytes-4
bounds-bytes-4 c = omega (arith, header_complete c.args.bytes.now (read_fine c.args.bytes.now _ c.in_ok-read_certificate.ensures))

pub new-modulus-requires : goal.new-modulus-requires
new-modulus-requires c = prime_read c.args.bytes.now (read_fine c.args.bytes.now _ c.in_ok-read_certificate.ensures)
