-- Both polynomials are taken from the payload of D, and the answer of the division is the rule's test.
use Rattle.std.proofs.Common.{add-one, arith}
use Rattle.rules.specs.Diagonal.{has_coefficients}
use Rattle.rules.specs.Chain.{taken_coefficients, taken_residues, taken_some, taken_whole, chain_test}
use Rattle.rules.proofs.diagonal.Diagonal.divides_next.Goals as goal

pub divides-requires : goal.divides-requires
divides-requires c =
    let a = c.args in let d = a.self.now in let h = c.requires.0 in let f = has_coefficients c.polynomial.ensures in let x = taken_whole c.polynomial.ensures c.from_coefficients-f.ensures in (
      h.prime_p,
      taken_residues a.m.p d.order.n d.bytes.now h f x,
      taken_residues a.m.p d.order.n d.bytes.now h (has_coefficients c.polynomial-2.ensures) (taken_whole c.polynomial-2.ensures c.from_coefficients-g.ensures),
      taken_some a.m.p d.order.n d.bytes.now h f x (omega (arith, c.requires.1)),
    )

pub returns : goal.returns
returns c =
    let a = c.args in let d = a.self.now in let h = c.requires.0 in let second = has_coefficients (rw (add-one a.i) at c.polynomial-2.ensures) in let y = taken_whole c.polynomial-2.ensures c.from_coefficients-g.ensures in
    chain_test a.m.p d.order.n d.bytes.now h a.i (omega (arith, c.requires.1)) c.from_coefficients-f.result c.from_coefficients-g.result
    (taken_coefficients a.m.p d.order.n d.bytes.now h (has_coefficients c.polynomial.ensures) (taken_whole c.polynomial.ensures c.from_coefficients-f.ensures))
    (taken_coefficients a.m.p d.order.n d.bytes.now h second y) (taken_residues a.m.p d.order.n d.bytes.now h second y) _ c.divides.ensures
