-- The quotient and the remainder are unique, byte by byte, and f divides g exactly where the remainder is zero.
use Rattle.std.specs.Prelude.{◌≡◌, ◌↔◌, ℕ, ◌-◌, ◌<◌, T, eqb}
use Rattle.std.proofs.Common.{arith, eqb→eq}
use Rattle.algebra.specs.Divides.{Divides}
use Rattle.algebra.specs.Polynomial.{polynomials, UnitLead}
use Rattle.algebra.specs.Degree.{degree_unit_lead}
use Rattle.algebra.specs.Division as algebra
use Rattle.algebra.specs.Division.{division_unique, divides_exactly}
use Rattle.algebra.specs.Modular.{Prime, modulo}
use Rattle.algebra.specs.PrimeField.{prime_field}
use Rattle.forms.specs.Tests.{equal_holds}
use Rattle.polynomials.specs.declared.Polynomial.{Polynomial}
use Rattle.polynomials.specs.declared.Division.{Division}
use Rattle.polynomials.specs.Canonical.{polynomial, Canonical, canonical_determined, canonical_below, canonical_degree, canonical_zero}
use Rattle.polynomials.specs.LongDivision.{Divided}

module _ {p : ℕ} (P : Prime p) {f : Polynomial} (F : Canonical p f) (some : 0 < f.len) where
  unit_lead : UnitLead (modulo p) (f.len - 1) (polynomial p f).0
  unit_lead = degree_unit_lead (modulo p) (prime_field p P) (f.len - 1) (polynomial p f).0 (canonical_degree p f F some)

  module _ {g : Polynomial} where
    -- the division as algebra has it
    divided : {x : Division} → Divided p g f x → algebra.Division (modulo p) (f.len - 1) (polynomial p f) (polynomial p g)
    divided {x} D = record {
      quotient = polynomial p x.quotient;
      remainder = polynomial p x.remainder;
      below = λ k l. canonical_below p x.remainder D.remainder k (omega (arith, D.smaller));
      equation = D.equation;
    }

    -- a contract that says Divided says every byte
    pub divided_unique : {x y : Division} → Divided p g f x → Divided p g f y → x ≡ y
    unfolding divided
    divided_unique {x} {y} D E =
        let u = division_unique (modulo p) (f.len - 1) (polynomial p f) unit_lead (polynomial p g) (divided D) (divided E) in
        let q = canonical_determined p x.quotient y.quotient D.quotient E.quotient u.0 in
        let r = canonical_determined p x.remainder y.remainder D.remainder E.remainder u.1 in
        λ i. record { quotient = q i; remainder = r i }

    remainder_decides : {x : Division} → Divided p g f x → Divides (polynomials (modulo p)) (polynomial p f) (polynomial p g) ↔ (polynomial p x.remainder ≡ (polynomials (modulo p)).zero)
    unfolding divided
    remainder_decides D = divides_exactly (modulo p) (f.len - 1) (polynomial p f) unit_lead (polynomial p g) (divided D)

    pub divides_by_remainder : {x : Division} → Divided p g f x → T (eqb x.remainder.len 0) ↔ Divides (polynomials (modulo p)) (polynomial p f) (polynomial p g)
    divides_by_remainder {x} D =
        let z = canonical_zero p x.remainder D.remainder in
        let d = remainder_decides D in (
          (λ t. d.1 (z.0 (eqb→eq x.remainder.len 0 t))),
          (λ h. equal_holds x.remainder.len 0 (z.1 (d.0 h))),
        )
