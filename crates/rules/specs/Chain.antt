-- Rule 2 in code: the polynomials that are taken from the payload of D are its entries, and the test of divisibility is the rule's.
use Rattle.std.specs.Prelude.{◌≡◌, ◌↔◌, Bool, List, ℕ, suc, ◌+◌, ◌<◌, T, length}
use Rattle.std.proofs.Common.{sym, ◌∙◌, ap, arith, zero-add, subst, add-one}
use Rattle.std.proofs.Math.Decide.{dec_lt, dec_le}
use Rattle.algebra.specs.Divides.{Divides}
use Rattle.algebra.specs.Polynomial.{polynomials}
use Rattle.algebra.specs.Modular.{modulo}
use Rattle.forms.specs.Numbers.{at}
use Rattle.forms.specs.Polynomials.{degree, divides}
use Rattle.forms.specs.Matrices.{diagonal}
use Rattle.forms.specs.Primes.{prime_positive}
use Rattle.forms.specs.Bounds.{diagonal_short}
use Rattle.polynomials.specs.declared.Polynomial.{Polynomial}
use Rattle.polynomials.specs.Canonical.{polynomial, Canonical}
use Rattle.polynomials.specs.Taking.{TakenFrom, taken_canonical}
use Rattle.polynomials.specs.Rule.{answer_is_test}
use Rattle.rules.specs.Diagonal.{MonicPayload, CoefficientsOf, HasCoefficients, coefficient_small}

-- a polynomial taken from the whole of the n + 1 coefficients
pub taken_whole : {n : ℕ} {d : List ℕ} {i : ℕ} {s : List ℕ} {x : Polynomial} → CoefficientsOf n d i s → TakenFrom s 0 (length s) x → TakenFrom s 0 (n + 1) x
taken_whole {n} {d} {i} {s} {x} of taken = subst (λ k. TakenFrom s 0 k x) (of.long ∙ sym (add-one n)) taken

-- x is taken from s, which begins with the n + 1 coefficients of f_i
module _ (p n : ℕ) (d : List ℕ) (h : MonicPayload p n d) {i : ℕ} {s : List ℕ} {x : Polynomial} (of : HasCoefficients n d i s) (taken : TakenFrom s 0 (n + 1) x) where
  pub taken_coefficients : (k : ℕ) → at x.coefficients k ≡ diagonal n d i k
  taken_coefficients k = elim (dec_le k n) [
    | yes l ↦ taken.copied.inside k (omega arith) ∙ ap (at s) (zero-add k) ∙ of.coefficient k l
    | no l ↦ taken.copied.outside k (omega arith) ∙ sym (diagonal_short n d i k (omega arith))
  ]

  pub taken_residues : Canonical p x
  taken_residues = taken_canonical p taken (prime_positive p h.prime_p) (λ k l. rw zero-add (coefficient_small of h.small k (omega arith)))

  pub taken_some : i < n → 0 < x.len
  taken_some l = elim (dec_lt 0 x.len) [
    | yes q ↦ q
    | no q ↦ absurd (let one = h.one i l in let z = taken.trimmed.rest (degree n (diagonal n d i)) (omega arith) in let w = taken_coefficients (degree n (diagonal n d i)) in omega arith)
  ]

pub chain_test : (p n : ℕ) (d : List ℕ) → MonicPayload p n d → (i : ℕ) → i < n → (x y : Polynomial)
    → ((k : ℕ) → at x.coefficients k ≡ diagonal n d i k) → ((k : ℕ) → at y.coefficients k ≡ diagonal n d (suc i) k) → Canonical p y
    → (answer : Bool) → T answer ↔ Divides (polynomials (modulo p)) (polynomial p x) (polynomial p y) → answer ≡ divides p n (diagonal n d i) (diagonal n d (suc i))
chain_test p n d h i l x y u v c answer w =
    answer_is_test p n (diagonal n d i) (diagonal n d (suc i)) x y answer (prime_positive p h.prime_p) (h.one i l) (diagonal_short n d i)
    (λ k. (let a = c.small k in let b = v k in omega arith)) (diagonal_short n d (suc i)) u v w
