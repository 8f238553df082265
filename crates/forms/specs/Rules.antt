-- The nine rules as tests, and the verdict: the first refusal of the reading, else the first rule that fails, else accepted.
use Rattle.std.specs.Prelude.{Bool, true, List, [], ◌∷◌, ℕ, suc, ◌*◌, ◌-◌, ◌%◌, eqb, length, get_or, Result, Ok, Err}
use Rattle.forms.specs.Numbers.{total, every}
use Rattle.forms.specs.Answers.{Asked, fine, refuse, ask, each, reason_of}
use Rattle.forms.specs.Polynomials.{degree, monic, divides}
use Rattle.forms.specs.Matrices.{Entries, PolynomialEntries, matrix, polynomial_matrix, diagonal, unit, polynomial_unit, diagonal_matrix, characteristic, field_product, polynomial_product}
use Rattle.forms.specs.Frobenius.{frobenius}
use Rattle.forms.specs.Certificate.{Certificate}
use Rattle.forms.specs.Reading.{reading, certificate_of}
use Rattle.forms.specs.declared.Fault.{Fault}
use Rattle.forms.specs.declared.Fault.TheVariants.{Form, Rule}

-- equal modulo p, at order n
abbrev pub field_equal : ℕ → ℕ → Entries → Entries → Bool
field_equal p n A B = every n (λ i. every n (λ j. eqb (A i j % p) (B i j % p)))

-- equal modulo p, at order n and in the first 2n + 1 coefficients: no product of the rules has more
abbrev pub polynomial_equal : ℕ → ℕ → PolynomialEntries → PolynomialEntries → Bool
polynomial_equal p n P Q = every n (λ i. every n (λ j. every (suc (2 * n)) (λ k. eqb (P i j k % p) (Q i j k % p))))

-- rule k + 1
unfoldable pub rule : Certificate → ℕ → Bool
rule c k =
    let p = c.p in let n = c.n in let A = matrix n c.MA in let f = diagonal n c.DF in
    let P = polynomial_matrix n c.PL in let Q = polynomial_matrix n c.QR in
    let F = matrix n c.FB in let T = matrix n c.TB in
    let every_monic = every n (λ i. monic n (f i)) in
    let chain = every (n - 1) (λ i. divides p n (f i) (f (suc i))) in
    let degrees = eqb (total n (λ i. degree n (f i))) n in
    let P_PI = polynomial_equal p n (polynomial_product n P (polynomial_matrix n c.PI)) polynomial_unit in
    let Q_QI = polynomial_equal p n (polynomial_product n Q (polynomial_matrix n c.QI)) polynomial_unit in
    let smith = polynomial_equal p n (polynomial_product n (polynomial_product n P (characteristic p A)) Q) (diagonal_matrix f) in
    let built = field_equal p n F (frobenius p n f) in
    let T_TI = field_equal p n (field_product n T (matrix n c.TI)) unit in
    let A_T = field_equal p n (field_product n A T) (field_product n T F) in
    get_or (every_monic ∷ chain ∷ degrees ∷ P_PI ∷ Q_QI ∷ smith ∷ built ∷ T_TI ∷ A_T ∷ []) k true

-- the first rule that fails
unfoldable pub rules : Certificate → Asked
rules c = each 9 (λ k. ask (rule c k) 11 (suc k))

-- accepted with the length z, or the fault
unfoldable pub verdict_of : Asked → Asked → ℕ → Result ℕ Fault
verdict_of (refuse number offset) r z = Err (Form (reason_of number) offset)
verdict_of fine (refuse number rule) z = Err (Rule rule)
verdict_of fine fine z = Ok z

unfoldable pub verdict : List ℕ → Result ℕ Fault
verdict s = verdict_of (reading s) (rules (certificate_of s)) (length s)
