-- From D, F and T, as an analysis delivers them, to a certificate: with the closed forms for P, Q and their inverses it is laid out as
-- the layout asks and it is a certificate of A.
use Rattle.std.specs.Prelude.{◌≡◌, List, ℕ, ◌*◌, ◌%◌, ◌<◌}
use Rattle.std.proofs.Math.Path.{refl, fun_ext}
use Rattle.std.proofs.Common.{◌∙◌, ap, ap₂}
use Rattle.algebra.specs.Modular.{Prime}
use Rattle.forms.specs.Tests.{total_equal}
use Rattle.forms.specs.Primes.{prime_means, prime_positive}
use Rattle.forms.specs.Polynomials.{Coefficients, convolution, degree}
use Rattle.forms.specs.Matrices.{Entries, PolynomialEntries, matrix, polynomial_matrix, diagonal, field_product, polynomial_product}
use Rattle.forms.specs.Frobenius.{frobenius}
use Rattle.forms.specs.Words.{PolynomialEqual, LaidOut, Certified}
use Rattle.forms.proofs.Payloads.{laid_out}
use Rattle.forms.specs.Bounds.{diagonal_short, degree_above, diagonal_small, matrix_small}
use Rattle.forms.specs.Inverses.{field_left_of_right}
use Rattle.forms.specs.Listed.{polynomials_listed, polynomials_of_listed, polynomials_listed_residues}
use Rattle.forms.specs.SmithDiagonals.{SmithDiagonal, chain_diagonal}
use Rattle.forms.specs.ClosedForms.{closed_P, closed_PI, closed_Q, closed_QI}
use Rattle.forms.specs.ClosedBounds.{degree_bound, closed_reduced}
use Rattle.forms.specs.ClosedRules.{SmithRules}
use Rattle.forms.proofs.ClosedRules.{closed_smith_rules}
use Rattle.forms.specs.Certifying.{Decomposes, closed_certificate}

-- products of matrices that are equal at order n
abbrev Same : ℕ → PolynomialEntries → PolynomialEntries → Type 0
Same n P Q = (i j : ℕ) → i < n → j < n → P i j ≡ Q i j

product_same : (n : ℕ) (P Q M N : PolynomialEntries) → Same n P M → Same n Q N → (i j k : ℕ) → i < n → j < n → polynomial_product n P Q i j k ≡ polynomial_product n M N i j k
unfolding polynomial_product
product_same n P Q M N a b i j k l g = total_equal n _ _ (λ m q. ap₂ (λ (x y : Coefficients). convolution x y k) (a i m l q) (b m j q g))

field_product_same : (n : ℕ) (A B C : Entries) → ((i j : ℕ) → i < n → j < n → B i j ≡ C i j) → (i j : ℕ) → i < n → j < n → field_product n A B i j ≡ field_product n A C i j
unfolding field_product
field_product_same n A B C h i j l g = total_equal n _ _ (λ m q. ap (λ (x : ℕ). A i m * x) (h m j q g))

module _ (p n : ℕ) (A DF FB TB TI : List ℕ) (d : Decomposes p n A DF FB TB TI) where
  abbrev f : ℕ → Coefficients
  f = diagonal n DF

  abbrev T_entries : Entries
  T_entries = matrix n TB

  abbrev TI_entries : Entries
  TI_entries = matrix n TI

  prime_modulus : Prime p
  prime_modulus = prime_means p d.legal.prime_p

  positive : 0 < p
  positive = prime_positive p d.legal.prime_p

  pub smith_diagonal : SmithDiagonal p n f
  smith_diagonal = chain_diagonal p n prime_modulus f (diagonal_short n DF) d.monic d.legal.low (diagonal_small p n DF positive d.DF_residues) d.chain d.degrees

  rules : SmithRules p n (matrix n A) f (closed_P n f TI_entries) (closed_PI p n f T_entries) (closed_Q p n f T_entries) (closed_QI p n f TI_entries)
  rules = closed_smith_rules p n prime_modulus f smith_diagonal (matrix n A) T_entries TI_entries (λ i j l g. matrix_small p n A d.legal.residues i j) (matrix_small p n TB d.TB_residues) (matrix_small p n TI d.TI_residues)
      d.T_TI (λ i j l g. d.A_T i j l g ∙ ap (λ (x : ℕ). x % p) (field_product_same n T_entries (matrix n FB) (frobenius p n f) d.built i j l g))

  abbrev listed : PolynomialEntries → PolynomialEntries
  listed P = polynomial_matrix n (polynomials_listed n P)

  P_listed : Same n (listed (closed_P n f TI_entries)) (closed_P n f TI_entries)
  P_listed = polynomials_of_listed n _ (degree_bound p n f smith_diagonal T_entries TI_entries).0

  PI_listed : Same n (listed (closed_PI p n f T_entries)) (closed_PI p n f T_entries)
  PI_listed = polynomials_of_listed n _ (degree_bound p n f smith_diagonal T_entries TI_entries).1

  Q_listed : Same n (listed (closed_Q p n f T_entries)) (closed_Q p n f T_entries)
  Q_listed = polynomials_of_listed n _ (degree_bound p n f smith_diagonal T_entries TI_entries).2

  QI_listed : Same n (listed (closed_QI p n f TI_entries)) (closed_QI p n f TI_entries)
  QI_listed = polynomials_of_listed n _ (degree_bound p n f smith_diagonal T_entries TI_entries).3

  -- a product of listed matrices is that of the matrices
  listed_product : (P Q M N R : PolynomialEntries) → Same n P M → Same n Q N → PolynomialEqual p n (polynomial_product n M N) R → PolynomialEqual p n (polynomial_product n P Q) R
  listed_product P Q M N R a b h i j k l g = ap (λ (x : ℕ). x % p) (product_same n P Q M N a b i j k l g) ∙ h i j k l g

  certified : Certified p n A (closed_certificate p n A DF FB TB TI)
  unfolding closed_certificate
  certified = record {
    given = (refl, refl, refl);
    degree = λ i. degree n (f i);
    monic = d.monic;
    above = λ i k l h. degree_above n (f i) (diagonal_short n DF i) k h;
    chain = d.chain;
    degrees = d.degrees;
    P_PI = listed_product _ _ _ _ _ P_listed PI_listed rules.P_PI;
    PI_P = listed_product _ _ _ _ _ PI_listed P_listed rules.PI_P;
    Q_QI = listed_product _ _ _ _ _ Q_listed QI_listed rules.Q_QI;
    QI_Q = listed_product _ _ _ _ _ QI_listed Q_listed rules.QI_Q;
    smith = listed_product _ _ _ _ _ (λ i j l g. fun_ext (λ k. product_same n _ _ _ _ P_listed (λ i j l g. refl) i j k l g)) Q_listed rules.smith;
    built = d.built;
    T_TI = d.T_TI;
    TI_T = field_left_of_right p prime_modulus n T_entries TI_entries d.T_TI;
    A_T = d.A_T;
  }

  laid : LaidOut (closed_certificate p n A DF FB TB TI)
  unfolding closed_certificate
  laid =
      let r = closed_reduced p n f positive T_entries TI_entries (matrix_small p n TB d.TB_residues) (matrix_small p n TI d.TI_residues) in
      laid_out (closed_certificate p n A DF FB TB TI) d.legal.low d.legal.high d.legal.prime_p d.legal.residues d.DF_residues
      (polynomials_listed_residues p n _ positive r.0) (polynomials_listed_residues p n _ positive r.1) (polynomials_listed_residues p n _ positive r.2) (polynomials_listed_residues p n _ positive r.3)
      d.FB_residues d.TB_residues d.TI_residues

  pub closed_forms_certify : LaidOut (closed_certificate p n A DF FB TB TI) × Certified p n A (closed_certificate p n A DF FB TB TI)
  closed_forms_certify = (laid, certified)
