-- The certificate that the code writes, from the matrix, the state of the elimination and the tables of its blocks: it is laid out, and it is
-- a certificate of the matrix.
use Rattle.std.specs.Prelude.{◌≡◌, List, length}
use Rattle.std.proofs.Math.Path.{sym, subst}
use Rattle.std.proofs.Common.{◌∙◌, ap, ap₂, add-one, arith}
use Prim.Native.Nat.{ℕ, suc, ◌+◌, ◌*◌, ◌%◌, ◌<◌}
use Rattle.std.proofs.Math.Decide.{dec_lt}
use Rattle.algebra.specs.Modular.{Prime}
use Rattle.forms.specs.Numbers.{at, total}
use Rattle.forms.specs.Tests.{total_equal}
use Rattle.forms.specs.Primes.{prime_means, prime_positive}
use Rattle.forms.specs.Polynomials.{Coefficients, degree}
use Rattle.forms.specs.Matrices.{Entries, PolynomialEntries, unit, diagonal, field_product}
use Rattle.forms.specs.Matrices as definitions
use Rattle.forms.specs.Frobenius.{frobenius}
use Rattle.forms.specs.Certificate.{Certificate, joined}
use Rattle.forms.specs.Words.{FieldEqual, PolynomialDivides, Residues, LaidOut, Certified}
use Rattle.forms.proofs.Payloads.{MA_residues}
use Rattle.forms.specs.Bounds.{degree_limited}
use Rattle.forms.specs.Rings.{field_of_product, equal_of_field}
use Rattle.forms.specs.Inverses.{inverse_field}
use Rattle.forms.specs.Listed.{listed, polynomials_listed, matrix_of_listed, matrix_listed_residues}
use Rattle.forms.specs.LegalRequests.{Legal}
use Rattle.forms.specs.ClosedForms.{closed_P, closed_PI, closed_Q, closed_QI}
use Rattle.forms.specs.Certifying.{Decomposes, closed_certificate}
use Rattle.forms.proofs.Certifying.{closed_forms_certify}
use Rattle.matrices.specs.Matrices.{cell, matrix, FieldMatrix}
use Rattle.basis.specs.State.{Array, Fields}
use Rattle.basis.specs.declared.steps.State.{State}
use Rattle.elimination.specs.Reduced.{Reduced}
use Rattle.heads.specs.Heads.{LastRows, Ordered}
use Rattle.entries.specs.declared.closed.Factor.{Factor}
use Rattle.entries.specs.declared.closed.Factor.TheVariants.{P, PInverse, Q, QInverse}
use Rattle.entries.specs.declared.closed.Reduction.{Reduction}
use Rattle.entries.specs.Coefficients.{Small, SmallState, Tables, D_entry, closed_entry}
use Rattle.entries.specs.Listing.{listed_equal, joined_equal, matrix_rows, polynomial_rows, polynomials_listed_equal, diagonal_listed, diagonal_rows, diagonal_listed_residues, diagonal_of_listed}
use Rattle.payloads.specs.Diagonals.{DiagonalOf, diagonal_of_form}
use Rattle.payloads.specs.ClosedCoefficients.{Holds, D_is, PL_is, PI_is, QR_is, QI_is}

-- the payloads, as rows one after the other
abbrev pub matrix_payload : ℕ → Array → List ℕ
matrix_payload n m = joined n (λ i. listed n (cell m i))

abbrev pub diagonal_payload : ℕ → ℕ → Array → List ℕ → List ℕ → List ℕ
diagonal_payload p n F rows ends = joined n (λ b. listed (n + 1) (D_entry p F rows ends b))

abbrev pub polynomial_payload : ℕ → ℕ → State → List ℕ → List ℕ → Factor → List ℕ
polynomial_payload p n s rows ends factor = joined n (λ r. joined n (λ c. listed n (closed_entry p s rows ends factor r c)))

unfoldable pub written : ℕ → ℕ → List ℕ → State → List ℕ → List ℕ → Certificate
written p n A s rows ends = record {
  p = p;
  n = n;
  MA = A;
  DF = diagonal_payload p n s.b rows ends;
  PL = polynomial_payload p n s rows ends P;
  PI = polynomial_payload p n s rows ends PInverse;
  QR = polynomial_payload p n s rows ends Q;
  QI = polynomial_payload p n s rows ends QInverse;
  FB = matrix_payload n s.b;
  TB = matrix_payload n s.t;
  TI = matrix_payload n s.back;
}

-- the same of a reduction and the matrix that it was made of
abbrev pub certificate_of : Reduction → List ℕ → Certificate
certificate_of form A = written form.modulus.p form.order.n A form.state.now form.from form.last

-- what is laid out says of the matrix
pub written_length : (p n : ℕ) (A : List ℕ) (s : State) (rows ends : List ℕ) → LaidOut (written p n A s rows ends) → length A ≡ n * n
unfolding written
written_length p n A s rows ends laid = (MA_residues (written p n A s rows ends) laid).many

pub field_small : (p n : ℕ) (m : Array) → 0 < p → FieldMatrix p n m → Small p m
field_small p n m q h = record {
  entry = λ i j. elim (dec_lt i n) [
    | yes l ↦ elim (dec_lt j n) [ yes g ↦ h.small i j l g | no g ↦ subst (λ (x : ℕ). x < p) (sym (h.columns i j (omega arith))) q ]
    | no l ↦ subst (λ (x : ℕ). x < p) (sym (h.rows i j (omega arith))) q
  ];
}

pub state_small : (p n : ℕ) (s : State) → 0 < p → Fields p n s → SmallState p s
state_small p n s q h = record { F = field_small p n _ q h.B; T = field_small p n _ q h.T; TI = field_small p n _ q h.I }

pub tables_below : (n : ℕ) (m : Array) (rows ends : List ℕ) → Ordered m n n rows → LastRows m n 0 ends → Tables n rows ends
tables_below n m rows ends o h = record {
  row = o.below;
  inside = λ b. (h.row (at rows b) (omega arith) (o.below b)).after;
  end = λ b. (h.row (at rows b) (omega arith) (o.below b)).below;
}

-- the payload of a field matrix
matrix_payload_residues : (p n : ℕ) (m : Array) → 0 < p → FieldMatrix p n m → Residues p (n * n) (matrix_payload n m)
matrix_payload_residues p n m q h = subst (Residues p (n * n)) (sym (matrix_rows n (cell m))) (matrix_listed_residues p n (cell m) q (field_small p n m q h).entry)

matrix_payload_holds : (n : ℕ) (m : Array) → Holds n m (definitions.matrix n (matrix_payload n m))
matrix_payload_holds n m i j l g = sym (ap (λ (s : List ℕ). definitions.matrix n s i j) (matrix_rows n (cell m)) ∙ matrix_of_listed n (cell m) i j l g)

-- products of entries that are the same below n
product_equal : (n : ℕ) (A B C D : Entries) → ((i j : ℕ) → i < n → j < n → A i j ≡ C i j) → ((i j : ℕ) → i < n → j < n → B i j ≡ D i j) → (i j : ℕ) → i < n → j < n → field_product n A B i j ≡ field_product n C D i j
unfolding field_product
product_equal n A B C D x y i j l g = total_equal n _ _ (λ k h. ap₂ ◌*◌ (x i k l h) (y k j h g))

module _ (p n : ℕ) (A : List ℕ) (legal : Legal p n A) (M : Array) (given : Holds n M (definitions.matrix n A)) (s : State) (reduced : Reduced p n M s) (rows ends : List ℕ)
    (ordered : Ordered s.b n n rows) (ending : LastRows s.b n 0 ends) where
  abbrev F : Array
  F = s.b

  abbrev T : Array
  T = s.t

  abbrev TI : Array
  TI = s.back

  prime_modulus : Prime p
  prime_modulus = prime_means p legal.prime_p

  positive : 0 < p
  positive = prime_positive p legal.prime_p

  -- T has its inverse, and A T = T F
  T_TI : FieldEqual p n (field_product n (cell T) (cell TI)) unit
  unfolding matrix
  T_TI = inverse_field p prime_modulus n (cell T) (cell TI) reduced.basis.inverse

  A_T : FieldEqual p n (field_product n (cell M) (cell T)) (field_product n (cell T) (cell F))
  unfolding matrix
  A_T = equal_of_field p n _ _ positive (field_of_product p n (cell M) (cell T) ∙ reduced.basis.moves ∙ sym (field_of_product p n (cell T) (cell F)))

  module _ (f : ℕ → Coefficients) (D : DiagonalOf p n F f) where
    abbrev DF : List ℕ
    DF = diagonal_payload p n F rows ends

    abbrev FB : List ℕ
    FB = matrix_payload n F

    abbrev TB : List ℕ
    TB = matrix_payload n T

    abbrev TI_bytes : List ℕ
    TI_bytes = matrix_payload n TI

    DF_listed : DF ≡ diagonal_listed n f
    DF_listed = joined_equal n _ _ (λ b l. ap (λ (z : ℕ). listed z (D_entry p F rows ends b)) (add-one n) ∙ listed_equal (suc n) _ _ (λ k g. D_is p n F f D rows ends ordered ending b k l)) ∙ diagonal_rows n f

    diagonal_is : diagonal n DF ≡ f
    diagonal_is = ap (diagonal n) DF_listed ∙ diagonal_of_listed n f D.beyond (λ b k l. D.smith.above b k (let h = degree_limited n (f b) in omega arith))

    decomposes : Decomposes p n A DF FB TB TI_bytes
    decomposes = record {
      legal = legal;
      DF_residues = subst (Residues p (n * suc n)) (sym DF_listed) (diagonal_listed_residues p n f positive D.smith.small);
      FB_residues = matrix_payload_residues p n F positive reduced.fields.B;
      TB_residues = matrix_payload_residues p n T positive reduced.fields.T;
      TI_residues = matrix_payload_residues p n TI positive reduced.fields.I;
      monic = subst (λ (g : ℕ → Coefficients). (i : ℕ) → i < n → g i (degree n (g i)) ≡ 1) (sym diagonal_is) D.smith.monic;
      chain = subst (λ (g : ℕ → Coefficients). (i : ℕ) → suc i < n → PolynomialDivides p n (g i) (g (suc i))) (sym diagonal_is) D.chain;
      degrees = ap (λ (g : ℕ → Coefficients). total n (λ i. degree n (g i))) diagonal_is ∙ D.smith.sums;
      built = λ i j l g. sym (matrix_payload_holds n F i j l g) ∙ D.built i j l g ∙ ap (λ (h : ℕ → Coefficients). frobenius p n h i j) (sym diagonal_is);
      T_TI = λ i j l g. ap (λ (x : ℕ). x % p) (sym (product_equal n _ _ _ _ (matrix_payload_holds n T) (matrix_payload_holds n TI) i j l g)) ∙ T_TI i j l g;
      A_T = λ i j l g. ap (λ (x : ℕ). x % p) (sym (product_equal n _ _ _ _ given (matrix_payload_holds n T) i j l g)) ∙ A_T i j l g
          ∙ ap (λ (x : ℕ). x % p) (product_equal n _ _ _ _ (matrix_payload_holds n T) (matrix_payload_holds n F) i j l g);
    }

    -- a payload of polynomials
    payload_is : (factor : Factor) (form : (ℕ → Coefficients) → PolynomialEntries) → ((r c k : ℕ) → r < n → c < n → closed_entry p s rows ends factor r c k ≡ form f r c k)
        → polynomial_payload p n s rows ends factor ≡ polynomials_listed n (form (diagonal n DF))
    payload_is factor form h =
        polynomial_rows n (closed_entry p s rows ends factor) ∙ polynomials_listed_equal n _ _ legal.low (λ r c k l g q. h r c k l g)
        ∙ ap (λ (g : ℕ → Coefficients). polynomials_listed n (form g)) (sym diagonal_is)

    written_closed : written p n A s rows ends ≡ closed_certificate p n A DF FB TB TI_bytes
    unfolding written closed_certificate
    written_closed = λ x. record {
      p = p;
      n = n;
      MA = A;
      DF = DF;
      PL = payload_is P (λ g. closed_P n g TI_entries) (PL_is p n s f D rows ends ordered ending T_entries TI_entries T_holds TI_holds) x;
      PI = payload_is PInverse (λ g. closed_PI p n g T_entries) (PI_is p n s f D rows ends ordered ending T_entries TI_entries T_holds TI_holds) x;
      QR = payload_is Q (λ g. closed_Q p n g T_entries) (QR_is p n s f D rows ends ordered ending T_entries TI_entries T_holds TI_holds) x;
      QI = payload_is QInverse (λ g. closed_QI p n g TI_entries) (QI_is p n s f D rows ends ordered ending T_entries TI_entries T_holds TI_holds) x;
      FB = FB;
      TB = TB;
      TI = TI_bytes;
    }
      where
        T_entries : Entries
        T_entries = definitions.matrix n TB

        TI_entries : Entries
        TI_entries = definitions.matrix n TI_bytes

        T_holds : Holds n T T_entries
        T_holds = matrix_payload_holds n T

        TI_holds : Holds n TI TI_entries
        TI_holds = matrix_payload_holds n TI

    certified : LaidOut (written p n A s rows ends) × Certified p n A (written p n A s rows ends)
    certified = subst (λ (c : Certificate). LaidOut c × Certified p n A c) (sym written_closed) (closed_forms_certify p n A DF FB TB TI_bytes decomposes)

  pub written_certifies : LaidOut (written p n A s rows ends) × Certified p n A (written p n A s rows ends)
  written_certifies = let (f, D) = diagonal_of_form p prime_modulus n legal.low F reduced.fields.B reduced.blocks reduced.form in certified f D
