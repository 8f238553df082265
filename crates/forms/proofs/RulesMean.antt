-- The nine rules are passed exactly by the certificates: each test is the statement that its rule makes, and the inverses are
-- inverses from both sides although the rules multiply one way.
use Rattle.std.specs.Prelude.{◌≡◌, ◌↔◌, List, ℕ, zero, suc, ◌*◌, ◌-◌, ◌%◌, ◌≤◌, ◌<◌}
use Rattle.std.proofs.Math.Path.{refl, sym, ap}
use Rattle.std.proofs.Common.{◌∙◌, arith, lit<}
use Rattle.std.proofs.Math.Nat.{mod-eq_of_lt}
use Rattle.std.proofs.Math.Decide.{dec_lt, dec_le}
use Rattle.std.proofs.Math.Dec.{T, eqb→eq}
use Rattle.algebra.specs.Modular.{Prime, positive}
use Rattle.forms.specs.Answers.{fine}
use Rattle.forms.specs.Polynomials.{Coefficients, degree, divides}
use Rattle.forms.specs.Matrices.{Entries, PolynomialEntries, matrix, polynomial_matrix, diagonal, unit, polynomial_unit, diagonal_matrix, characteristic, field_product, polynomial_product}
use Rattle.forms.specs.Frobenius.{frobenius}
use Rattle.forms.specs.Certificate.{Certificate}
use Rattle.forms.specs.Rules.{field_equal, polynomial_equal, rule, rules}
use Rattle.forms.specs.Words.{FieldEqual, PolynomialEqual, PolynomialDivides, Certified, LaidOut}
use Rattle.forms.specs.Tests.{every_at, every_holds, equal_holds, total_equal, ask_fine, fine_ask, each_fine, fine_each}
use Rattle.forms.proofs.Payloads.{DF_residues, FB_residues}
use Rattle.forms.specs.Primes.{prime_means}
use Rattle.forms.specs.Bounds.{ShortEntries, polynomial_matrix_short, diagonal_short, polynomial_unit_short, diagonal_matrix_short, inverse_product_short, smith_product_short, degree_above, degree_is, matrix_small, diagonal_small}
use Rattle.forms.proofs.Bounds.{frobenius_small}
use Rattle.forms.specs.Remainders.{divides_means}
use Rattle.forms.specs.Rings.{lift_over}
use Rattle.forms.specs.Inverses.{field_left_of_right, polynomial_left_of_right}

-- the tests of equality
pub field_equal_means : (p n : ℕ) (A B : Entries) → T (field_equal p n A B) ↔ FieldEqual p n A B
field_equal_means p n A B = (
  (λ t i j l g. eqb→eq _ _ (every_at n _ (every_at n _ t i l) j g)),
  (λ h. every_holds n _ (λ i l. every_holds n _ (λ j g. equal_holds _ _ (h i j l g)))),
)

pub polynomial_equal_means : (p n : ℕ) (P Q : PolynomialEntries) → ShortEntries (suc (2 * n)) P → ShortEntries (suc (2 * n)) Q → T (polynomial_equal p n P Q) ↔ PolynomialEqual p n P Q
polynomial_equal_means p n P Q a b = (
  (λ t i j k l g. elim (dec_lt k (suc (2 * n))) [
    | yes q ↦ eqb→eq _ _ (every_at (suc (2 * n)) _ (every_at n _ (every_at n _ t i l) j g) k q)
    | no q ↦ ap (λ (x : ℕ). x % p) (a i j k (omega arith) ∙ sym (b i j k (omega arith)))
  ]),
  (λ h. every_holds n _ (λ i l. every_holds n _ (λ j g. every_holds (suc (2 * n)) _ (λ k q. equal_holds _ _ (h i j k l g))))),
)

-- all nine
pub rules_are_tests : (c : Certificate) → (rules c ≡ fine) ↔ ((k : ℕ) → k < 9 → T (rule c k))
unfolding rules
rules_are_tests c = (
  (λ e k l. ask_fine (rule c k) 11 (suc k) (each_fine 9 _ e k l)),
  (λ h. fine_each 9 _ (λ k l. fine_ask (rule c k) 11 (suc k) (h k l))),
)

module _ (c : Certificate) (laid : LaidOut c) where
  abbrev p : ℕ
  p = c.p

  abbrev n : ℕ
  n = c.n

  abbrev f : ℕ → Coefficients
  f = diagonal n c.DF

  prime : Prime p
  prime = prime_means p laid.prime_p

  -- rule 1, with the degree that is tested
  monic_means : T (rule c 0) ↔ ((i : ℕ) → i < n → f i (degree n (f i)) ≡ 1)
  unfolding rule
  monic_means = ((λ t i l. eqb→eq _ _ (every_at n _ t i l)), (λ h. every_holds n _ (λ i l. equal_holds _ _ (h i l))))

  -- rule 2, for monic f_i
  chain_means : ((i : ℕ) → i < n → f i (degree n (f i)) ≡ 1) → T (rule c 1) ↔ ((i : ℕ) → suc i < n → PolynomialDivides p n (f i) (f (suc i)))
  unfolding rule
  chain_means one = (
    (λ t i l. (means i (omega arith)).0 (every_at (n - 1) _ t i (omega arith))),
    (λ h. every_holds (n - 1) _ (λ i l. (means i (omega arith)).1 (h i (omega arith)))),
  )
    where
      means : (i : ℕ) → i < n → T (divides p n (f i) (f (suc i))) ↔ PolynomialDivides p n (f i) (f (suc i))
      means i l = divides_means p (positive p prime) n (f i) (f (suc i)) (one i l) (diagonal_short n c.DF i)
          (diagonal_small p n c.DF (positive p prime) (DF_residues c laid) (suc i)) (diagonal_short n c.DF (suc i))

  -- rules 4 and 5
  inverse_means : (s t : List ℕ) → T (polynomial_equal p n (polynomial_product n (polynomial_matrix n s) (polynomial_matrix n t)) polynomial_unit)
      ↔ PolynomialEqual p n (polynomial_product n (polynomial_matrix n s) (polynomial_matrix n t)) polynomial_unit
  inverse_means s t = polynomial_equal_means p n _ _ (inverse_product_short n s t) (λ i j k l. polynomial_unit_short i j k (omega arith))

  inverse_back : (s t : List ℕ) → PolynomialEqual p n (polynomial_product n (polynomial_matrix n s) (polynomial_matrix n t)) polynomial_unit
      → PolynomialEqual p n (polynomial_product n (polynomial_matrix n t) (polynomial_matrix n s)) polynomial_unit
  inverse_back s t = polynomial_left_of_right p prime n _ _ _ _ (lift_over p n n _ (polynomial_matrix_short n s)) (lift_over p n n _ (polynomial_matrix_short n t))

  -- rule 6
  smith_means : T (rule c 5) ↔ PolynomialEqual p n (polynomial_product n (polynomial_product n (polynomial_matrix n c.PL) (characteristic p (matrix n c.MA))) (polynomial_matrix n c.QR)) (diagonal_matrix f)
  unfolding rule
  smith_means = polynomial_equal_means p n _ _ (smith_product_short p n _ c.PL c.QR) (λ i j k l. diagonal_matrix_short n c.DF i j k (omega arith))

  -- rule 7
  built_means : T (rule c 6) ↔ ((i j : ℕ) → i < n → j < n → matrix n c.FB i j ≡ frobenius p n f i j)
  unfolding rule
  built_means =
      let means = field_equal_means p n (matrix n c.FB) (frobenius p n f) in (
        (λ t i j l g. sym (mod-eq_of_lt (matrix_small p n c.FB (FB_residues c laid) i j)) ∙ means.0 t i j l g ∙ mod-eq_of_lt (frobenius_small p n f prime.large i j)),
        (λ h. means.1 (λ i j l g. ap (λ (x : ℕ). x % p) (h i j l g))),
      )

  passed_certified : ((k : ℕ) → k < 9 → T (rule c k)) → Certified p n c.MA c
  unfolding rule
  passed_certified t =
      let one = monic_means.0 (t 0 (lit< tt)) in
      let P_PI = (inverse_means c.PL c.PI).0 (t 3 (lit< tt)) in
      let Q_QI = (inverse_means c.QR c.QI).0 (t 4 (lit< tt)) in
      let T_TI = (field_equal_means p n (field_product n (matrix n c.TB) (matrix n c.TI)) unit).0 (t 7 (lit< tt)) in
      record {
        given = (refl, refl, refl);
        degree = λ i. degree n (f i);
        monic = one;
        above = λ i k l. degree_above n (f i) (diagonal_short n c.DF i) k;
        chain = (chain_means one).0 (t 1 (lit< tt));
        degrees = eqb→eq _ _ (t 2 (lit< tt));
        P_PI = P_PI;
        PI_P = inverse_back c.PL c.PI P_PI;
        Q_QI = Q_QI;
        QI_Q = inverse_back c.QR c.QI Q_QI;
        smith = smith_means.0 (t 5 (lit< tt));
        built = built_means.0 (t 6 (lit< tt));
        T_TI = T_TI;
        TI_T = field_left_of_right p prime n _ _ T_TI;
        A_T = (field_equal_means p n _ _).0 (t 8 (lit< tt));
      }

  certified_passed : Certified p n c.MA c → (k : ℕ) → k < 9 → T (rule c k)
  unfolding rule
  certified_passed h = tests
    where
      limited : (i : ℕ) → i < n → h.degree i ≤ n
      limited i l = elim (dec_le (h.degree i) n) [ yes q ↦ q | no q ↦ absurd (let a = h.monic i l in let b = diagonal_short n c.DF i (h.degree i) (omega arith) in omega arith) ]

      tested : (i : ℕ) → i < n → degree n (f i) ≡ h.degree i
      tested i l = degree_is n (f i) (h.degree i) (limited i l) (h.monic i l) (λ k. h.above i k l)

      one : (i : ℕ) → i < n → f i (degree n (f i)) ≡ 1
      one i l = ap (f i) (tested i l) ∙ h.monic i l

      tests : (k : ℕ) → k < 9 → T (rule c k)
      tests zero l = monic_means.1 one
      tests (suc zero) l = (chain_means one).1 h.chain
      tests (suc (suc zero)) l = equal_holds _ _ (total_equal n _ _ tested ∙ h.degrees)
      tests (suc (suc (suc zero))) l = (inverse_means c.PL c.PI).1 h.P_PI
      tests (suc (suc (suc (suc zero)))) l = (inverse_means c.QR c.QI).1 h.Q_QI
      tests (suc (suc (suc (suc (suc zero))))) l = smith_means.1 h.smith
      tests (suc (suc (suc (suc (suc (suc zero)))))) l = built_means.1 h.built
      tests (suc (suc (suc (suc (suc (suc (suc zero))))))) l = (field_equal_means p n _ _).1 h.T_TI
      tests (suc (suc (suc (suc (suc (suc (suc (suc zero)))))))) l = (field_equal_means p n _ _).1 h.A_T
      tests (suc (suc (suc (suc (suc (suc (suc (suc (suc k))))))))) l = absurd (omega arith)

pub rules_mean : (c : Certificate) → LaidOut c → (rules c ≡ fine) ↔ Certified c.p c.n c.MA c
rules_mean c laid = (
  (λ e. passed_certified c laid ((rules_are_tests c).0 e)),
  (λ h. (rules_are_tests c).1 (certified_passed c laid h)),
)
