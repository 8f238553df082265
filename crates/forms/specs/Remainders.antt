-- The remainder of the definitions is that of the division by a monic polynomial over F_p, and its test is divisibility.
use Rattle.std.specs.Prelude.{◌≡◌, ◌↔◌, T}
use Rattle.std.proofs.Math.Path.{refl, sym, ap, ap₂, fun_ext}
use Rattle.std.proofs.Common.{◌∙◌, mul-zero, eqb→eq}
use Prim.Native.Nat.{ℕ, zero, suc, ◌+◌, ◌*◌, ◌-◌, ◌%◌, ◌<◌}
use Rattle.std.proofs.Math.Nat.{mod-lt, mod_self, zero-mod}
use Rattle.std.proofs.Math.Decide.{ℕ_discrete, dec_lt}
use native.Mathlib.Omega.{arith}
use Rattle.algebra.specs.Ring.{Ring, minus_times, times_commutative, zero_times, zero_plus}
use Rattle.algebra.specs.Solver.{◌:+◌, ◌:*◌, :-◌, solve₆}
use Rattle.algebra.specs.Divides.{Divides}
use Rattle.algebra.specs.Series.{Series, series, cons}
use Rattle.algebra.specs.Polynomial.{Polynomial, polynomials, polynomial_equal, plus_coefficient, minus_coefficient, zero_coefficient, times_series, zero_of_below, scalar, scalar_times_coefficient, X, scalar_plus_X_times, rest, rest_coefficient, polynomial_split, Monic, UnitLead, monic_unit_lead}
use Rattle.algebra.specs.Division.{Division, factor_below, divides_exactly}
use Rattle.algebra.specs.Modular.{Residue, residue, residue_value, residue_equal, equal_residue, residue_injective, residue_remainder, residue_of_value, residue_plus, residue_times, residue_zero, residue_one, residue_minus, modulo}
use Rattle.forms.specs.Polynomials.{Coefficients, prepend, degree, remainder, divides}
use Rattle.forms.specs.Words.{PolynomialDivides}
use Rattle.forms.specs.Tests.{every_at, every_holds, equal_holds}
use Rattle.forms.specs.Bounds.{Short, degree_limited, degree_above}
use Rattle.forms.specs.Rings.{polynomial, polynomial_coefficient, convolution_residue}

module _ (p : ℕ) (positive : 0 < p) where
  abbrev K : Ring (Residue p)
  K = modulo p

  abbrev L : Ring (Polynomial K)
  L = polynomials K

  open K use {plus as ◌⊕◌, times as ◌⊗◌, minus as ⊖◌, zero as 𝟘, one as 𝟙}

  infixl 60 ◌⊕◌
  infixl 70 ◌⊗◌
  infix 80 ⊖◌
  open L use {plus as ◌+ᵖ◌, times as ◌*ᵖ◌, minus as -ᵖ◌, zero as 0ᵖ}

  infixl 60 ◌+ᵖ◌
  infixl 70 ◌*ᵖ◌
  infix 80 -ᵖ◌
  prepend_residue : (x : ℕ) (r : Coefficients) (k : ℕ) → residue p (prepend x r k) ≡ cons K (residue p x) (λ i. residue p (r i)) k
  unfolding cons
  prepend_residue x r zero = refl
  prepend_residue x r (suc k) = refl

  pub zero_value : (a : Residue p) → a ≡ 𝟘 → a.0 ≡ 0
  zero_value a e = ap (λ (x : Residue p). x.0) (e ∙ sym (residue_zero p)) ∙ residue_value p 0 positive ∙ zero-mod p

  -- F is f modulo p
  abbrev pub Reduces : Coefficients → Polynomial K → Type 0
  Reduces f F = (k : ℕ) → F.0 k ≡ residue p (f k)

  pub reduces_monic : (m : ℕ) (f : Coefficients) (F : Polynomial K) → Reduces f F → f m ≡ 1 → Short (suc m) f → Monic K m F.0
  reduces_monic m f F is one short = record {
    below = λ k l. is k ∙ ap (residue p) (short k l) ∙ residue_zero p;
    lead = is m ∙ ap (residue p) one ∙ residue_one p;
  }

  -- g = f q over the numbers
  pub divides_over : (n : ℕ) (f g : Coefficients) (F G : Polynomial K) → Reduces f F → Reduces g G → PolynomialDivides p n f g → Divides L F G
  divides_over n f g F G F_is G_is h = record {
    by = polynomial p (suc n) h.0 h.1;
    is = polynomial_equal K G _ (λ k. G_is k ∙ residue_equal p _ _ positive (sym (h.2 k)) ∙ convolution_residue p f h.0 k
        ∙ ap₂ (λ (x y : Series K). (series K).times x y k) (fun_ext (λ i. sym (F_is i))) (fun_ext (λ i. sym (polynomial_coefficient p (suc n) h.0 h.1 i)))
        ∙ ap (λ (x : Series K). x k) (sym (times_series K F _)));
  }

  -- division by f, monic of degree m
  module _ (m : ℕ) (f : Coefficients) (one : f m ≡ 1) (short : Short (suc m) f) where
    remainder_small : (e : ℕ) (g : Coefficients) (k : ℕ) → remainder p m f e g k < p
    unfolding remainder
    remainder_small zero g k = positive
    remainder_small (suc e) g k = mod-lt _ positive

    -- what is left of g one place before the last multiple of f is taken away
    partial : ℕ → Coefficients → Coefficients
    partial e g = prepend (g 0) (remainder p m f e (λ i. g (suc i)))

    partial_small : (e : ℕ) (g : Coefficients) → ((k : ℕ) → g k < p) → (k : ℕ) → partial e g k < p
    unfolding partial
    partial_small e g h zero = h 0
    partial_small e g h (suc k) = remainder_small e (λ i. g (suc i)) k

    remainder_suc : (e : ℕ) (g : Coefficients) (k : ℕ) → remainder p m f (suc e) g k ≡ (partial e g k + (p - partial e g m) * f k) % p
    unfolding remainder partial
    remainder_suc e g k = refl

    partial_short : (e : ℕ) (g : Coefficients) → Short m (remainder p m f e (λ i. g (suc i))) → Short (suc m) (partial e g)
    unfolding partial
    partial_short e g h zero l = absurd (omega arith)
    partial_short e g h (suc k) l = h k (omega arith)

    remainder_short : (e : ℕ) (g : Coefficients) → ((k : ℕ) → g k < p) → Short m (remainder p m f e g)
    unfolding remainder
    remainder_short zero g h k l = refl
    remainder_short (suc e) g h k l = remainder_suc e g k ∙ elim (ℕ_discrete k m) [
      | yes q ↦ ap₂ (λ (x y : ℕ). (x + (p - partial e g m) * y) % p) (ap (partial e g) q) (ap f q ∙ one)
          ∙ ap (λ (x : ℕ). x % p) (whole (partial e g m) (partial_small e g h m)) ∙ mod_self p
      | no q ↦ ap₂ (λ (x y : ℕ). (x + (p - partial e g m) * y) % p)
          (partial_short e g (remainder_short e (λ i. g (suc i)) (λ i. h (suc i))) k (omega arith)) (short k (omega arith))
          ∙ ap (λ (x : ℕ). (0 + x) % p) (mul-zero _) ∙ zero-mod p
    ]
      where
        whole : (x : ℕ) → x < p → x + (p - x) * 1 ≡ p
        whole x l = omega arith

    module _ (F : Polynomial K) (F_is : Reduces f F) where
      -- the division of g with the definitions' remainder
      record Divided (e : ℕ) (g : Coefficients) (G : Polynomial K) : Type 0 where
        division : Division K m F G
        remains : Reduces (remainder p m f e g) division.remainder

      divided_step : (e : ℕ) (g : Coefficients) (G : Polynomial K) → Reduces g G → ((k : ℕ) → g k < p) → Divided e (λ i. g (suc i)) (rest K G) → Divided (suc e) g G
      unfolding partial cons
      divided_step e g G G_is small D =
          let c = scalar K (residue p (g 0)) in
          let q = D.division.quotient in let r = D.division.remainder in
          let s : Polynomial K = c +ᵖ X K *ᵖ r in
          let t : Polynomial K = scalar K (residue p (partial e g m)) in
          let s_is : Reduces (partial e g) s = λ k.
          ap (λ (h : Series K). h k) (scalar_plus_X_times K (residue p (g 0)) r ∙ ap (cons K (residue p (g 0))) (fun_ext D.remains))
          ∙ sym (prepend_residue (g 0) (remainder p m f e (λ i. g (suc i))) k) in
          let remains : Reduces (remainder p m f (suc e) g) (s +ᵖ -ᵖ (t *ᵖ F)) = λ k.
          plus_coefficient K s _ k
          ∙ ap₂ ◌⊕◌ (s_is k) (minus_coefficient K _ k ∙ ap ⊖◌ (scalar_times_coefficient K _ F k ∙ ap (λ x. residue p (partial e g m) ⊗ x) (F_is k)))
          ∙ sym (ap (residue p) (remainder_suc e g k) ∙ residue_remainder p _ positive ∙ residue_plus p _ _
          ∙ ap (λ x. residue p (partial e g k) ⊕ x) (residue_times p _ _
          ∙ ap (λ x. x ⊗ residue p (f k)) (residue_minus p (partial e g m) (let l = partial_small e g small m in omega arith) positive) ∙ minus_times K _ _)) in
          record {
            division = record {
              quotient = t +ᵖ X K *ᵖ q;
              remainder = s +ᵖ -ᵖ (t *ᵖ F);
              below = λ k l. remains k ∙ ap (residue p) (remainder_short (suc e) g small k l) ∙ residue_zero p;
              equation = polynomial_split K G ∙ ap₂ (λ x y. scalar K x +ᵖ X K *ᵖ y) (G_is 0) D.division.equation
                  ∙ solve₆ L (λ c x q m r k. c :+ x :* (q :* m :+ r)) (λ c x q m r k. (k :+ x :* q) :* m :+ ((c :+ x :* r) :+ :- (k :* m))) refl c (X K) q F r t;
            };
            remains = remains;
          }

      divided : (e : ℕ) (g : Coefficients) (G : Polynomial K) → Reduces g G → ((k : ℕ) → g k < p) → Short e g → Divided e g G
      unfolding remainder
      divided zero g G G_is small h = record {
        division = record {
          quotient = 0ᵖ;
          remainder = 0ᵖ;
          below = λ k l. zero_coefficient K k;
          equation = zero_of_below K G (λ k l. G_is k ∙ ap (residue p) (h k l) ∙ residue_zero p) ∙ sym (ap (λ x. x +ᵖ 0ᵖ) (zero_times L F) ∙ zero_plus L 0ᵖ);
        };
        remains = λ k. zero_coefficient K k ∙ sym (residue_zero p);
      }
      divided (suc e) g G G_is small h = divided_step e g G G_is small
          (divided e (λ i. g (suc i)) (rest K G) (λ k. rest_coefficient K G k ∙ G_is (suc k)) (λ k. small (suc k)) (λ k l. h (suc k) (omega arith)))

  module _ (n : ℕ) (f g : Coefficients) (one : f (degree n f) ≡ 1) (f_short : Short (suc n) f) (small : (k : ℕ) → g k < p) (g_short : Short (suc n) g)
      (F G : Polynomial K) (F_is : Reduces f F) (G_is : Reduces g G) where
    abbrev m : ℕ
    m = degree n f

    lead : UnitLead K m F.0
    lead = monic_unit_lead K m F.0 (reduces_monic m f F F_is one (degree_above n f f_short))

    D : Divided m f one (degree_above n f f_short) F F_is (suc n) g G
    D = divided m f one (degree_above n f f_short) F F_is (suc n) g G G_is small g_short

    -- the test of document 01's rule 2
    pub test_divides : T (divides p n f g) ↔ Divides L F G
    test_divides =
        let exactly = divides_exactly K m F lead G D.division in (
          (λ t. exactly.1 (polynomial_equal K _ 0ᵖ (λ k. D.remains k ∙ ap (residue p) (left t k) ∙ residue_zero p ∙ sym (zero_coefficient K k)))),
          (λ h. every_holds n _ (λ k l. equal_holds _ 0 (residue_injective p _ 0 (remainder_small m f one (degree_above n f f_short) (suc n) g k) positive
              (sym (D.remains k) ∙ ap (λ (x : Polynomial K). x.0 k) (exactly.0 h) ∙ zero_coefficient K k ∙ sym (residue_zero p))))),
        )
      where
        left : T (divides p n f g) → (k : ℕ) → remainder p m f (suc n) g k ≡ 0
        left t k = elim (dec_lt k n) [
          | yes l ↦ eqb→eq _ 0 (every_at n _ t k l)
          | no l ↦ remainder_short m f one (degree_above n f f_short) (suc n) g small k (let h = degree_limited n f in omega arith)
        ]

    -- and the divisibility of the numbers
    pub numbers_divide : PolynomialDivides p n f g ↔ Divides L F G
    numbers_divide = (
      divides_over n f g F G F_is G_is,
      (λ h. (
        (λ k. (h.by.0 k).0),
        (λ k l. zero_value (h.by.0 k) (factor_below K m F lead (suc n) h.by (λ i a. ap (λ (x : Polynomial K). x.0 i) (times_commutative L h.by F ∙ sym h.is) ∙ G_is i ∙ ap (residue p) (g_short i (omega arith)) ∙ residue_zero p) k l)),
        (λ k. equal_residue p _ _ positive (convolution_residue p f _ k
            ∙ ap₂ (λ (x y : Series K). (series K).times x y k) (fun_ext (λ i. sym (F_is i))) (fun_ext (λ i. residue_of_value p (h.by.0 i)))
            ∙ ap (λ (x : Series K). x k) (sym (times_series K F h.by)) ∙ ap (λ (x : Polynomial K). x.0 k) (sym h.is) ∙ G_is k)),
      )),
    )

  pub divides_means : (n : ℕ) (f g : Coefficients) → f (degree n f) ≡ 1 → Short (suc n) f → ((k : ℕ) → g k < p) → Short (suc n) g → T (divides p n f g) ↔ PolynomialDivides p n f g
  divides_means n f g one f_short small g_short =
      let F = polynomial p (suc n) f f_short in let G = polynomial p (suc n) g g_short in
      let F_is : Reduces f F = polynomial_coefficient p (suc n) f f_short in let G_is : Reduces g G = polynomial_coefficient p (suc n) g g_short in
      let a = test_divides n f g one f_short small g_short F G F_is G_is in
      let b = numbers_divide n f g one f_short small g_short F G F_is G_is in
      ((λ t. b.1 (a.0 t)), (λ h. a.1 (b.0 h)))
