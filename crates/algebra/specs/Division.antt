-- Division with remainder by a polynomial whose last coefficient has an inverse: it exists, and is unique. Over any ring
-- this divides by the monic polynomials, and over a field by every polynomial but zero.
use Rattle.std.specs.Prelude.{◌≡◌, refl, ◌≢◌, ◌↔◌, ℕ, zero, suc, ◌+◌, ◌<◌}
use Rattle.std.proofs.Common.{sym, ◌∙◌, ap, subst, arith}
use mathlib.Core.HLevel.{Π_prop, is_prop→PathP}
use Rattle.std.proofs.Math.Logic.{∥∥₁_elim}
use Rattle.std.proofs.Math.Decide.{dec_lt}
use Rattle.algebra.specs.Ring.{Ring, plus_cancel, zero_plus, plus_zero, one_times, times_one, times_associative, times_commutative, times_zero, zero_times, minus_zero, plus_minus}
use Rattle.algebra.specs.Solver.{◌:+◌, ◌:*◌, :-◌, solve₆}
use Rattle.algebra.specs.Domain.{Field, field_domain, equal_of_difference, unit_cancel_zero}
use Rattle.algebra.specs.Divides.{Divides}
use Rattle.algebra.specs.Series.{Series, series}
use Rattle.algebra.specs.Polynomial.{Below, Polynomial, polynomials, polynomial_equal, polynomial_induction, below_lower, cons_below, times_top, plus_coefficient, minus_coefficient, zero_coefficient, times_series, zero_of_below, scalar, scalar_one, scalar_of_below, scalar_times_coefficient, X, scalar_plus_X_times, Monic, UnitLead, monic_unit_lead}
use Rattle.algebra.specs.Degree.{Degree, degree, degree_unit_lead}

module _ {R : Type 0} (K : Ring R) where
  open K use {plus as ◌⊕◌, times as ◌⊗◌, minus as ⊖◌, zero as 𝟘, one as 𝟙}

  infixl 60 ◌⊕◌
  infixl 70 ◌⊗◌
  infix 80 ⊖◌
  open polynomials K use {plus as ◌+ᵖ◌, times as ◌*ᵖ◌, minus as -ᵖ◌, zero as 0ᵖ, one as 1ᵖ}

  infixl 60 ◌+ᵖ◌
  infixl 70 ◌*ᵖ◌
  infix 80 -ᵖ◌
  -- f = quotient m + remainder, where the remainder has at most d coefficients
  pub record Division (d : ℕ) (m f : Polynomial K) : Type 0 where
    pub quotient : Polynomial K
    pub remainder : Polynomial K
    pub below : Below K d remainder.0
    pub equation : f ≡ quotient *ᵖ m +ᵖ remainder

  difference_below : (d : ℕ) (f g : Polynomial K) → Below K d f.0 → Below K d g.0 → Below K d (f +ᵖ -ᵖ g).0
  difference_below d f g hf hg i l = rw (plus_coefficient, minus_coefficient, hf i l, hg i l, minus_zero) (plus_zero K 𝟘)

  module _ (d : ℕ) (m : Polynomial K) (U : UnitLead K d m.0) where
    -- q has at most e coefficients where q m has at most e + d
    factor_below_upto : (k e : ℕ) (q : Series K) → Below K k q → Below K (e + d) ((series K).times q m.0) → Below K e q
    factor_below_upto zero e q hq hp = λ i l. hq i (omega arith)
    factor_below_upto (suc k) e q hq hp = elim (dec_lt k e) [
      | yes l ↦ λ i g. hq i (omega arith)
      | no n ↦ factor_below_upto k e q (below_lower K k q hq
          (unit_cancel_zero K (m.0 d) U.inverse (q k) U.unit (times_commutative K _ _ ∙ sym (times_top K k d q m.0 hq U.below) ∙ hp (k + d) (omega arith)))) hp
    ]

    pub factor_below : (e : ℕ) (q : Polynomial K) → Below K (e + d) (q *ᵖ m).0 → Below K e q.0
    factor_below e q h = ∥∥₁_elim q.1 (Π_prop (λ i. Π_prop (λ l. K.is_set (q.0 i) 𝟘)))
        (λ x. factor_below_upto x.0 e q.0 x.1 (rw times_series at h))

    -- two divisions of one polynomial are the same
    pub division_unique : (f : Polynomial K) (D E : Division d m f) → (D.quotient ≡ E.quotient) × (D.remainder ≡ E.remainder)
    division_unique f D E =
        let q = D.quotient in let q' = E.quotient in let r = D.remainder in let r' = E.remainder in
        let p : q *ᵖ m +ᵖ r ≡ q' *ᵖ m +ᵖ r' = sym D.equation ∙ E.equation in
        let same : (q +ᵖ -ᵖ q') *ᵖ m ≡ r' +ᵖ -ᵖ r =
        solve₆ (polynomials K) (λ q q' m r r' x. (q :+ :- q') :* m) (λ q q' m r r' x. (q :* m :+ r) :+ :- (q' :* m) :+ :- r) refl q q' m r r' r
        ∙ ap (λ x. x +ᵖ -ᵖ (q' *ᵖ m) +ᵖ -ᵖ r) p
        ∙ solve₆ (polynomials K) (λ q q' m r r' x. (q' :* m :+ r') :+ :- (q' :* m) :+ :- r) (λ q q' m r r' x. r' :+ :- r) refl q q' m r r' r in
        let z : q ≡ q' = equal_of_difference (polynomials K) q q' (zero_of_below K (q +ᵖ -ᵖ q') (factor_below 0 (q +ᵖ -ᵖ q')
        (rw same (λ i l. difference_below d r' r E.below D.below i (omega arith))))) in
        (z, plus_cancel (polynomials K) (q *ᵖ m) r r' (p ∙ ap (λ x. x *ᵖ m +ᵖ r') (sym z)))

    division_proposition : (f : Polynomial K) → IsProp (Division d m f)
    division_proposition f D E =
        let u = division_unique f D E in
        λ i. record {
          quotient = u.0 i;
          remainder = u.1 i;
          below = is_prop→PathP (λ i. Below K d (u.1 i).0) (λ i. Π_prop (λ k. Π_prop (λ l. K.is_set ((u.1 i).0 k) 𝟘))) D.below E.below i;
          equation = is_prop→PathP (λ i. f ≡ u.0 i *ᵖ m +ᵖ u.1 i) (λ i. (polynomials K).is_set f (u.0 i *ᵖ m +ᵖ u.1 i)) D.equation E.equation i;
        }

    -- the multiple of m that takes away the coefficient of X^d in s
    multiple : Polynomial K → R
    multiple s = s.0 d ⊗ U.inverse

    taken_at : (s : Polynomial K) (i : ℕ) → (s +ᵖ -ᵖ (scalar K (multiple s) *ᵖ m)).0 i ≡ s.0 i ⊕ ⊖ (s.0 d ⊗ U.inverse ⊗ m.0 i)
    unfolding multiple
    taken_at s i = rw (plus_coefficient, minus_coefficient, scalar_times_coefficient)

    taken_below : (s : Polynomial K) → Below K (suc d) s.0 → Below K d (s +ᵖ -ᵖ (scalar K (multiple s) *ᵖ m)).0
    taken_below s h = below_lower K d _
        (λ i l. taken_at s i ∙ rw (h i l, U.below i l, times_zero, minus_zero) (plus_zero K 𝟘))
        (taken_at s d ∙ rw (times_associative, times_commutative K U.inverse (m.0 d), U.unit, times_one) (plus_minus K _))

    divide_step : (c : R) (f : Polynomial K) → Division d m f → Division d m (scalar K c +ᵖ X K *ᵖ f)
    divide_step c f D =
        let s : Polynomial K = scalar K c +ᵖ X K *ᵖ D.remainder in
        let k = scalar K (multiple s) in
        record {
          quotient = k +ᵖ X K *ᵖ D.quotient;
          remainder = s +ᵖ -ᵖ (k *ᵖ m);
          below = taken_below s (rw scalar_plus_X_times (cons_below K c d D.remainder.0 D.below));
          equation = ap (λ x. scalar K c +ᵖ X K *ᵖ x) D.equation
              ∙ solve₆ (polynomials K) (λ c x q m r k. c :+ x :* (q :* m :+ r)) (λ c x q m r k. (k :+ x :* q) :* m :+ ((c :+ x :* r) :+ :- (k :* m))) refl (scalar K c) (X K) D.quotient m D.remainder k;
        }

    pub divide : (f : Polynomial K) → Division d m f
    divide = polynomial_induction K (Division d m) division_proposition
        (record { quotient = 0ᵖ; remainder = 0ᵖ; below = λ i l. zero_coefficient K i; equation = sym (ap (λ x. x +ᵖ 0ᵖ) (zero_times (polynomials K) m) ∙ zero_plus (polynomials K) 0ᵖ) })
        divide_step

    pub divides_exactly : (f : Polynomial K) (D : Division d m f) → Divides (polynomials K) m f ↔ (D.remainder ≡ 0ᵖ)
    divides_exactly f D = (
      (λ h. (division_unique f D (record { quotient = h.by; remainder = 0ᵖ; below = λ i l. zero_coefficient K i; equation = h.is ∙ times_commutative (polynomials K) _ _ ∙ sym (plus_zero (polynomials K) _) })).1),
      (λ z. record { by = D.quotient; is = D.equation ∙ ap (λ x. D.quotient *ᵖ m +ᵖ x) z ∙ plus_zero (polynomials K) _ ∙ times_commutative (polynomials K) _ _ }),
    )

  -- by a monic polynomial, over any ring
  pub divide_monic : (d : ℕ) (m : Polynomial K) → Monic K d m.0 → (f : Polynomial K) → Division d m f
  divide_monic d m M = divide d m (monic_unit_lead K d m.0 M)

  pub divide_monic_unique : (d : ℕ) (m : Polynomial K) → Monic K d m.0 → (f : Polynomial K) (D E : Division d m f) → (D.quotient ≡ E.quotient) × (D.remainder ≡ E.remainder)
  divide_monic_unique d m M = division_unique d m (monic_unit_lead K d m.0 M)

  -- by any polynomial but zero, over a field
  module _ (F : Field K) where
    pub divide_nonzero : (m : Polynomial K) → m ≢ 0ᵖ → (f : Polynomial K) → (d : ℕ) × Degree K d m.0 × Division d m f
    divide_nonzero m n f = let (d, h) = degree K (field_domain K F) m n in (d, h, divide d m (degree_unit_lead K F d m.0 h) f)

    pub divide_nonzero_unique : (d : ℕ) (m : Polynomial K) → Degree K d m.0 → (f : Polynomial K) (D E : Division d m f) → (D.quotient ≡ E.quotient) × (D.remainder ≡ E.remainder)
    divide_nonzero_unique d m h = division_unique d m (degree_unit_lead K F d m.0 h)

  -- a multiple of a longer monic polynomial is monic only where one is zero
  shorter : (f g : Polynomial K) (a b : ℕ) → Monic K a f.0 → Monic K b g.0 → Divides (polynomials K) f g → b < a → 𝟙 ≡ 𝟘
  shorter f g a b mf mg h l =
      let z : h.by ≡ 0ᵖ = zero_of_below K h.by (factor_below a f (monic_unit_lead K a f.0 mf) 0 h.by (rw (times_commutative (polynomials K) h.by f, ← h.is) (λ i k. mg.below i (omega arith)))) in
      sym mg.lead ∙ ap (λ (x : Polynomial K). x.0 b) (h.is ∙ ap (λ x. f *ᵖ x) z ∙ times_zero (polynomials K) f) ∙ zero_coefficient K b

  all_equal : 𝟙 ≡ 𝟘 → (f g : Polynomial K) → f ≡ g
  all_equal e f g = polynomial_equal K f g (λ i. none (f.0 i) ∙ sym (none (g.0 i)))
    where
      none : (x : R) → x ≡ 𝟘
      none x = sym (one_times K x) ∙ ap (λ y. y ⊗ x) e ∙ zero_times K x

  same_degree : (f g : Polynomial K) (a : ℕ) → Monic K a f.0 → Monic K a g.0 → Divides (polynomials K) f g → f ≡ g
  same_degree f g a mf mg h =
      let c = h.by in
      let lo : Below K 1 c.0 = factor_below a f (monic_unit_lead K a f.0 mf) 1 c (rw (times_commutative (polynomials K) c f, ← h.is) (λ i k. mg.below i (omega arith))) in
      let top : c.0 0 ≡ 𝟙 = sym (one_times K _) ∙ ap (λ x. x ⊗ c.0 0) (sym mf.lead) ∙ sym (times_top K a 0 f.0 c.0 mf.below lo)
      ∙ ap (λ (x : Series K). x (a + 0)) (sym (times_series K f c)) ∙ ap (λ (x : Polynomial K). x.0 (a + 0)) (sym h.is) ∙ ap g.0 (omega arith) ∙ mg.lead in
      let one : c ≡ 1ᵖ = scalar_of_below K c lo ∙ ap (scalar K) top ∙ scalar_one K in
      sym (h.is ∙ ap (λ x. f *ᵖ x) one ∙ times_one (polynomials K) f)

  -- monic polynomials that divide each other are equal
  pub monic_equal : (f g : Polynomial K) (a b : ℕ) → Monic K a f.0 → Monic K b g.0 → Divides (polynomials K) f g → Divides (polynomials K) g f → f ≡ g
  monic_equal f g a b mf mg u v = elim (dec_lt b a) [
    | yes l ↦ all_equal (shorter f g a b mf mg u l) f g
    | no n ↦ elim (dec_lt a b) [
      | yes l ↦ all_equal (shorter g f b a mg mf v l) f g
      | no k ↦ same_degree f g a mf (subst (λ (x : ℕ). Monic K x g.0) (omega arith) mg) u
    ]
  ]
