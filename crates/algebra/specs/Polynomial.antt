-- Polynomials over a ring: the power series that end. The bound is only known to exist, so that polynomials with equal
-- coefficients are equal; what needs the bound is a proposition, or is proved by induction on the polynomial.
use Rattle.std.specs.Prelude.{◌≡◌}
use Rattle.std.proofs.Math.Path.{refl, sym, ap, fun_ext}
use Rattle.std.proofs.Common.{◌∙◌, ap₂, subst, zero-add, suc-add, arith}
use Rattle.std.proofs.Math.Logic.{∥∥₁_prop, ∥∥₁_elim, ∥∥₁_map}
use Prim.Native.Nat.{ℕ, zero, suc, ◌+◌, ◌≤◌}
use Rattle.std.proofs.Math.Decide.{ℕ_discrete}
use Rattle.algebra.specs.Ring.{Ring, zero_plus, plus_zero, times_one, times_zero, zero_times, minus_zero}
use Rattle.algebra.specs.Sum.{sum, sum_nil, sum_suc}
use Rattle.algebra.specs.Series.{Series, series, tail, cons, cons_is, cons_tail, constant, indeterminate, plus_at, minus_at, zero_at, one_is_constant, times_at_zero, times_at_suc, constant_times_at}
use Rattle.algebra.specs.Subring.{Closed, Subset, subring, subset_equal}

module _ {R : Type 0} (K : Ring R) where
  open K use {plus as ◌⊕◌, times as ◌⊗◌, minus as ⊖◌, zero as 𝟘, one as 𝟙}

  infixl 60 ◌⊕◌
  infixl 70 ◌⊗◌
  infix 80 ⊖◌
  open series K use {plus as ◌+ˢ◌, times as ◌*ˢ◌, minus as -ˢ◌, zero as 0ˢ}

  infixl 60 ◌+ˢ◌
  infixl 70 ◌*ˢ◌
  infix 80 -ˢ◌
  -- at most d coefficients
  abbrev pub Below : ℕ → Series K → Type 0
  Below d f = (i : ℕ) → d ≤ i → f i ≡ 𝟘

  pub below_lower : (d : ℕ) (f : Series K) → Below (suc d) f → f d ≡ 𝟘 → Below d f
  below_lower d f h z i l = elim (ℕ_discrete i d) [ yes p ↦ rw p z | no n ↦ h i (omega arith) ]

  pub below_zero : (f : Series K) → Below 0 f → f ≡ 0ˢ
  below_zero f h = fun_ext (λ i. h i (omega arith) ∙ sym (zero_at K i))

  pub plus_below : (d : ℕ) (f g : Series K) → Below d f → Below d g → Below d (f +ˢ g)
  plus_below d f g hf hg i l = plus_at K f g i ∙ ap₂ ◌⊕◌ (hf i l) (hg i l) ∙ zero_plus K 𝟘

  pub minus_below : (d : ℕ) (f : Series K) → Below d f → Below d (-ˢ f)
  minus_below d f h i l = minus_at K f i ∙ ap ⊖◌ (h i l) ∙ minus_zero K

  pub cons_below : (c : R) (d : ℕ) (f : Series K) → Below d f → Below (suc d) (cons K c f)
  unfolding cons
  cons_below c d f h zero l = absurd (omega arith)
  cons_below c d f h (suc i) l = h i (omega arith)

  pub constant_below : (c : R) → Below 1 (constant K c)
  unfolding constant
  constant_below c = cons_below c 0 _ (λ i l. refl)

  nil_times : (f g : Series K) (n : ℕ) → Below 0 f → (f *ˢ g) n ≡ 𝟘
  nil_times f g n h = rw (below_zero f h, zero_times) (zero_at K n)

  -- degrees of a product: the coefficients beyond the sum of the degrees are zero, and the one there is the product of the last
  pub times_below : (n a b : ℕ) (f g : Series K) → Below a f → Below b g → a + b ≤ suc n → (f *ˢ g) n ≡ 𝟘
  times_below n zero b f g hf hg l = nil_times f g n hf
  times_below zero (suc a) b f g hf hg l = rw (times_at_zero, hg 0 (omega arith)) (times_zero K _)
  times_below (suc n) (suc a) b f g hf hg l = rw (times_at_suc, hg (suc n) (omega arith), times_below n a b (λ i. f (suc i)) g (λ i h. hf (suc i) (omega arith)) hg (omega arith)) (simp (times_zero, zero_plus))

  pub times_top : (a b : ℕ) (f g : Series K) → Below (suc a) f → Below (suc b) g → (f *ˢ g) (a + b) ≡ f a ⊗ g b
  times_top zero zero f g hf hg = times_at_zero K f g
  times_top zero (suc b) f g hf hg = rw (zero-add, times_at_suc, nil_times (λ i. f (suc i)) g b (λ i h. hf (suc i) (omega arith))) (plus_zero K _)
  times_top (suc a) b f g hf hg = rw (suc-add, times_at_suc, hg (suc (a + b)) (omega arith), times_top a b (λ i. f (suc i)) g (λ i h. hf (suc i) (omega arith)) hg) (simp (times_zero, zero_plus))

  abbrev pub Bounded : Series K → Type 0
  Bounded f = ∥ ((d : ℕ) × Below d f) ∥₁

  pub bounded_closed : Closed (series K) Bounded
  bounded_closed = record {
    proposition = λ f. ∥∥₁_prop;
    plus = λ f g a b. ∥∥₁_elim a ∥∥₁_prop (λ x. ∥∥₁_map b (λ y. (x.0 + y.0, plus_below (x.0 + y.0) f g (λ i l. x.1 i (omega arith)) (λ i l. y.1 i (omega arith)))));
    times = λ f g a b. ∥∥₁_elim a ∥∥₁_prop (λ x. ∥∥₁_map b (λ y. (x.0 + y.0, λ i l. times_below i x.0 y.0 f g x.1 y.1 (omega arith))));
    minus = λ f a. ∥∥₁_map a (λ x. (x.0, minus_below x.0 f x.1));
    zero = ∣ (0, λ i l. zero_at K i) ∣₁;
    one = ∣ (1, rw one_is_constant (constant_below 𝟙)) ∣₁;
  }

  abbrev pub Polynomial : Type 0
  Polynomial = Subset Bounded

  unfoldable pub polynomials : Ring Polynomial
  polynomials = subring (series K) Bounded bounded_closed

  open polynomials use {plus as ◌+ᵖ◌, times as ◌*ᵖ◌, minus as -ᵖ◌, zero as 0ᵖ, one as 1ᵖ}

  infixl 60 ◌+ᵖ◌
  infixl 70 ◌*ᵖ◌
  infix 80 -ᵖ◌
  pub polynomial_equal : (f g : Polynomial) → ((i : ℕ) → f.0 i ≡ g.0 i) → f ≡ g
  polynomial_equal f g h = subset_equal (series K) Bounded bounded_closed f g (fun_ext h)

  -- the ring's operations, read at a coefficient
  pub plus_coefficient : (f g : Polynomial) (i : ℕ) → (f +ᵖ g).0 i ≡ f.0 i ⊕ g.0 i
  unfolding polynomials subring
  plus_coefficient f g i = plus_at K f.0 g.0 i

  pub minus_coefficient : (f : Polynomial) (i : ℕ) → (-ᵖ f).0 i ≡ ⊖ (f.0 i)
  unfolding polynomials subring
  minus_coefficient f i = minus_at K f.0 i

  pub zero_coefficient : (i : ℕ) → 0ᵖ.0 i ≡ 𝟘
  unfolding polynomials subring
  zero_coefficient i = zero_at K i

  pub one_series : 1ᵖ.0 ≡ constant K 𝟙
  unfolding polynomials subring
  one_series = one_is_constant K

  pub times_series : (f g : Polynomial) → (f *ᵖ g).0 ≡ f.0 *ˢ g.0
  unfolding polynomials subring
  times_series f g = refl

  pub sum_coefficient : (f : ℕ → Polynomial) (n i : ℕ) → (sum polynomials f n).0 i ≡ sum K (λ k. (f k).0 i) n
  sum_coefficient f zero i = rw (sum_nil, sum_nil) (zero_coefficient i)
  sum_coefficient f (suc n) i = rw (sum_suc, plus_coefficient, sum_coefficient f n i) (sym (sum_suc K _ n))

  pub zero_of_below : (f : Polynomial) → Below 0 f.0 → f ≡ 0ᵖ
  zero_of_below f h = polynomial_equal f 0ᵖ (λ i. h i (omega arith) ∙ sym (zero_coefficient i))

  -- the constant polynomials, which are a copy of the ring
  unfoldable pub scalar : R → Polynomial
  scalar c = (constant K c, ∣ (1, constant_below c) ∣₁)

  pub scalar_times_coefficient : (c : R) (f : Polynomial) (i : ℕ) → (scalar c *ᵖ f).0 i ≡ c ⊗ f.0 i
  unfolding scalar
  scalar_times_coefficient c f i = ap (λ (g : Series K). g i) (times_series (scalar c) f) ∙ constant_times_at K c f.0 i

  pub scalar_zero : scalar 𝟘 ≡ 0ᵖ
  unfolding scalar constant cons
  scalar_zero = polynomial_equal (scalar 𝟘) 0ᵖ (λ i. at i ∙ sym (zero_coefficient i))
    where
      at : (i : ℕ) → (scalar 𝟘).0 i ≡ 𝟘
      at zero = refl
      at (suc i) = refl

  pub scalar_one : scalar 𝟙 ≡ 1ᵖ
  unfolding scalar
  scalar_one = polynomial_equal (scalar 𝟙) 1ᵖ (λ i. ap (λ (g : Series K). g i) (sym one_series))

  pub scalar_plus : (a b : R) → scalar (a ⊕ b) ≡ scalar a +ᵖ scalar b
  unfolding scalar constant cons
  scalar_plus a b = polynomial_equal (scalar (a ⊕ b)) (scalar a +ᵖ scalar b) (λ i. at i ∙ sym (plus_coefficient (scalar a) (scalar b) i))
    where
      at : (i : ℕ) → (scalar (a ⊕ b)).0 i ≡ (scalar a).0 i ⊕ (scalar b).0 i
      at zero = refl
      at (suc i) = sym (zero_plus K 𝟘)

  pub scalar_times : (a b : R) → scalar (a ⊗ b) ≡ scalar a *ᵖ scalar b
  unfolding scalar constant cons
  scalar_times a b = polynomial_equal (scalar (a ⊗ b)) (scalar a *ᵖ scalar b) (λ i. at i ∙ sym (scalar_times_coefficient a (scalar b) i))
    where
      at : (i : ℕ) → (scalar (a ⊗ b)).0 i ≡ a ⊗ (scalar b).0 i
      at zero = refl
      at (suc i) = sym (times_zero K a)

  pub scalar_of_below : (f : Polynomial) → Below 1 f.0 → f ≡ scalar (f.0 0)
  unfolding scalar constant cons
  scalar_of_below f h = polynomial_equal f (scalar (f.0 0)) at
    where
      at : (i : ℕ) → f.0 i ≡ (scalar (f.0 0)).0 i
      at zero = refl
      at (suc i) = h (suc i) (omega arith)

  unfoldable pub X : Polynomial
  unfolding indeterminate
  X = (indeterminate K, ∣ (2, cons_below 𝟘 1 _ (constant_below 𝟙)) ∣₁)

  pub scalar_plus_X_times : (c : R) (f : Polynomial) → (scalar c +ᵖ X *ᵖ f).0 ≡ cons K c f.0
  unfolding polynomials subring scalar X
  scalar_plus_X_times c f = sym (cons_is K c f.0)

  -- f' where f = f(0) + X f'
  pub rest : Polynomial → Polynomial
  rest f = (tail K f.0, ∥∥₁_map f.1 (λ x. (x.0, λ i l. x.1 (suc i) (omega arith))))

  pub rest_coefficient : (f : Polynomial) (i : ℕ) → (rest f).0 i ≡ f.0 (suc i)
  unfolding rest
  rest_coefficient f i = refl

  pub polynomial_split : (f : Polynomial) → f ≡ scalar (f.0 0) +ᵖ X *ᵖ rest f
  unfolding rest
  polynomial_split f = subset_equal (series K) Bounded bounded_closed f (scalar (f.0 0) +ᵖ X *ᵖ rest f) (cons_tail K f.0 ∙ sym (scalar_plus_X_times (f.0 0) (rest f)))

  -- a proposition holds of every polynomial where it holds of zero and passes from f to c + X f
  pub polynomial_induction : (P : Polynomial → Type 0) → ((f : Polynomial) → IsProp (P f)) → P 0ᵖ → ((c : R) (f : Polynomial) → P f → P (scalar c +ᵖ X *ᵖ f)) → (f : Polynomial) → P f
  polynomial_induction P proposition start step f = ∥∥₁_elim f.1 (proposition f) (λ x. upto x.0 f x.1)
    where
      upto : (d : ℕ) (f : Polynomial) → Below d f.0 → P f
      upto zero f h = subst P (sym (zero_of_below f h)) start
      upto (suc d) f h = subst P (sym (polynomial_split f)) (step (f.0 0) (rest f) (upto d (rest f) (λ i l. rest_coefficient f i ∙ h (suc i) (omega arith))))

  -- monic of degree d, and of degree d with an inverse of the last coefficient
  pub record Monic (d : ℕ) (f : Series K) : Type 0 where
    pub below : Below (suc d) f
    pub lead : f d ≡ 𝟙

  pub record UnitLead (d : ℕ) (f : Series K) : Type 0 where
    pub below : Below (suc d) f
    pub inverse : R
    pub unit : f d ⊗ inverse ≡ 𝟙

  pub monic_unit_lead : (d : ℕ) (f : Series K) → Monic d f → UnitLead d f
  monic_unit_lead d f M = record { below = M.below; inverse = 𝟙; unit = times_one K _ ∙ M.lead }
