-- Formal power series over a ring, as functions of the exponent. They are a commutative ring, with the product given by
-- f g = f(0) g + X (f' g), where f = f(0) + X f'. Polynomials are its subring of the series that end.
use Rattle.std.specs.Prelude.{◌≡◌}
use Rattle.std.proofs.Math.Path.{refl, sym, ap, ap₂, fun_ext}
use Rattle.std.proofs.Common.{◌∙◌}
use mathlib.Core.HLevel.{Π_set}
use Prim.Native.Nat.{ℕ, zero, suc, ◌-◌}
use Rattle.std.proofs.Math.Nat.{suc-sub-suc, sub-zero}
use Rattle.algebra.specs.Ring.{Ring, plus_associative, plus_commutative, plus_left_commutative, times_associative, times_commutative, zero_plus, plus_zero, one_times, times_plus, minus_plus, zero_times}
use Rattle.algebra.specs.Sum.{sum, sum_nil, sum_suc, sum_front}

module _ {R : Type 0} (K : Ring R) where
  open K use {plus as ◌⊕◌, times as ◌⊗◌, minus as ⊖◌, zero as 𝟘, one as 𝟙}

  infixl 60 ◌⊕◌
  infixl 70 ◌⊗◌
  infix 80 ⊖◌
  -- the coefficient of X^i at i
  abbrev pub Series : Type 0
  Series = ℕ → R

  -- f' where f = f(0) + X f'
  abbrev pub tail : Series → Series
  tail f i = f (suc i)

  -- c + X f
  unfoldable pub cons : R → Series → Series
  cons c f zero = c
  cons c f (suc i) = f i

  unfoldable pub constant : R → Series
  constant c = cons c (λ i. 𝟘)

  multiply : Series → Series → Series
  multiply f g zero = f zero ⊗ g zero
  multiply f g (suc n) = f zero ⊗ g (suc n) ⊕ multiply (tail f) g n

  multiply_zero : (f g : Series) → multiply f g zero ≡ f zero ⊗ g zero
  unfolding multiply
  multiply_zero f g = refl

  multiply_suc : (f g : Series) (n : ℕ) → multiply f g (suc n) ≡ f zero ⊗ g (suc n) ⊕ multiply (λ i. f (suc i)) g n
  unfolding multiply
  multiply_suc f g n = refl

  multiply_suc_right : (f g : Series) (n : ℕ) → multiply f g (suc n) ≡ f (suc n) ⊗ g zero ⊕ multiply f (λ i. g (suc i)) n
  multiply_suc_right f g zero = rw (multiply_suc f g zero, multiply_zero, multiply_zero f (tail g)) (plus_commutative K _ _)
  multiply_suc_right f g (suc n) = simp (multiply_suc f g, multiply_suc f (tail g), multiply_suc_right (tail f) g n) (plus_left_commutative K _ _ _)

  multiply_commutative : (f g : Series) (n : ℕ) → multiply f g n ≡ multiply g f n
  multiply_commutative f g zero = simp (multiply_zero, times_commutative)
  multiply_commutative f g (suc n) = rw (multiply_suc f g n, multiply_suc_right g f n, multiply_commutative (tail f) g n, times_commutative K (f zero) (g (suc n)))

  multiply_plus : (f g h : Series) (n : ℕ) → multiply f (λ i. g i ⊕ h i) n ≡ multiply f g n ⊕ multiply f h n
  multiply_plus f g h zero = simp (multiply_zero, times_plus)
  multiply_plus f g h (suc n) = simp (multiply_suc, multiply_plus (tail f) g h n, times_plus, plus_associative, plus_left_commutative)

  plus_multiply : (f g h : Series) (n : ℕ) → multiply (λ i. f i ⊕ g i) h n ≡ multiply f h n ⊕ multiply g h n
  plus_multiply f g h n = multiply_commutative (λ i. f i ⊕ g i) h n ∙ multiply_plus h f g n ∙ ap₂ ◌⊕◌ (multiply_commutative h f n) (multiply_commutative h g n)

  scale_multiply : (c : R) (f g : Series) (n : ℕ) → multiply (λ i. c ⊗ f i) g n ≡ c ⊗ multiply f g n
  scale_multiply c f g zero = simp (multiply_zero, times_associative)
  scale_multiply c f g (suc n) = simp (multiply_suc, scale_multiply c (tail f) g n, times_plus, times_associative)

  multiply_associative : (f g h : Series) (n : ℕ) → multiply (multiply f g) h n ≡ multiply f (multiply g h) n
  multiply_associative f g h zero = simp (multiply_zero, times_associative)
  multiply_associative f g h (suc n) =
      simp (multiply_suc, multiply_zero) (
      ap (λ x. f zero ⊗ g zero ⊗ h (suc n) ⊕ x) (plus_multiply (λ i. f zero ⊗ g (suc i)) (multiply (tail f) g) h n
      ∙ ap₂ ◌⊕◌ (scale_multiply (f zero) (tail g) h n) (multiply_associative (tail f) g h n))
      ∙ simp (times_plus, times_associative, plus_associative))

  zero_multiply : (g : Series) (n : ℕ) → multiply (λ i. 𝟘) g n ≡ 𝟘
  zero_multiply g zero = simp (multiply_zero, zero_times)
  zero_multiply g (suc n) = simp (multiply_suc, zero_multiply g n, zero_times, zero_plus)

  constant_multiply : (c : R) (g : Series) (n : ℕ) → multiply (constant c) g n ≡ c ⊗ g n
  unfolding constant cons
  constant_multiply c g zero = simp multiply_zero
  constant_multiply c g (suc n) = simp (multiply_suc, zero_multiply) (plus_zero K _)

  pub series : Ring Series
  series = record {
    plus = λ f g i. f i ⊕ g i;
    times = multiply;
    minus = λ f i. ⊖ (f i);
    zero = λ i. 𝟘;
    one = constant 𝟙;
    is_set = Π_set (λ i. K.is_set);
    plus_associative = λ f g h. fun_ext (λ i. plus_associative K _ _ _);
    plus_commutative = λ f g. fun_ext (λ i. plus_commutative K _ _);
    zero_plus = λ f. fun_ext (λ i. zero_plus K _);
    minus_plus = λ f. fun_ext (λ i. minus_plus K _);
    times_associative = λ f g h. fun_ext (multiply_associative f g h);
    times_commutative = λ f g. fun_ext (multiply_commutative f g);
    one_times = λ f. fun_ext (λ i. constant_multiply 𝟙 f i ∙ one_times K _);
    times_plus = λ f g h. fun_ext (multiply_plus f g h);
  }

  open series use {plus as ◌+ˢ◌, times as ◌*ˢ◌, minus as -ˢ◌, zero as 0ˢ, one as 1ˢ}

  infixl 60 ◌+ˢ◌
  infixl 70 ◌*ˢ◌
  infix 80 -ˢ◌
  -- the ring's operations, read at a place
  pub plus_at : (f g : Series) (i : ℕ) → (f +ˢ g) i ≡ f i ⊕ g i
  unfolding series
  plus_at f g i = refl

  pub minus_at : (f : Series) (i : ℕ) → (-ˢ f) i ≡ ⊖ (f i)
  unfolding series
  minus_at f i = refl

  pub zero_at : (i : ℕ) → 0ˢ i ≡ 𝟘
  unfolding series
  zero_at i = refl

  pub one_is_constant : 1ˢ ≡ constant 𝟙
  unfolding series
  one_is_constant = refl

  pub times_at_zero : (f g : Series) → (f *ˢ g) 0 ≡ f 0 ⊗ g 0
  unfolding series
  times_at_zero f g = multiply_zero f g

  pub times_at_suc : (f g : Series) (n : ℕ) → (f *ˢ g) (suc n) ≡ f 0 ⊗ g (suc n) ⊕ ((λ i. f (suc i)) *ˢ g) n
  unfolding series
  times_at_suc f g n = multiply_suc f g n

  pub constant_times_at : (c : R) (f : Series) (i : ℕ) → (constant c *ˢ f) i ≡ c ⊗ f i
  unfolding series
  constant_times_at c f i = constant_multiply c f i

  -- X, and c + X f as the ring says it
  unfoldable pub indeterminate : Series
  indeterminate = cons 𝟘 (constant 𝟙)

  pub indeterminate_times_at : (f : Series) (i : ℕ) → (indeterminate *ˢ f) i ≡ cons 𝟘 f i
  unfolding indeterminate cons
  indeterminate_times_at f zero = times_at_zero _ f ∙ zero_times K _
  indeterminate_times_at f (suc i) = times_at_suc _ f i ∙ ap₂ ◌⊕◌ (zero_times K _) (constant_times_at 𝟙 f i ∙ one_times K _) ∙ zero_plus K _

  pub cons_is : (c : R) (f : Series) → cons c f ≡ constant c +ˢ indeterminate *ˢ f
  unfolding constant cons
  cons_is c f = fun_ext (λ i. sym (plus_at _ _ i ∙ ap (λ x. constant c i ⊕ x) (indeterminate_times_at f i) ∙ together c f i))
    where
      together : (c : R) (f : Series) (i : ℕ) → constant c i ⊕ cons 𝟘 f i ≡ cons c f i
      together c f zero = plus_zero K c
      together c f (suc i) = zero_plus K (f i)

  pub cons_tail : (f : Series) → f ≡ cons (f 0) (tail f)
  unfolding cons
  cons_tail f = fun_ext (at f)
    where
      at : (f : Series) (i : ℕ) → f i ≡ cons (f 0) (tail f) i
      at f zero = refl
      at f (suc i) = refl

  pub times_as_sum : (f g : Series) (n : ℕ) → (f *ˢ g) n ≡ sum K (λ i. f i ⊗ g (n - i)) (suc n)
  times_as_sum f g zero = times_at_zero f g ∙ sym (sum_suc K _ 0 ∙ simp (sum_nil, zero_plus))
  times_as_sum f g (suc n) = times_at_suc f g n ∙ sym (sum_front K (λ i. f i ⊗ g (suc n - i)) (suc n) ∙ simp (sub-zero, suc-sub-suc) (ap (λ x. f 0 ⊗ g (suc n) ⊕ x) (sym (times_as_sum (λ i. f (suc i)) g n))))
