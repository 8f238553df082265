-- The monomials c X^k over a ring. The product with one moves every coefficient up by k places and multiplies it by c.
use Rattle.std.specs.Prelude.{◌≡◌, ◌≢◌}
use Rattle.std.proofs.Math.Path.{refl, ap}
use Rattle.std.proofs.Common.{◌∙◌, arith}
use Prim.Native.Nat.{ℕ, zero, suc, ◌+◌, ◌<◌}
use Rattle.std.proofs.Math.Nat.{zero-add, suc-add}
use Rattle.algebra.specs.Ring.{Ring, zero_plus, zero_times}
use Rattle.algebra.specs.Series.{Series, series, constant, cons, times_at_zero, times_at_suc, constant_times_at}
use Rattle.algebra.specs.Polynomial.{Below, Polynomial, polynomials, cons_below, constant_below, times_series}

module _ {R : Type 0} (K : Ring R) where
  open K use {plus as ◌⊕◌, times as ◌⊗◌, zero as 𝟘}

  infixl 60 ◌⊕◌
  infixl 70 ◌⊗◌
  open polynomials K use {times as ◌*ᵖ◌}

  infixl 70 ◌*ᵖ◌
  -- c X^k
  monomial_series : R → ℕ → Series K
  monomial_series c zero = constant K c
  monomial_series c (suc k) = cons K 𝟘 (monomial_series c k)

  monomial_series_below : (c : R) (k : ℕ) → Below K (suc k) (monomial_series c k)
  unfolding monomial_series
  monomial_series_below c zero = constant_below K c
  monomial_series_below c (suc k) = cons_below K 𝟘 (suc k) (monomial_series c k) (monomial_series_below c k)

  monomial_series_same : (c : R) (k : ℕ) → monomial_series c k k ≡ c
  unfolding monomial_series constant cons
  monomial_series_same c zero = refl
  monomial_series_same c (suc k) = monomial_series_same c k

  monomial_series_other : (c : R) (k i : ℕ) → i ≢ k → monomial_series c k i ≡ 𝟘
  unfolding monomial_series constant cons
  monomial_series_other c zero zero h = absurd (h refl)
  monomial_series_other c zero (suc i) h = refl
  monomial_series_other c (suc k) zero h = refl
  monomial_series_other c (suc k) (suc i) h = monomial_series_other c k i (λ e. h (ap suc e))

  -- X (c X^k) times f, at the next coefficient
  next : (c : R) (k : ℕ) (f : Series K) (n : ℕ) → (series K).times (monomial_series c (suc k)) f (suc n) ≡ (series K).times (monomial_series c k) f n
  unfolding monomial_series cons
  next c k f n = times_at_suc K (monomial_series c (suc k)) f n ∙ ap (λ x. x ⊕ (series K).times (monomial_series c k) f n) (zero_times K _) ∙ zero_plus K _

  monomial_series_times_from : (c : R) (k : ℕ) (f : Series K) (i : ℕ) → (series K).times (monomial_series c k) f (k + i) ≡ c ⊗ f i
  unfolding monomial_series
  monomial_series_times_from c zero f i = rw zero-add (constant_times_at K c f i)
  monomial_series_times_from c (suc k) f i = rw suc-add (next c k f (k + i) ∙ monomial_series_times_from c k f i)

  monomial_series_times_below : (c : R) (k : ℕ) (f : Series K) (i : ℕ) → i < k → (series K).times (monomial_series c k) f i ≡ 𝟘
  unfolding monomial_series cons
  monomial_series_times_below c zero f i l = absurd (omega arith)
  monomial_series_times_below c (suc k) f zero l = times_at_zero K (monomial_series c (suc k)) f ∙ zero_times K _
  monomial_series_times_below c (suc k) f (suc i) l = next c k f i ∙ monomial_series_times_below c k f i (omega arith)

  pub monomial : R → ℕ → Polynomial K
  monomial c k = (monomial_series c k, ∣ (suc k, monomial_series_below c k) ∣₁)

  pub monomial_same : (c : R) (k : ℕ) → (monomial c k).0 k ≡ c
  unfolding monomial
  monomial_same = monomial_series_same

  pub monomial_other : (c : R) (k i : ℕ) → i ≢ k → (monomial c k).0 i ≡ 𝟘
  unfolding monomial
  monomial_other = monomial_series_other

  pub monomial_times_from : (c : R) (k : ℕ) (f : Polynomial K) (i : ℕ) → (monomial c k *ᵖ f).0 (k + i) ≡ c ⊗ f.0 i
  unfolding monomial
  monomial_times_from c k f i = ap (λ (s : Series K). s (k + i)) (times_series K (monomial c k) f) ∙ monomial_series_times_from c k f.0 i

  pub monomial_times_below : (c : R) (k : ℕ) (f : Polynomial K) (i : ℕ) → i < k → (monomial c k *ᵖ f).0 i ≡ 𝟘
  unfolding monomial
  monomial_times_below c k f i l = ap (λ (s : Series K). s i) (times_series K (monomial c k) f) ∙ monomial_series_times_below c k f.0 i l
