-- Finite sums over a ring, and the entry delta i j of the identity matrix: 1 where i = j, else 0.
use Rattle.std.specs.Prelude.{◌≡◌, ◌≢◌}
use Rattle.std.proofs.Math.Path.{refl, ap, ap₂, fun_ext}
use Rattle.std.proofs.Common.{sym, ◌∙◌, arith}
use Prim.Native.Nat.{ℕ, zero, suc, ◌+◌, ◌≤◌, ◌<◌}
use Rattle.std.proofs.Math.Nat.{add-zero, add-suc}
use Rattle.std.proofs.Math.Decide.{ℕ_discrete}
use Rattle.algebra.specs.Choice.{choose, choose_yes, choose_no}
use Rattle.algebra.specs.Ring.{Ring, plus_associative, plus_commutative, plus_left_commutative, times_commutative, zero_plus, plus_zero, one_times, times_plus, times_zero, zero_times, minus_zero, minus_of_plus}

module _ {R : Type 0} (K : Ring R) where
  open K use {plus as ◌⊕◌, times as ◌⊗◌, minus as ⊖◌, zero as 𝟘, one as 𝟙}

  infixl 60 ◌⊕◌
  infixl 70 ◌⊗◌
  infix 80 ⊖◌
  -- f 0 + .. + f (n-1)
  unfoldable pub sum : (ℕ → R) → ℕ → R
  sum f zero = 𝟘
  sum f (suc n) = sum f n ⊕ f n

  pub sum_nil : (f : ℕ → R) → sum f zero ≡ 𝟘
  unfolding sum
  sum_nil f = refl

  pub sum_suc : (f : ℕ → R) (n : ℕ) → sum f (suc n) ≡ sum f n ⊕ f n
  unfolding sum
  sum_suc f n = refl

  pub sum_equal : (f g : ℕ → R) (n : ℕ) → ((i : ℕ) → i < n → f i ≡ g i) → sum f n ≡ sum g n
  unfolding sum
  sum_equal f g zero h = refl
  sum_equal f g (suc n) h = ap₂ ◌⊕◌ (sum_equal f g n (λ i l. h i (omega arith))) (h n (omega arith))

  pub sum_of_zero : (n : ℕ) → sum (λ i. 𝟘) n ≡ 𝟘
  sum_of_zero zero = sum_nil _
  sum_of_zero (suc n) = rw (sum_suc, sum_of_zero n) (plus_zero K 𝟘)

  pub sum_of_zeros : (f : ℕ → R) (n : ℕ) → ((i : ℕ) → i < n → f i ≡ 𝟘) → sum f n ≡ 𝟘
  sum_of_zeros f n h = sum_equal f (λ i. 𝟘) n h ∙ sum_of_zero n

  pub sum_of_plus : (f g : ℕ → R) (n : ℕ) → sum (λ i. f i ⊕ g i) n ≡ sum f n ⊕ sum g n
  sum_of_plus f g zero = simp (sum_nil, plus_zero)
  sum_of_plus f g (suc n) = simp (sum_suc, sum_of_plus f g n, plus_associative, plus_commutative, plus_left_commutative)

  pub sum_times_left : (c : R) (f : ℕ → R) (n : ℕ) → sum (λ i. c ⊗ f i) n ≡ c ⊗ sum f n
  sum_times_left c f zero = simp (sum_nil, times_zero)
  sum_times_left c f (suc n) = simp (sum_suc, sum_times_left c f n, times_plus)

  pub sum_times_right : (f : ℕ → R) (c : R) (n : ℕ) → sum (λ i. f i ⊗ c) n ≡ sum f n ⊗ c
  sum_times_right f c n = ap (λ g. sum g n) (fun_ext (λ i. times_commutative K (f i) c)) ∙ sum_times_left c f n ∙ times_commutative K _ _

  pub sum_of_minus : (f : ℕ → R) (n : ℕ) → sum (λ i. ⊖ (f i)) n ≡ ⊖ (sum f n)
  sum_of_minus f zero = simp (sum_nil, minus_zero)
  sum_of_minus f (suc n) = simp (sum_suc, sum_of_minus f n, minus_of_plus)

  pub sum_swap : (f : ℕ → ℕ → R) (n m : ℕ) → sum (λ i. sum (λ j. f i j) m) n ≡ sum (λ j. sum (λ i. f i j) n) m
  sum_swap f zero m = simp (sum_nil, sum_of_zero)
  sum_swap f (suc n) m = simp (sum_suc, sum_swap f n m) (sym (sum_of_plus (λ j. sum (λ i. f i j) n) (f n) m))

  pub sum_front : (f : ℕ → R) (n : ℕ) → sum f (suc n) ≡ f zero ⊕ sum (λ i. f (suc i)) n
  unfolding sum
  sum_front f zero = plus_commutative K _ _
  sum_front f (suc n) = ap (λ x. x ⊕ f (suc n)) (sum_front f n) ∙ plus_associative K _ _ _

  pub sum_split : (f : ℕ → R) (n m : ℕ) → sum f (n + m) ≡ sum f n ⊕ sum (λ i. f (n + i)) m
  unfolding sum
  sum_split f n zero = rw add-zero (sym (plus_zero K _))
  sum_split f n (suc m) = rw add-suc (ap (λ x. x ⊕ f (n + m)) (sum_split f n m) ∙ plus_associative K _ _ _)

  -- one where the two numbers are equal, else zero
  pub delta : ℕ → ℕ → R
  delta i j = choose (ℕ_discrete i j) 𝟙 𝟘

  pub delta_same : (i : ℕ) → delta i i ≡ 𝟙
  unfolding delta
  delta_same i = choose_yes (ℕ_discrete i i) 𝟙 𝟘 refl

  pub delta_other : (i j : ℕ) → i ≢ j → delta i j ≡ 𝟘
  unfolding delta
  delta_other i j h = choose_no (ℕ_discrete i j) 𝟙 𝟘 h

  pub delta_symmetric : (i j : ℕ) → delta i j ≡ delta j i
  delta_symmetric i j = elim (ℕ_discrete i j) [ yes e ↦ rw e | no h ↦ delta_other i j h ∙ sym (delta_other j i (λ e. h (sym e))) ]

  pub sum_of_delta_outside : (k : ℕ) (f : ℕ → R) (n : ℕ) → n ≤ k → sum (λ i. delta k i ⊗ f i) n ≡ 𝟘
  sum_of_delta_outside k f n l = sum_of_zeros (λ i. delta k i ⊗ f i) n (λ i h. rw (delta_other k i (omega arith)) (zero_times K (f i)))

  sum_of_delta_step : (k : ℕ) (f : ℕ → R) (n : ℕ) → (k < n → sum (λ i. delta k i ⊗ f i) n ≡ f k) → k < suc n → Dec (k ≡ n) → sum (λ i. delta k i ⊗ f i) n ⊕ delta k n ⊗ f n ≡ f k
  sum_of_delta_step k f n ih l (yes e) = rw (sum_of_delta_outside k f n (omega arith), e, delta_same, one_times) (zero_plus K (f n))
  sum_of_delta_step k f n ih l (no h) = rw (ih (omega arith), delta_other k n h, zero_times) (plus_zero K (f k))

  pub sum_of_delta : (k : ℕ) (f : ℕ → R) (n : ℕ) → k < n → sum (λ i. delta k i ⊗ f i) n ≡ f k
  unfolding sum
  sum_of_delta k f zero l = absurd (omega arith)
  sum_of_delta k f (suc n) l = sum_of_delta_step k f n (sum_of_delta k f n) l (ℕ_discrete k n)
