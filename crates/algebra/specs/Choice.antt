-- A value chosen by a decided proposition, and functions of an index that are cut off or changed at a place.
use Rattle.std.specs.Prelude.{◌≡◌, ◌≢◌, ℕ, ◌≤◌, ◌<◌}
use Rattle.std.proofs.Math.Path.{refl}
use Rattle.std.proofs.Math.Decide.{ℕ_discrete, dec_lt}
use Rattle.std.proofs.Common.{arith}

module _ {A : Type 0} where
  pub choose : {P : Type 0} → Dec P → A → A → A
  choose (yes e) x y = x
  choose (no h) x y = y

  pub choose_yes : {P : Type 0} (d : Dec P) (x y : A) → P → choose d x y ≡ x
  unfolding choose
  choose_yes (yes e) x y h = refl
  choose_yes (no n) x y h = absurd (n h)

  pub choose_no : {P : Type 0} (d : Dec P) (x y : A) → ¬ P → choose d x y ≡ y
  unfolding choose
  choose_no (yes e) x y h = absurd (h e)
  choose_no (no n) x y h = refl

  -- x at the indices below n, and y from n on
  unfoldable pub below : ℕ → ℕ → A → A → A
  below n i x y = choose (dec_lt i n) x y

  pub below_inside : (n i : ℕ) (x y : A) → i < n → below n i x y ≡ x
  unfolding below
  below_inside n i x y l = choose_yes (dec_lt i n) x y l

  pub below_outside : (n i : ℕ) (x y : A) → n ≤ i → below n i x y ≡ y
  unfolding below
  below_outside n i x y l = choose_no (dec_lt i n) x y (λ h. omega arith)

  -- f, but x at the index n
  unfoldable pub put : ℕ → A → (ℕ → A) → ℕ → A
  put n x f i = choose (ℕ_discrete i n) x (f i)

  pub put_same : (n : ℕ) (x : A) (f : ℕ → A) → put n x f n ≡ x
  unfolding put
  put_same n x f = choose_yes (ℕ_discrete n n) x (f n) refl

  pub put_other : (n : ℕ) (x : A) (f : ℕ → A) (i : ℕ) → i ≢ n → put n x f i ≡ f i
  unfolding put
  put_other n x f i h = choose_no (ℕ_discrete i n) x (f i) h
