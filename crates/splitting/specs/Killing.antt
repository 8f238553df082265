-- Polynomials that kill vectors, f(A) v = 0: the polynomial of a companion block kills the block's vectors, what kills some vectors kills
-- their combinations, and a polynomial that kills the first vector of a companion block is a multiple of the block's polynomial.
use Rattle.std.specs.Prelude.{◌≡◌, ℕ, zero, suc, ◌-◌, ◌≤◌, ◌<◌}
use Rattle.std.proofs.Math.Path.{sym, ap, fun_ext}
use Rattle.std.proofs.Common.{◌∙◌, ap₂, subst, arith}
use Rattle.std.proofs.Math.Decide.{dec_lt}
use Rattle.algebra.specs.Choice.{below, below_inside, below_outside}
use Rattle.algebra.specs.Ring.{Ring, zero_plus, plus_zero, one_times, times_commutative, times_zero, minus_plus, minus_times, zero_times}
use Rattle.algebra.specs.Sum.{sum, sum_suc, sum_equal, sum_of_minus, sum_of_zeros, delta, delta_same, delta_other, delta_symmetric, sum_of_delta, sum_of_delta_outside}
use Rattle.algebra.specs.Matrix.{Matrix, Vector, Within, Upto, product, product_at, apply, apply_product, apply_zero, identity_apply}
use Rattle.algebra.specs.Inverse.{inverse_apply}
use Rattle.algebra.specs.Divides.{Divides}
use Rattle.algebra.specs.Polynomial.{Polynomial, polynomials, polynomial_equal, zero_of_below, Monic}
use Rattle.algebra.specs.Division.{Division, divide_monic}
use Rattle.algebra.specs.Action.{power, power_zero, power_suc, linear_sum, act, act_plus, act_times, act_X, act_linear, act_upto, act_as_sum, act_similar}
use Rattle.basis.specs.Entries.{apply_delta}
use Rattle.basis.specs.Frame.{Frame, In, column}
use Rattle.splitting.specs.Shapes.{CompanionColumns}

module _ {R : Type 0} (K : Ring R) where
  open K use {plus as ◌⊕◌, times as ◌⊗◌, minus as ⊖◌, zero as 𝟘, one as 𝟙}

  infixl 60 ◌⊕◌
  infixl 70 ◌⊗◌
  infix 80 ⊖◌
  -- X^m - c_(m-1) X^(m-1) - .. - c_0
  series_of : ℕ → Vector K → ℕ → R
  series_of m c i = below m i (⊖ (c i)) (delta K m i)

  series_low : (m : ℕ) (c : Vector K) (i : ℕ) → i < m → series_of m c i ≡ ⊖ (c i)
  unfolding series_of
  series_low m c i l = below_inside m i _ _ l

  series_high : (m : ℕ) (c : Vector K) (i : ℕ) → m ≤ i → series_of m c i ≡ delta K m i
  unfolding series_of
  series_high m c i l = below_outside m i _ _ l

  series_monic : (m : ℕ) (c : Vector K) → Monic K m (series_of m c)
  series_monic m c = record { below = λ i l. series_high m c i (omega arith) ∙ delta_other K m i (omega arith); lead = series_high m c m (omega arith) ∙ delta_same K m }

  pub monic_of : ℕ → Vector K → Polynomial K
  monic_of m c = (series_of m c, ∣ (suc m, (series_monic m c).below) ∣₁)

  pub monic_of_low : (m : ℕ) (c : Vector K) (i : ℕ) → i < m → (monic_of m c).0 i ≡ ⊖ (c i)
  unfolding monic_of
  monic_of_low = series_low

  pub monic_of_monic : (m : ℕ) (c : Vector K) → Monic K m (monic_of m c).0
  unfolding monic_of
  monic_of_monic = series_monic

  pub monic_of_equal : (m : ℕ) (c d : Vector K) → ((i : ℕ) → i < m → c i ≡ d i) → monic_of m c ≡ monic_of m d
  unfolding monic_of
  monic_of_equal m c d h = polynomial_equal K _ _ (λ i. elim (dec_lt i m) [
    | yes l ↦ series_low m c i l ∙ ap ⊖◌ (h i l) ∙ sym (series_low m d i l)
    | no l ↦ series_high m c i (omega arith) ∙ sym (series_high m d i (omega arith))
  ])

  -- the polynomial that the last column of the first m says
  abbrev pub corner : ℕ → Matrix K → Polynomial K
  corner m B = monic_of m (λ i. B i (m - 1))

  -- f(A) v = 0
  abbrev pub Kills : ℕ → Matrix K → Polynomial K → Vector K → Type 0
  Kills n A f v = act K n A f v ≡ (λ i. 𝟘)

  pub kills_sum : (n : ℕ) (A : Matrix K) (f : Polynomial K) (d : ℕ) (c : Vector K) (u : ℕ → Vector K) → ((q : ℕ) → q < d → Kills n A f (u q)) → Kills n A f (λ i. sum K (λ q. c q ⊗ u q i) d)
  kills_sum n A f d c u h = linear_sum K (act K n A f) (act_linear K n A f) c u d
      ∙ fun_ext (λ i. sum_of_zeros K _ d (λ q l. ap (λ (w : Vector K). c q ⊗ w i) (h q l) ∙ times_zero K _))

  -- the columns of T M are combinations of those of T
  pub kills_span : (n k : ℕ) (A : Matrix K) (f : Polynomial K) (T M S : Matrix K) → ((i j : ℕ) → j < k → S i j ≡ product K k T M i j) → ((q : ℕ) → q < k → Kills n A f (column K T q)) → (j : ℕ) → j < k → Kills n A f (column K S j)
  kills_span n k A f T M S e h j l = subst (Kills n A f) (fun_ext (λ i. sum_equal K _ _ k (λ q g. times_commutative K _ _) ∙ sym (product_at K k T M i j) ∙ sym (e i j l)))
      (kills_sum n A f k (λ q. M q j) (λ q. column K T q) h)

  pub kills_difference : (n : ℕ) (A : Matrix K) (f : Polynomial K) (u v w : Vector K) → Kills n A f u → Kills n A f v → ((i : ℕ) → w i ≡ u i ⊕ ⊖ 𝟙 ⊗ v i) → Kills n A f w
  kills_difference n A f u v w a b e =
      ap (act K n A f) (fun_ext e) ∙ (act_linear K n A f).plus u (λ i. ⊖ 𝟙 ⊗ v i) ∙ fun_ext (λ i. ap₂ (λ (x y : Vector K). x i ⊕ y i) a ((act_linear K n A f).scale (⊖ 𝟙) v) ∙ ap (λ (y : Vector K). 𝟘 ⊕ ⊖ 𝟙 ⊗ y i) b ∙ zero_plus K _ ∙ times_zero K _)

  pub kills_next : (n : ℕ) (A : Matrix K) (f : Polynomial K) (v : Vector K) → Kills n A f v → Kills n A f (apply K n A v)
  kills_next n A f v h =
      ap (act K n A f) (sym (act_X K n A v)) ∙ sym (act_times K n A f _ v) ∙ ap (λ g. act K n A g v) (times_commutative (polynomials K) f _)
      ∙ act_times K n A _ f v ∙ ap (act K n A _) h ∙ act_X K n A (λ i. 𝟘) ∙ apply_zero K n A

  -- in a frame, T e_q is column q
  pub kills_in_frame : (n : ℕ) (A : Matrix K) (X : Frame K) (f : Polynomial K) (q : ℕ) → q < n → In K n A X → Kills n X.B f (delta K q) → Kills n A f (column K X.T q)
  kills_in_frame n A X f q l s h = ap (act K n A f) (sym (apply_delta K n X.T q l)) ∙ act_similar K n A X.B X.T s.moves f (delta K q) ∙ ap (apply K n X.T) h ∙ apply_zero K n X.T

  -- where A^m v is the combination c of v, .., A^(m-1) v
  pub kills_by_powers : (n m : ℕ) (A : Matrix K) (c v : Vector K) → Within K n A → Upto K n v
      → ((i : ℕ) → apply K n (power K n A m) v i ≡ sum K (λ k. c k ⊗ apply K n (power K n A k) v i) m) → Kills n A (monic_of m c) v
  kills_by_powers n m A c v a h e = act_as_sum K n A a v h (suc m) (monic_of m c) (monic_of_monic m c).below ∙ fun_ext (λ i. sum_suc K _ m
      ∙ ap₂ ◌⊕◌ (sum_equal K _ (λ k. ⊖ (c k ⊗ apply K n (power K n A k) v i)) m (λ k l. ap (λ x. x ⊗ apply K n (power K n A k) v i) (monic_of_low m c k l) ∙ minus_times K _ _) ∙ sum_of_minus K _ m)
      (ap (λ x. x ⊗ apply K n (power K n A m) v i) (monic_of_monic m c).lead ∙ one_times K _ ∙ e i)
      ∙ minus_plus K _)

  module _ (n : ℕ) (B : Matrix K) where
    pub unit_upto : (q : ℕ) → q < n → Upto K n (delta K q)
    unit_upto q l i g = delta_other K q i (omega arith)

    pub power_none : (q : ℕ) → q < n → apply K n (power K n B 0) (delta K q) ≡ delta K q
    power_none q l = ap (λ (M : Matrix K). apply K n M (delta K q)) (power_zero K n B) ∙ identity_apply K n (delta K q) (unit_upto q l)

    pub power_one : (q : ℕ) → q < n → apply K n (power K n B 1) (delta K q) ≡ column K B q
    power_one q l = ap (λ (M : Matrix K). apply K n M (delta K q)) (power_suc K n B 0) ∙ apply_product K n B (power K n B 0) (delta K q) ∙ ap (apply K n B) (power_none q l) ∙ apply_delta K n B q l

  module _ (n m : ℕ) (B : Matrix K) (some : 0 < m) (fits : m ≤ n) (b : Within K n B) (h : CompanionColumns K m B) where
    -- B e_q = e_(q+1)
    next : (q : ℕ) → suc q < m → apply K n B (delta K q) ≡ delta K (suc q)
    next q l = apply_delta K n B q (omega arith) ∙ fun_ext (λ i. h.unit i q l)

    powers : (q : ℕ) → q < m → apply K n (power K n B q) (delta K 0) ≡ delta K q
    powers zero l = power_none n B 0 (omega arith)
    powers (suc q) l = ap (λ (M : Matrix K). apply K n M (delta K 0)) (power_suc K n B q) ∙ apply_product K n B (power K n B q) (delta K 0) ∙ ap (apply K n B) (powers q (omega arith)) ∙ next q l

    power_last : apply K n (power K n B m) (delta K 0) ≡ column K B (m - 1)
    power_last = ap (λ (d : ℕ). apply K n (power K n B d) (delta K 0)) (omega arith) ∙ ap (λ (M : Matrix K). apply K n M (delta K 0)) (power_suc K n B (m - 1))
        ∙ apply_product K n B (power K n B (m - 1)) (delta K 0) ∙ ap (apply K n B) (powers (m - 1) (omega arith)) ∙ apply_delta K n B (m - 1) (omega arith)

    -- a polynomial of m coefficients, at e_0
    low_terms : (f : ℕ → R) (i : ℕ) → sum K (λ k. f k ⊗ apply K n (power K n B k) (delta K 0) i) m ≡ sum K (λ k. delta K i k ⊗ f k) m
    low_terms f i = sum_equal K _ _ m (λ k l. ap (λ (w : Vector K). f k ⊗ w i) (powers k l) ∙ times_commutative K _ _ ∙ ap (λ x. x ⊗ f k) (delta_symmetric K k i))

    low_inside : (f : ℕ → R) (i : ℕ) → i < m → sum K (λ k. f k ⊗ apply K n (power K n B k) (delta K 0) i) m ≡ f i
    low_inside f i l = low_terms f i ∙ sum_of_delta K i f m l

    corner_kills_first : Kills n B (corner m B) (delta K 0)
    corner_kills_first = kills_by_powers n m B (λ i. B i (m - 1)) (delta K 0) b (unit_upto n B 0 (omega arith)) (λ i. ap (λ (w : Vector K). w i) power_last ∙ sym (elim (dec_lt i m) [
      | yes l ↦ low_inside (λ k. B k (m - 1)) i l
      | no l ↦ low_terms (λ k. B k (m - 1)) i ∙ sum_of_delta_outside K i _ m (omega arith) ∙ sym (h.low i (m - 1) (omega arith) (omega arith))
    ]))

    pub corner_kills : (q : ℕ) → q < m → Kills n B (corner m B) (delta K q)
    corner_kills zero l = corner_kills_first
    corner_kills (suc q) l = subst (Kills n B (corner m B)) (next q l) (kills_next n B (corner m B) (delta K q) (corner_kills q (omega arith)))

    -- what kills e_0 is a multiple
    module _ (g : Polynomial K) (kills : Kills n B g (delta K 0)) where
      D : Division K m (corner m B) g
      D = divide_monic K m (corner m B) (monic_of_monic m _) g

      remainder_kills : Kills n B D.remainder (delta K 0)
      remainder_kills =
          fun_ext (λ i. sym (zero_plus K _) ∙ ap (λ x. x ⊕ act K n B D.remainder (delta K 0) i) (sym (ap (λ (w : Vector K). w i) quotient_part)))
          ∙ sym (act_plus K n B _ D.remainder (delta K 0)) ∙ ap (λ f. act K n B f (delta K 0)) (sym D.equation) ∙ kills
        where
          quotient_part : act K n B ((polynomials K).times D.quotient (corner m B)) (delta K 0) ≡ (λ i. 𝟘)
          quotient_part = act_times K n B D.quotient (corner m B) (delta K 0) ∙ ap (act K n B D.quotient) corner_kills_first ∙ act_of_zero D.quotient
            where
              act_of_zero : (f : Polynomial K) → act K n B f (λ i. 𝟘) ≡ (λ i. 𝟘)
              act_of_zero f = ap (act K n B f) (fun_ext (λ i. sym (zero_times K 𝟘))) ∙ (act_linear K n B f).scale 𝟘 (λ i. 𝟘) ∙ fun_ext (λ i. zero_times K _)

      remainder_zero : (i : ℕ) → D.remainder.0 i ≡ 𝟘
      remainder_zero i = elim (dec_lt i m) [
        | yes l ↦ sym (low_inside D.remainder.0 i l) ∙ ap (λ (w : Vector K). w i) (sym (act_as_sum K n B b (delta K 0) (unit_upto n B 0 (omega arith)) m D.remainder D.below) ∙ remainder_kills)
        | no l ↦ D.below i (omega arith)
      ]

      pub corner_divides : Divides (polynomials K) (corner m B) g
      corner_divides = record {
        by = D.quotient;
        is = D.equation ∙ ap (λ r. (polynomials K).plus ((polynomials K).times D.quotient (corner m B)) r) (zero_of_below K D.remainder (λ i l. remainder_zero i)) ∙ plus_zero (polynomials K) _ ∙ times_commutative (polynomials K) _ _;
      }

  -- the same in a frame: T is invertible
  pub kills_out_of_frame : (n : ℕ) (A : Matrix K) (X : Frame K) (f : Polynomial K) (q : ℕ) → q < n → In K n A X → Kills n A f (column K X.T q) → Kills n X.B f (delta K q)
  kills_out_of_frame n A X f q l s h =
      sym (inverse_apply K n X.T X.I _ s.inverse (act_upto K n X.B s.within f (delta K q) (λ i g. delta_other K q i (omega arith))))
      ∙ ap (apply K n X.I) (sym (act_similar K n A X.B X.T s.moves f (delta K q)) ∙ ap (act K n A f) (apply_delta K n X.T q l) ∙ h) ∙ apply_zero K n X.I
