-- The powers A^k of a matrix of order n, and the vector g(A) v for a polynomial g.
use Rattle.std.specs.Prelude.{◌≡◌}
use Rattle.std.proofs.Math.Path.{refl, sym, ap, ap₂, fun_ext}
use Rattle.std.proofs.Common.{◌∙◌, zero-add, suc-add, arith}
use mathlib.Core.HLevel.{Π_prop, Π_set, Σ_prop_path}
use Rattle.std.proofs.Math.Logic.{∥∥₁_elim}
use Prim.Native.Nat.{ℕ, zero, suc, ◌+◌}
use Rattle.algebra.specs.Ring.{Ring, zero_plus, plus_zero, one_times, times_one, times_commutative, times_zero, zero_times}
use Rattle.algebra.specs.Solver.{◌:+◌, ◌:*◌, solve₄, solve₆}
use Rattle.algebra.specs.Sum.{sum, sum_nil, sum_front}
use Rattle.algebra.specs.Matrix.{Matrix, Vector, Within, Upto, identity, identity_within, identity_apply, identity_product, product_identity, product, product_associative, product_within, apply, apply_product, apply_plus, apply_scale, apply_zero, apply_upto}
use Rattle.algebra.specs.Series.{Series, tail, cons}
use Rattle.algebra.specs.Polynomial.{Below, Polynomial, polynomials, polynomial_induction, plus_coefficient, zero_coefficient, scalar, scalar_zero, scalar_one, scalar_times, X, scalar_plus_X_times, cons_below}

module _ {R : Type 0} (K : Ring R) where
  open K use {plus as ◌⊕◌, times as ◌⊗◌, zero as 𝟘, one as 𝟙}

  infixl 60 ◌⊕◌
  infixl 70 ◌⊗◌
  open polynomials K use {plus as ◌+ᵖ◌, times as ◌*ᵖ◌, zero as 0ᵖ, one as 1ᵖ}

  infixl 60 ◌+ᵖ◌
  infixl 70 ◌*ᵖ◌
  unfoldable pub power : ℕ → Matrix K → ℕ → Matrix K
  power n A zero = identity K n
  power n A (suc k) = product K n A (power n A k)

  pub power_zero : (n : ℕ) (A : Matrix K) → power n A 0 ≡ identity K n
  unfolding power
  power_zero n A = refl

  pub power_suc : (n : ℕ) (A : Matrix K) (k : ℕ) → power n A (suc k) ≡ product K n A (power n A k)
  unfolding power
  power_suc n A k = refl

  pub power_within : (n : ℕ) (A : Matrix K) → Within K n A → (k : ℕ) → Within K n (power n A k)
  power_within n A a zero = rw power_zero (identity_within K n)
  power_within n A a (suc k) = rw power_suc (product_within K n A (power n A k) a (power_within n A a k))

  pub power_plus : (n : ℕ) (A : Matrix K) → Within K n A → (j k : ℕ) → power n A (j + k) ≡ product K n (power n A j) (power n A k)
  power_plus n A a zero k = rw (zero-add, power_zero) (sym (identity_product K n (power n A k) (power_within n A a k)))
  power_plus n A a (suc j) k = rw (suc-add, power_suc n A (j + k), power_suc n A j, power_plus n A a j k) (sym (product_associative K n A (power n A j) (power n A k)))

  -- A T = T B carries over to the powers
  pub power_similar : (n : ℕ) (A B T : Matrix K) → Within K n T → product K n A T ≡ product K n T B → (k : ℕ) → product K n (power n A k) T ≡ product K n T (power n B k)
  power_similar n A B T t e zero = rw (power_zero, power_zero) (identity_product K n T t ∙ sym (product_identity K n T t))
  power_similar n A B T t e (suc k) =
      ap (λ (M : Matrix K). product K n M T) (power_suc n A k) ∙ product_associative K n A (power n A k) T
      ∙ ap (product K n A) (power_similar n A B T t e k) ∙ sym (product_associative K n A T (power n B k))
      ∙ ap (λ (M : Matrix K). product K n M (power n B k)) e ∙ product_associative K n T B (power n B k)
      ∙ ap (product K n T) (sym (power_suc n B k))

  pub record Linear (φ : Vector K → Vector K) : Type 0 where
    pub plus : (u v : Vector K) → φ (λ i. u i ⊕ v i) ≡ (λ i. φ u i ⊕ φ v i)
    pub scale : (c : R) (u : Vector K) → φ (λ i. c ⊗ u i) ≡ (λ i. c ⊗ φ u i)

  pub linear_zero : (φ : Vector K → Vector K) → Linear φ → φ (λ i. 𝟘) ≡ (λ i. 𝟘)
  linear_zero φ L = ap φ (fun_ext (λ i. sym (zero_times K 𝟘))) ∙ L.scale 𝟘 (λ i. 𝟘) ∙ fun_ext (λ i. zero_times K _)

  pub linear_sum : (φ : Vector K → Vector K) → Linear φ → (c : ℕ → R) (u : ℕ → Vector K) (d : ℕ) → φ (λ i. sum K (λ k. c k ⊗ u k i) d) ≡ (λ i. sum K (λ k. c k ⊗ φ (u k) i) d)
  unfolding sum
  linear_sum φ L c u zero = linear_zero φ L
  linear_sum φ L c u (suc d) = L.plus _ _ ∙ fun_ext (λ i. ap₂ ◌⊕◌ (ap (λ (w : Vector K). w i) (linear_sum φ L c u d)) (ap (λ (w : Vector K). w i) (L.scale (c d) (u d))))

  pub apply_linear : (n : ℕ) (A : Matrix K) → Linear (apply K n A)
  apply_linear n A = record { plus = apply_plus K n A; scale = apply_scale K n A }

  vector_set : IsSet (Vector K)
  vector_set = Π_set (λ i. K.is_set)

  module _ (n : ℕ) (A : Matrix K) where
    -- f(A) v for f of at most d coefficients: f(0) v + A (f'(A) v)
    act_below : ℕ → Series K → Vector K → Vector K
    act_below zero f v i = 𝟘
    act_below (suc d) f v i = f 0 ⊗ v i ⊕ apply K n A (act_below d (tail K f) v) i

    act_below_cons : (d : ℕ) (c : R) (f : Series K) (v : Vector K) → act_below (suc d) (cons K c f) v ≡ (λ i. c ⊗ v i ⊕ apply K n A (act_below d f v) i)
    unfolding act_below cons
    act_below_cons d c f v = refl

    act_below_zero : (d : ℕ) (f : Series K) (v : Vector K) → Below K 0 f → act_below d f v ≡ (λ i. 𝟘)
    unfolding act_below
    act_below_zero zero f v h = refl
    act_below_zero (suc d) f v h = fun_ext (λ i. ap₂ ◌⊕◌ (ap (λ x. x ⊗ v i) (h 0 (omega arith)) ∙ zero_times K _)
        (ap (λ (w : Vector K). apply K n A w i) (act_below_zero d (tail K f) v (λ k l. h (suc k) (omega arith))) ∙ ap (λ (w : Vector K). w i) (apply_zero K n A)) ∙ zero_plus K 𝟘)

    -- the bound does not matter
    act_below_same : (d e : ℕ) (f : Series K) (v : Vector K) → Below K d f → Below K e f → act_below d f v ≡ act_below e f v
    unfolding act_below
    act_below_same zero e f v h k = sym (act_below_zero e f v h)
    act_below_same (suc d) zero f v h k = act_below_zero (suc d) f v k
    act_below_same (suc d) (suc e) f v h k = ap (λ (w : Vector K). λ i. f 0 ⊗ v i ⊕ apply K n A w i) (act_below_same d e (tail K f) v (λ i l. h (suc i) (omega arith)) (λ i l. k (suc i) (omega arith)))

    abbrev Value : Polynomial K → Vector K → Type 0
    Value f v = (w : Vector K) × ((d : ℕ) → Below K d f.0 → w ≡ act_below d f.0 v)

    value : (f : Polynomial K) (v : Vector K) → Value f v
    value f v = ∥∥₁_elim f.1 one (λ x. (act_below x.0 f.0 v, λ d h. act_below_same x.0 d f.0 v x.1 h))
      where
        one : IsProp (Value f v)
        one a b = Σ_prop_path (λ w. Π_prop (λ d. Π_prop (λ h. vector_set w (act_below d f.0 v)))) {u = a} {v = b}
            (∥∥₁_elim f.1 (vector_set a.0 b.0) (λ x. a.1 x.0 x.1 ∙ sym (b.1 x.0 x.1)))

    -- f(A) v
    pub act : Polynomial K → Vector K → Vector K
    act f v = (value f v).0

    act_is : (d : ℕ) (f : Polynomial K) (v : Vector K) → Below K d f.0 → act f v ≡ act_below d f.0 v
    unfolding act
    act_is d f v h = (value f v).1 d h

    pub act_zero : (v : Vector K) → act 0ᵖ v ≡ (λ i. 𝟘)
    act_zero v = act_is 0 0ᵖ v (λ i l. zero_coefficient K i) ∙ act_below_zero 0 _ v (λ i l. zero_coefficient K i)

    -- (c + X f)(A) v = c v + A (f(A) v)
    pub act_step : (c : R) (f : Polynomial K) (v : Vector K) → act (scalar K c +ᵖ X K *ᵖ f) v ≡ (λ i. c ⊗ v i ⊕ apply K n A (act f v) i)
    act_step c f v = ∥∥₁_elim f.1 (vector_set _ _) (λ x.
        act_is (suc x.0) (scalar K c +ᵖ X K *ᵖ f) v (rw scalar_plus_X_times (cons_below K c x.0 f.0 x.1))
        ∙ ap (λ (g : Series K). act_below (suc x.0) g v) (scalar_plus_X_times K c f)
        ∙ act_below_cons x.0 c f.0 v
        ∙ ap (λ (w : Vector K). λ i. c ⊗ v i ⊕ apply K n A w i) (sym (act_is x.0 f v x.1)))

    act_below_plus : (d : ℕ) (f g : Series K) (v : Vector K) → act_below d (λ k. f k ⊕ g k) v ≡ (λ i. act_below d f v i ⊕ act_below d g v i)
    unfolding act_below
    act_below_plus zero f g v = fun_ext (λ i. sym (zero_plus K 𝟘))
    act_below_plus (suc d) f g v = fun_ext (λ i.
        ap (λ (w : Vector K). (f 0 ⊕ g 0) ⊗ v i ⊕ apply K n A w i) (act_below_plus d (tail K f) (tail K g) v)
        ∙ ap (λ (w : Vector K). (f 0 ⊕ g 0) ⊗ v i ⊕ w i) (apply_plus K n A (act_below d (tail K f) v) (act_below d (tail K g) v))
        ∙ regroup (f 0) (g 0) (v i) (apply K n A (act_below d (tail K f) v) i) (apply K n A (act_below d (tail K g) v) i))
      where
        regroup : (a b c x y : R) → (a ⊕ b) ⊗ c ⊕ (x ⊕ y) ≡ a ⊗ c ⊕ x ⊕ (b ⊗ c ⊕ y)
        regroup a b c x y = solve₆ K (λ a b c x y z. (a :+ b) :* c :+ (x :+ y)) (λ a b c x y z. a :* c :+ x :+ (b :* c :+ y)) refl a b c x y y

    pub act_plus : (f g : Polynomial K) (v : Vector K) → act (f +ᵖ g) v ≡ (λ i. act f v i ⊕ act g v i)
    act_plus f g v = ∥∥₁_elim f.1 (vector_set _ _) (λ x. ∥∥₁_elim g.1 (vector_set _ _) (λ y.
        let d = x.0 + y.0 in
        let hf : Below K d f.0 = λ i l. x.1 i (omega arith) in
        let hg : Below K d g.0 = λ i l. y.1 i (omega arith) in
        act_is d (f +ᵖ g) v (λ i l. plus_coefficient K f g i ∙ ap₂ ◌⊕◌ (hf i l) (hg i l) ∙ zero_plus K 𝟘)
        ∙ ap (λ (s : Series K). act_below d s v) (fun_ext (plus_coefficient K f g))
        ∙ act_below_plus d f.0 g.0 v
        ∙ sym (ap₂ (λ (a b : Vector K). λ i. a i ⊕ b i) (act_is d f v hf) (act_is d g v hg))))

    pub act_scalar_times : (c : R) (f : Polynomial K) (v : Vector K) → act (scalar K c *ᵖ f) v ≡ (λ i. c ⊗ act f v i)
    act_scalar_times c f v = polynomial_induction K (λ f. act (scalar K c *ᵖ f) v ≡ (λ i. c ⊗ act f v i)) (λ f. vector_set _ _)
        (rw (times_zero, act_zero) (fun_ext (λ i. sym (times_zero K c))))
        (λ k f h.
        ap (λ g. act g v) (
        solve₄ (polynomials K) (λ c k x f. c :* (k :+ x :* f)) (λ c k x f. c :* k :+ x :* (c :* f)) refl (scalar K c) (scalar K k) (X K) f
        ∙ ap (λ g. g +ᵖ X K *ᵖ (scalar K c *ᵖ f)) (sym (scalar_times K c k)))
        ∙ act_step (c ⊗ k) (scalar K c *ᵖ f) v
        ∙ fun_ext (λ i.
        ap (λ (w : Vector K). c ⊗ k ⊗ v i ⊕ apply K n A w i) h
        ∙ ap (λ (w : Vector K). c ⊗ k ⊗ v i ⊕ w i) (apply_scale K n A c (act f v))
        ∙ solve₄ K (λ c k v x. c :* k :* v :+ c :* x) (λ c k v x. c :* (k :* v :+ x)) refl c k (v i) (apply K n A (act f v) i)
        ∙ ap (λ (w : Vector K). c ⊗ w i) (sym (act_step k f v)))) f

    pub act_X_times : (f : Polynomial K) (v : Vector K) → act (X K *ᵖ f) v ≡ apply K n A (act f v)
    act_X_times f v =
        ap (λ g. act g v) (sym (zero_plus (polynomials K) (X K *ᵖ f)) ∙ ap (λ z. z +ᵖ X K *ᵖ f) (sym (scalar_zero K)))
        ∙ act_step 𝟘 f v ∙ fun_ext (λ i. ap (λ x. x ⊕ apply K n A (act f v) i) (zero_times K (v i)) ∙ zero_plus K _)

    pub act_one : (v : Vector K) → act 1ᵖ v ≡ v
    act_one v =
        ap (λ g. act g v) (sym (plus_zero (polynomials K) 1ᵖ) ∙ ap₂ ◌+ᵖ◌ (sym (scalar_one K)) (sym (times_zero (polynomials K) (X K))))
        ∙ act_step 𝟙 0ᵖ v
        ∙ fun_ext (λ i. ap₂ ◌⊕◌ (one_times K (v i)) (ap (λ (w : Vector K). apply K n A w i) (act_zero v) ∙ ap (λ (w : Vector K). w i) (apply_zero K n A)) ∙ plus_zero K (v i))

    pub act_X : (v : Vector K) → act (X K) v ≡ apply K n A v
    act_X v = ap (λ g. act g v) (sym (times_one (polynomials K) (X K))) ∙ act_X_times 1ᵖ v ∙ ap (apply K n A) (act_one v)

    pub act_scalar : (c : R) (v : Vector K) → act (scalar K c) v ≡ (λ i. c ⊗ v i)
    act_scalar c v = ap (λ g. act g v) (sym (times_one (polynomials K) (scalar K c))) ∙ act_scalar_times c 1ᵖ v ∙ ap (λ (w : Vector K). λ i. c ⊗ w i) (act_one v)

    -- (f g)(A) v = f(A) (g(A) v)
    pub act_times : (f g : Polynomial K) (v : Vector K) → act (f *ᵖ g) v ≡ act f (act g v)
    act_times f g v = polynomial_induction K (λ f. act (f *ᵖ g) v ≡ act f (act g v)) (λ f. vector_set _ _)
        (ap (λ h. act h v) (zero_times (polynomials K) g) ∙ act_zero v ∙ sym (act_zero (act g v)))
        (λ c f h.
        ap (λ h. act h v) (solve₄ (polynomials K) (λ c x f g. (c :+ x :* f) :* g) (λ c x f g. c :* g :+ x :* (f :* g)) refl (scalar K c) (X K) f g)
        ∙ act_plus (scalar K c *ᵖ g) (X K *ᵖ (f *ᵖ g)) v
        ∙ ap₂ (λ (a b : Vector K). λ i. a i ⊕ b i) (act_scalar_times c g v) (act_X_times (f *ᵖ g) v ∙ ap (apply K n A) h)
        ∙ sym (act_step c f (act g v))) f

    act_of_plus : (f : Polynomial K) (u v : Vector K) → act f (λ i. u i ⊕ v i) ≡ (λ i. act f u i ⊕ act f v i)
    act_of_plus f u v = polynomial_induction K (λ f. act f (λ i. u i ⊕ v i) ≡ (λ i. act f u i ⊕ act f v i)) (λ f. vector_set _ _)
        (act_zero _ ∙ fun_ext (λ i. sym (zero_plus K 𝟘)) ∙ sym (ap₂ (λ (a b : Vector K). λ i. a i ⊕ b i) (act_zero u) (act_zero v)))
        (λ c f h.
        act_step c f (λ i. u i ⊕ v i)
        ∙ fun_ext (λ i.
        ap (λ (w : Vector K). c ⊗ (u i ⊕ v i) ⊕ apply K n A w i) h
        ∙ ap (λ (w : Vector K). c ⊗ (u i ⊕ v i) ⊕ w i) (apply_plus K n A (act f u) (act f v))
        ∙ regroup c (u i) (v i) (apply K n A (act f u) i) (apply K n A (act f v) i))
        ∙ sym (ap₂ (λ (a b : Vector K). λ i. a i ⊕ b i) (act_step c f u) (act_step c f v))) f
      where
        regroup : (c a b x y : R) → c ⊗ (a ⊕ b) ⊕ (x ⊕ y) ≡ c ⊗ a ⊕ x ⊕ (c ⊗ b ⊕ y)
        regroup c a b x y = solve₆ K (λ c a b x y z. c :* (a :+ b) :+ (x :+ y)) (λ c a b x y z. c :* a :+ x :+ (c :* b :+ y)) refl c a b x y y

    act_of_scale : (f : Polynomial K) (c : R) (v : Vector K) → act f (λ i. c ⊗ v i) ≡ (λ i. c ⊗ act f v i)
    act_of_scale f c v = ap (act f) (sym (act_scalar c v)) ∙ sym (act_times f (scalar K c) v) ∙ ap (λ g. act g v) (times_commutative (polynomials K) f (scalar K c)) ∙ act_scalar_times c f v

    pub act_linear : (f : Polynomial K) → Linear (act f)
    act_linear f = record { plus = act_of_plus f; scale = act_of_scale f }

    pub act_upto : Within K n A → (f : Polynomial K) (v : Vector K) → Upto K n v → Upto K n (act f v)
    act_upto a f v h = polynomial_induction K (λ f. Upto K n (act f v)) (λ f. Π_prop (λ i. Π_prop (λ l. K.is_set (act f v i) 𝟘)))
        (rw act_zero (λ i l. refl))
        (λ c f k i l. ap (λ (w : Vector K). w i) (act_step c f v) ∙ ap₂ ◌⊕◌ (ap (λ x. c ⊗ x) (h i l) ∙ times_zero K c) (apply_upto K n A (act f v) a i l) ∙ zero_plus K 𝟘) f

    act_below_as_sum : Within K n A → (v : Vector K) → Upto K n v → (d : ℕ) (f : Series K) → act_below d f v ≡ (λ i. sum K (λ k. f k ⊗ apply K n (power n A k) v i) d)
    unfolding act_below
    act_below_as_sum a v h zero f = fun_ext (λ i. sym (sum_nil K _))
    act_below_as_sum a v h (suc d) f = fun_ext (λ i.
        ap₂ ◌⊕◌ (ap (λ (w : Vector K). f 0 ⊗ w i) (sym (ap (λ (M : Matrix K). apply K n M v) (power_zero n A) ∙ identity_apply K n v h)))
        (ap (λ (w : Vector K). apply K n A w i) (act_below_as_sum a v h d (tail K f))
        ∙ ap (λ (w : Vector K). w i) (linear_sum (apply K n A) (apply_linear n A) (tail K f) (λ k. apply K n (power n A k) v) d)
        ∙ ap (λ s. sum K s d) (fun_ext (λ k. ap (λ (w : Vector K). f (suc k) ⊗ w i) (sym (ap (λ (M : Matrix K). apply K n M v) (power_suc n A k) ∙ apply_product K n A (power n A k) v)))))
        ∙ sym (sum_front K (λ k. f k ⊗ apply K n (power n A k) v i) d))

    -- f(A) v as the sum of its terms, whatever bound is taken
    pub act_as_sum : Within K n A → (v : Vector K) → Upto K n v → (d : ℕ) (f : Polynomial K) → Below K d f.0 → act f v ≡ (λ i. sum K (λ k. f.0 k ⊗ apply K n (power n A k) v i) d)
    act_as_sum a v h d f l = act_is d f v l ∙ act_below_as_sum a v h d f.0

  -- a linear map that carries B to A carries f(B) to f(A)
  pub act_carried : (n m : ℕ) (A B : Matrix K) (φ : Vector K → Vector K) → Linear φ → ((w : Vector K) → apply K n A (φ w) ≡ φ (apply K m B w)) → (f : Polynomial K) (v : Vector K) → act n A f (φ v) ≡ φ (act m B f v)
  act_carried n m A B φ L e f v = polynomial_induction K (λ f. act n A f (φ v) ≡ φ (act m B f v)) (λ f. vector_set _ _)
      (act_zero n A (φ v) ∙ sym (ap φ (act_zero m B v) ∙ linear_zero φ L))
      (λ c f h.
      act_step n A c f (φ v)
      ∙ fun_ext (λ i. ap (λ (w : Vector K). c ⊗ φ v i ⊕ w i) (ap (apply K n A) h ∙ e (act m B f v)))
      ∙ sym (ap φ (act_step m B c f v) ∙ L.plus (λ i. c ⊗ v i) (apply K m B (act m B f v)) ∙ ap (λ (w : Vector K). λ i. w i ⊕ φ (apply K m B (act m B f v)) i) (L.scale c v))) f

  -- A T = T B gives f(A) (T v) = T (f(B) v)
  pub act_similar : (n : ℕ) (A B T : Matrix K) → product K n A T ≡ product K n T B → (f : Polynomial K) (v : Vector K) → act n A f (apply K n T v) ≡ apply K n T (act n B f v)
  act_similar n A B T e = act_carried n n A B (apply K n T) (apply_linear n T)
      (λ w. sym (apply_product K n A T w) ∙ ap (λ (M : Matrix K). apply K n M w) e ∙ apply_product K n T B w)
