-- The definitions' formulas modulo p as matrices over F_p and over F_p[X]: products, E and D are those of algebra (XE-A: proofs/Rings).
use Rattle.std.proofs.Math.Path.{◌≡◌, refl, sym, ap, ap₂, fun_ext}
use Rattle.std.proofs.Common.{◌∙◌, subst, eqb→eq}
use Rattle.std.specs.Prelude.{◌≢◌, Bool, T, eqb}
use Rattle.std.proofs.Math.Bool.{true, false, cond}
use Prim.Native.Nat.{ℕ, zero, suc, ◌≤◌, ◌<◌}
use Rattle.std.proofs.Math.Decide.{ℕ_discrete}
use Rattle.std.proofs.Math.Dec.{eqb_refl, eqb-suc-zero}
use Rattle.algebra.specs.Ring.{Ring, zero_times, one_times}
use Rattle.algebra.specs.Sum.{sum, sum_nil, sum_suc, sum_equal, delta, delta_same, delta_other}
use Rattle.algebra.specs.Matrix.{Matrix, Within, matrix_equal, restrict, restrict_inside, restrict_within, restrict_equal, identity, identity_inside, identity_within, product, product_at, product_within}
use Rattle.algebra.specs.Shapes.{diagonal, diagonal_inside, diagonal_within}
use Rattle.algebra.specs.Series.{Series, series, constant, cons, times_as_sum}
use Rattle.algebra.specs.Polynomial.{Polynomial, polynomials, polynomial_equal, zero_coefficient, one_series, times_series, sum_coefficient}
use Rattle.algebra.specs.Modular.{Residue, residue, residue_equal, equal_residue, residue_plus, residue_times, residue_zero, residue_one, modulo}
use Rattle.forms.specs.Numbers.{total}
use Rattle.forms.specs.Tests.{cond_holds, cond_fails}
use Rattle.forms.specs.Polynomials.{Coefficients, convolution}
use Rattle.forms.specs.Matrices.{Entries, PolynomialEntries, unit, polynomial_unit, diagonal_matrix, field_product, polynomial_product}
use Rattle.forms.specs.Words.{FieldEqual, PolynomialEqual}

cond_equal : {A : Type 0} (i j : ℕ) (x y : A) → i ≡ j → cond (eqb i j) x y ≡ x
cond_equal i j x y e = cond_holds (eqb i j) x y (subst (λ (z : ℕ). T (eqb i z)) e (eqb_refl i))

cond_other : {A : Type 0} (i j : ℕ) (x y : A) → i ≢ j → cond (eqb i j) x y ≡ y
cond_other i j x y h = cond_fails (eqb i j) x y (λ t. h (eqb→eq i j t))

module _ (p : ℕ) where
  abbrev K : Ring (Residue p)
  K = modulo p

  abbrev L : Ring (Polynomial K)
  L = polynomials K

  open K use {plus as ◌⊕◌, times as ◌⊗◌, minus as ⊖◌, zero as 𝟘, one as 𝟙}

  infixl 60 ◌⊕◌
  infixl 70 ◌⊗◌
  infix 80 ⊖◌
  pub total_residue : (n : ℕ) (f : ℕ → ℕ) → residue p (total n f) ≡ sum K (λ i. residue p (f i)) n
  unfolding total
  total_residue zero f = residue_zero p ∙ sym (sum_nil K _)
  total_residue (suc n) f = residue_plus p _ _ ∙ ap (λ x. x ⊕ residue p (f n)) (total_residue n f) ∙ sym (sum_suc K _ n)

  -- a matrix of numbers, as one of order n over F_p
  pub field : ℕ → Entries → Matrix K
  field n A = restrict K n (λ i j. residue p (A i j))

  pub field_within : (n : ℕ) (A : Entries) → Within K n (field n A)
  unfolding field
  field_within n A = restrict_within K n _

  pub field_inside : (n : ℕ) (A : Entries) (i j : ℕ) → i < n → j < n → field n A i j ≡ residue p (A i j)
  unfolding field
  field_inside n A i j l g = restrict_inside K n _ i j l g

  pub field_of_equal : (n : ℕ) (A B : Entries) → 0 < p → FieldEqual p n A B → field n A ≡ field n B
  unfolding field
  field_of_equal n A B h e = restrict_equal K n _ _ (λ i j l g. residue_equal p (A i j) (B i j) h (e i j l g))

  pub equal_of_field : (n : ℕ) (A B : Entries) → 0 < p → field n A ≡ field n B → FieldEqual p n A B
  equal_of_field n A B h e i j l g = equal_residue p (A i j) (B i j) h (sym (field_inside n A i j l g) ∙ ap (λ (M : Matrix K). M i j) e ∙ field_inside n B i j l g)

  pub field_of_product : (n : ℕ) (A B : Entries) → field n (field_product n A B) ≡ product K n (field n A) (field n B)
  unfolding field_product
  field_of_product n A B = matrix_equal K n _ _ (field_within n _) (product_within K n _ _ (field_within n A) (field_within n B)) (λ i j l g.
      field_inside n _ i j l g ∙ total_residue n _
      ∙ sum_equal K _ _ n (λ k q. residue_times p (A i k) (B k j) ∙ sym (ap₂ ◌⊗◌ (field_inside n A i k l q) (field_inside n B k j q g)))
      ∙ sym (product_at K n _ _ i j))

  unit_residue : (i j : ℕ) → residue p (unit i j) ≡ delta K i j
  unfolding unit
  unit_residue i j = elim (ℕ_discrete i j) [
    | yes e ↦ ap (residue p) (cond_equal i j 1 0 e) ∙ residue_one p ∙ sym (ap (λ (x : ℕ). delta K x j) e ∙ delta_same K j)
    | no h ↦ ap (residue p) (cond_other i j 1 0 h) ∙ residue_zero p ∙ sym (delta_other K i j h)
  ]

  pub field_of_unit : (n : ℕ) → field n unit ≡ identity K n
  field_of_unit n = matrix_equal K n _ _ (field_within n unit) (identity_within K n) (λ i j l g. field_inside n unit i j l g ∙ unit_residue i j ∙ sym (identity_inside K n i j l))

  pub convolution_residue : (f g : Coefficients) (k : ℕ) → residue p (convolution f g k) ≡ (series K).times (λ i. residue p (f i)) (λ i. residue p (g i)) k
  unfolding convolution
  convolution_residue f g k = total_residue (suc k) _ ∙ ap (λ h. sum K h (suc k)) (fun_ext (λ l. residue_times p _ _)) ∙ sym (times_as_sum K _ _ k)

  -- a polynomial of at most d coefficients
  pub polynomial : (d : ℕ) (f : Coefficients) → ((k : ℕ) → d ≤ k → f k ≡ 0) → Polynomial K
  polynomial d f h = ((λ k. residue p (f k)), ∣ (d, λ k l. ap (residue p) (h k l) ∙ residue_zero p) ∣₁)

  pub polynomial_coefficient : (d : ℕ) (f : Coefficients) (h : (k : ℕ) → d ≤ k → f k ≡ 0) (k : ℕ) → (polynomial d f h).0 k ≡ residue p (f k)
  unfolding polynomial
  polynomial_coefficient d f h k = refl

  -- M, of order n over F_p[X], has the coefficients of P modulo p
  pub record Over (n : ℕ) (M : Matrix L) (P : PolynomialEntries) : Type 0 where
    pub within : Within L n M
    pub coefficient : (i j k : ℕ) → i < n → j < n → (M i j).0 k ≡ residue p (P i j k)

  -- entries of at most d coefficients
  pub lift : (n d : ℕ) (P : PolynomialEntries) → ((i j k : ℕ) → d ≤ k → P i j k ≡ 0) → Matrix L
  lift n d P h = restrict L n (λ i j. polynomial d (P i j) (h i j))

  pub lift_over : (n d : ℕ) (P : PolynomialEntries) (h : (i j k : ℕ) → d ≤ k → P i j k ≡ 0) → Over n (lift n d P h) P
  unfolding lift
  lift_over n d P h = record {
    within = restrict_within L n _;
    coefficient = λ i j k l g. ap (λ (f : Polynomial K). f.0 k) (restrict_inside L n _ i j l g) ∙ polynomial_coefficient d (P i j) (h i j) k;
  }

  pub product_over : (n : ℕ) (M N : Matrix L) (P Q : PolynomialEntries) → Over n M P → Over n N Q → Over n (product L n M N) (polynomial_product n P Q)
  unfolding polynomial_product
  product_over n M N P Q a b = record {
    within = product_within L n M N a.within b.within;
    coefficient = λ i j k l g.
        ap (λ (f : Polynomial K). f.0 k) (product_at L n M N i j) ∙ sum_coefficient K (λ m. L.times (M i m) (N m j)) n k
        ∙ sum_equal K _ _ n (λ m q.
        ap (λ (f : Series K). f k) (times_series K (M i m) (N m j))
        ∙ ap₂ (λ (f g : Series K). (series K).times f g k) (fun_ext (λ x. a.coefficient i m x l q)) (fun_ext (λ x. b.coefficient m j x q g))
        ∙ sym (convolution_residue (P i m) (Q m j) k))
        ∙ sym (total_residue n _);
  }

  pub over_equal : (n : ℕ) (M N : Matrix L) (P Q : PolynomialEntries) → 0 < p → Over n M P → Over n N Q → PolynomialEqual p n P Q → M ≡ N
  over_equal n M N P Q h a b e = matrix_equal L n M N a.within b.within (λ i j l g.
      polynomial_equal K (M i j) (N i j) (λ k. a.coefficient i j k l g ∙ residue_equal p _ _ h (e i j k l g) ∙ sym (b.coefficient i j k l g)))

  pub equal_over : (n : ℕ) (M N : Matrix L) (P Q : PolynomialEntries) → 0 < p → Over n M P → Over n N Q → M ≡ N → PolynomialEqual p n P Q
  equal_over n M N P Q h a b e i j k l g = equal_residue p _ _ h (sym (a.coefficient i j k l g) ∙ ap (λ (A : Matrix L). (A i j).0 k) e ∙ b.coefficient i j k l g)

  constant_residue : (x k : ℕ) → constant K (residue p x) k ≡ residue p (cond (eqb k 0) x 0)
  unfolding constant cons
  constant_residue x zero = refl
  constant_residue x (suc k) = sym (ap (λ (b : Bool). residue p (cond b x 0)) (eqb-suc-zero k) ∙ residue_zero p)

  pub delta_coefficient : (i j k : ℕ) → (delta L i j).0 k ≡ residue p (polynomial_unit i j k)
  unfolding polynomial_unit unit
  delta_coefficient i j k = elim (ℕ_discrete i j) [
    | yes e ↦ ap (λ (f : Polynomial K). f.0 k) (ap (λ (x : ℕ). delta L x j) e ∙ delta_same L j) ∙ ap (λ (f : Series K). f k) (one_series K ∙ ap (constant K) (sym (residue_one p)))
        ∙ constant_residue 1 k ∙ ap (λ (x : ℕ). residue p (cond (eqb k 0) x 0)) (sym (cond_equal i j 1 0 e))
    | no h ↦ ap (λ (f : Polynomial K). f.0 k) (delta_other L i j h) ∙ zero_coefficient K k ∙ sym (residue_zero p) ∙ ap (residue p) (sym (same (eqb k 0)))
        ∙ ap (λ (x : ℕ). residue p (cond (eqb k 0) x 0)) (sym (cond_other i j 1 0 h))
  ]
    where
      same : (b : Bool) → ◌≡◌ {A = ℕ} (cond b 0 0) 0
      same true = refl
      same false = refl

  pub unit_over : (n : ℕ) → Over n (identity L n) polynomial_unit
  unit_over n = record {
    within = identity_within L n;
    coefficient = λ i j k l g. ap (λ (f : Polynomial K). f.0 k) (identity_inside L n i j l) ∙ delta_coefficient i j k;
  }

  pub diagonal_over : (n : ℕ) (d : ℕ → Polynomial K) (f : ℕ → Coefficients) → ((i k : ℕ) → i < n → (d i).0 k ≡ residue p (f i k)) → Over n (diagonal L n d) (diagonal_matrix f)
  unfolding diagonal_matrix
  diagonal_over n d f h = record {
    within = diagonal_within L n d;
    coefficient = λ i j k l g. ap (λ (x : Polynomial K). x.0 k) (diagonal_inside L n d i j l g) ∙ elim (ℕ_discrete i j) [
      | yes e ↦ ap (λ (x : Polynomial K). x.0 k) (ap (λ x. L.times x (d i)) (ap (λ (x : ℕ). delta L x j) e ∙ delta_same L j) ∙ one_times L (d i)) ∙ h i k l ∙ ap (residue p) (sym (cond_equal i j (f i k) 0 e))
      | no q ↦ ap (λ (x : Polynomial K). x.0 k) (ap (λ x. L.times x (d i)) (delta_other L i j q) ∙ zero_times L (d i)) ∙ zero_coefficient K k ∙ sym (residue_zero p) ∙ ap (residue p) (sym (cond_other i j (f i k) 0 q))
    ];
  }
