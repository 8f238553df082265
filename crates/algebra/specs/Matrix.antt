-- Matrices and vectors over a ring, as functions of their indices, at every order n. A matrix of order n is zero outside its
-- first n rows and columns, so that equal matrices are equal functions and each law is a plain equation.
use Rattle.std.specs.Prelude.{◌≡◌, ℕ, ◌≤◌, ◌<◌}
use Rattle.std.proofs.Math.Path.{refl, sym, ap, ap₂, fun_ext}
use Rattle.std.proofs.Common.{◌∙◌, arith}
use Rattle.std.proofs.Math.Decide.{dec_lt}
use Rattle.algebra.specs.Choice.{below, below_inside, below_outside}
use Rattle.algebra.specs.Ring.{Ring, zero_plus, times_associative, times_commutative, times_left_commutative, times_plus, plus_times, times_zero, zero_times, times_minus, minus_times}
use Rattle.algebra.specs.Sum.{sum, sum_equal, sum_of_plus, sum_of_minus, sum_times_left, sum_times_right, sum_swap, sum_of_zeros, delta, delta_symmetric, delta_other, sum_of_delta}

module _ {R : Type 0} (K : Ring R) where
  open K use {plus as ◌⊕◌, times as ◌⊗◌, minus as ⊖◌, zero as 𝟘, one as 𝟙}

  infixl 60 ◌⊕◌
  infixl 70 ◌⊗◌
  infix 80 ⊖◌
  abbrev pub Matrix : Type 0
  Matrix = ℕ → ℕ → R

  abbrev pub Vector : Type 0
  Vector = ℕ → R

  -- of order n: zero from row n and column n on
  pub record Within (n : ℕ) (A : Matrix) : Type 0 where
    pub rows : (i j : ℕ) → n ≤ i → A i j ≡ 𝟘
    pub columns : (i j : ℕ) → n ≤ j → A i j ≡ 𝟘

  -- of n entries: zero from entry n on
  abbrev pub Upto : ℕ → Vector → Type 0
  Upto n u = (i : ℕ) → n ≤ i → u i ≡ 𝟘

  pub vector_equal : (n : ℕ) (u v : Vector) → Upto n u → Upto n v → ((i : ℕ) → i < n → u i ≡ v i) → u ≡ v
  vector_equal n u v a b h = fun_ext (λ i. elim (dec_lt i n) [ yes l ↦ h i l | no l ↦ a i (omega arith) ∙ sym (b i (omega arith)) ])

  pub matrix_equal : (n : ℕ) (A B : Matrix) → Within n A → Within n B → ((i j : ℕ) → i < n → j < n → A i j ≡ B i j) → A ≡ B
  matrix_equal n A B a b h = fun_ext (λ i. elim (dec_lt i n) [
    | yes l ↦ vector_equal n (A i) (B i) (λ j. a.columns i j) (λ j. b.columns i j) (λ j. h i j l)
    | no l ↦ fun_ext (λ j. a.rows i j (omega arith) ∙ sym (b.rows i j (omega arith)))
  ])

  -- A restricted to order n
  unfoldable pub restrict : ℕ → Matrix → Matrix
  restrict n A i j = below n i (below n j (A i j) 𝟘) 𝟘

  pub restrict_inside : (n : ℕ) (A : Matrix) (i j : ℕ) → i < n → j < n → restrict n A i j ≡ A i j
  unfolding restrict
  restrict_inside n A i j l g = below_inside n i _ 𝟘 l ∙ below_inside n j _ 𝟘 g

  pub restrict_within : (n : ℕ) (A : Matrix) → Within n (restrict n A)
  unfolding restrict
  restrict_within n A = record {
    rows = λ i j l. below_outside n i _ 𝟘 l;
    columns = λ i j l. elim (dec_lt i n) [ yes h ↦ below_inside n i _ 𝟘 h ∙ below_outside n j _ 𝟘 l | no h ↦ below_outside n i _ 𝟘 (omega arith) ];
  }

  -- equal inside is equal as restricted
  pub restrict_equal : (n : ℕ) (A B : Matrix) → ((i j : ℕ) → i < n → j < n → A i j ≡ B i j) → restrict n A ≡ restrict n B
  restrict_equal n A B h = matrix_equal n _ _ (restrict_within n A) (restrict_within n B)
      (λ i j l g. restrict_inside n A i j l g ∙ h i j l g ∙ sym (restrict_inside n B i j l g))

  unfoldable pub identity : ℕ → Matrix
  identity n = restrict n (delta K)

  pub identity_inside : (n i j : ℕ) → i < n → identity n i j ≡ delta K i j
  unfolding identity
  identity_inside n i j l = elim (dec_lt j n) [
    | yes g ↦ restrict_inside n (delta K) i j l g
    | no g ↦ (restrict_within n (delta K)).columns i j (omega arith) ∙ sym (delta_other K i j (omega arith))
  ]

  pub identity_within : (n : ℕ) → Within n (identity n)
  unfolding identity
  identity_within n = restrict_within n (delta K)

  unfoldable pub matrix_zero : Matrix
  matrix_zero i j = 𝟘

  unfoldable pub matrix_plus : Matrix → Matrix → Matrix
  matrix_plus A B i j = A i j ⊕ B i j

  unfoldable pub matrix_minus : Matrix → Matrix
  matrix_minus A i j = ⊖ (A i j)

  unfoldable pub scale : R → Matrix → Matrix
  scale c A i j = c ⊗ A i j

  -- A B, A u and v A at order n
  unfoldable pub product : ℕ → Matrix → Matrix → Matrix
  product n A B i j = sum K (λ k. A i k ⊗ B k j) n

  unfoldable pub apply : ℕ → Matrix → Vector → Vector
  apply n A u i = sum K (λ k. A i k ⊗ u k) n

  unfoldable pub combine : ℕ → Vector → Matrix → Vector
  combine n v A j = sum K (λ k. v k ⊗ A k j) n

  -- v · u, the sum of the first n products of entries
  unfoldable pub inner : ℕ → Vector → Vector → R
  inner n v u = sum K (λ k. v k ⊗ u k) n

  pub product_at : (n : ℕ) (A B : Matrix) (i j : ℕ) → product n A B i j ≡ sum K (λ k. A i k ⊗ B k j) n
  unfolding product
  product_at n A B i j = refl

  pub apply_at : (n : ℕ) (A : Matrix) (u : Vector) (i : ℕ) → apply n A u i ≡ sum K (λ k. A i k ⊗ u k) n
  unfolding apply
  apply_at n A u i = refl

  pub inner_at : (n : ℕ) (v u : Vector) → inner n v u ≡ sum K (λ k. v k ⊗ u k) n
  unfolding inner
  inner_at n v u = refl

  -- a matrix's column is carried by itself, so what is said of vectors is said of products
  pub product_column : (n : ℕ) (A B : Matrix) (i j : ℕ) → product n A B i j ≡ apply n A (λ k. B k j) i
  unfolding product apply
  product_column n A B i j = refl

  pub product_row : (n : ℕ) (A B : Matrix) (i j : ℕ) → product n A B i j ≡ combine n (A i) B j
  unfolding product combine
  product_row n A B i j = refl

  pub apply_equal : (n : ℕ) (A : Matrix) (u v : Vector) → ((i : ℕ) → i < n → u i ≡ v i) → apply n A u ≡ apply n A v
  unfolding apply
  apply_equal n A u v h = fun_ext (λ i. sum_equal K _ _ n (λ k l. ap (λ x. A i k ⊗ x) (h k l)))

  pub apply_product : (n : ℕ) (A B : Matrix) (u : Vector) → apply n (product n A B) u ≡ apply n A (apply n B u)
  unfolding product apply
  apply_product n A B u = fun_ext (λ i.
      ap (λ f. sum K f n) (fun_ext (λ k. sym (sum_times_right K (λ l. A i l ⊗ B l k) (u k) n) ∙ ap (λ f. sum K f n) (fun_ext (λ l. times_associative K _ _ _))))
      ∙ sum_swap K (λ k l. A i l ⊗ (B l k ⊗ u k)) n n
      ∙ ap (λ f. sum K f n) (fun_ext (λ l. sum_times_left K (A i l) (λ k. B l k ⊗ u k) n)))

  pub product_associative : (n : ℕ) (A B C : Matrix) → product n (product n A B) C ≡ product n A (product n B C)
  product_associative n A B C = fun_ext (λ i. fun_ext (λ j.
      product_column n (product n A B) C i j
      ∙ ap (λ (w : Vector). w i) (apply_product n A B (λ k. C k j))
      ∙ ap (λ (w : Vector). apply n A w i) (fun_ext (λ k. sym (product_column n B C k j)))
      ∙ sym (product_column n A (product n B C) i j)))

  pub apply_plus : (n : ℕ) (A : Matrix) (u v : Vector) → apply n A (λ k. u k ⊕ v k) ≡ (λ i. apply n A u i ⊕ apply n A v i)
  unfolding apply
  apply_plus n A u v = fun_ext (λ i. ap (λ f. sum K f n) (fun_ext (λ k. times_plus K _ _ _)) ∙ sum_of_plus K _ _ n)

  pub apply_scale : (n : ℕ) (A : Matrix) (c : R) (u : Vector) → apply n A (λ k. c ⊗ u k) ≡ (λ i. c ⊗ apply n A u i)
  unfolding apply
  apply_scale n A c u = fun_ext (λ i. ap (λ f. sum K f n) (fun_ext (λ k. times_left_commutative K _ _ _)) ∙ sum_times_left K c _ n)

  pub apply_zero : (n : ℕ) (A : Matrix) → apply n A (λ k. 𝟘) ≡ (λ i. 𝟘)
  unfolding apply
  apply_zero n A = fun_ext (λ i. sum_of_zeros K _ n (λ k l. times_zero K _))

  pub product_plus : (n : ℕ) (A B C : Matrix) → product n A (matrix_plus B C) ≡ matrix_plus (product n A B) (product n A C)
  unfolding product matrix_plus
  product_plus n A B C = fun_ext (λ i. fun_ext (λ j. ap (λ f. sum K f n) (fun_ext (λ k. times_plus K _ _ _)) ∙ sum_of_plus K _ _ n))

  pub plus_product : (n : ℕ) (A B C : Matrix) → product n (matrix_plus A B) C ≡ matrix_plus (product n A C) (product n B C)
  unfolding product matrix_plus
  plus_product n A B C = fun_ext (λ i. fun_ext (λ j. ap (λ f. sum K f n) (fun_ext (λ k. plus_times K _ _ _)) ∙ sum_of_plus K _ _ n))

  pub product_minus : (n : ℕ) (A B : Matrix) → product n A (matrix_minus B) ≡ matrix_minus (product n A B)
  unfolding product matrix_minus
  product_minus n A B = fun_ext (λ i. fun_ext (λ j. ap (λ f. sum K f n) (fun_ext (λ k. times_minus K _ _)) ∙ sum_of_minus K _ n))

  pub minus_product : (n : ℕ) (A B : Matrix) → product n (matrix_minus A) B ≡ matrix_minus (product n A B)
  unfolding product matrix_minus
  minus_product n A B = fun_ext (λ i. fun_ext (λ j. ap (λ f. sum K f n) (fun_ext (λ k. minus_times K _ _)) ∙ sum_of_minus K _ n))

  pub product_scale : (n : ℕ) (c : R) (A B : Matrix) → product n A (scale c B) ≡ scale c (product n A B)
  unfolding product scale
  product_scale n c A B = fun_ext (λ i. fun_ext (λ j. ap (λ f. sum K f n) (fun_ext (λ k. times_left_commutative K _ _ _)) ∙ sum_times_left K c _ n))

  pub scale_product : (n : ℕ) (c : R) (A B : Matrix) → product n (scale c A) B ≡ scale c (product n A B)
  unfolding product scale
  scale_product n c A B = fun_ext (λ i. fun_ext (λ j. ap (λ f. sum K f n) (fun_ext (λ k. times_associative K _ _ _)) ∙ sum_times_left K c _ n))

  pub product_within : (n : ℕ) (A B : Matrix) → Within n A → Within n B → Within n (product n A B)
  unfolding product
  product_within n A B a b = record {
    rows = λ i j l. sum_of_zeros K _ n (λ k h. ap (λ x. x ⊗ B k j) (a.rows i k l) ∙ zero_times K _);
    columns = λ i j l. sum_of_zeros K _ n (λ k h. ap (λ x. A i k ⊗ x) (b.columns k j l) ∙ times_zero K _);
  }

  pub apply_upto : (n : ℕ) (A : Matrix) (u : Vector) → Within n A → Upto n (apply n A u)
  unfolding apply
  apply_upto n A u a i l = sum_of_zeros K _ n (λ k h. ap (λ x. x ⊗ u k) (a.rows i k l) ∙ zero_times K _)

  pub matrix_plus_within : (n : ℕ) (A B : Matrix) → Within n A → Within n B → Within n (matrix_plus A B)
  unfolding matrix_plus
  matrix_plus_within n A B a b = record {
    rows = λ i j l. ap₂ ◌⊕◌ (a.rows i j l) (b.rows i j l) ∙ zero_plus K 𝟘;
    columns = λ i j l. ap₂ ◌⊕◌ (a.columns i j l) (b.columns i j l) ∙ zero_plus K 𝟘;
  }

  pub identity_apply_inside : (n : ℕ) (u : Vector) (i : ℕ) → i < n → apply n (identity n) u i ≡ u i
  unfolding apply
  identity_apply_inside n u i l = sum_equal K _ (λ k. delta K i k ⊗ u k) n (λ k g. ap (λ x. x ⊗ u k) (identity_inside n i k l)) ∙ sum_of_delta K i u n l

  pub identity_apply : (n : ℕ) (u : Vector) → Upto n u → apply n (identity n) u ≡ u
  identity_apply n u h = vector_equal n _ u (apply_upto n (identity n) u (identity_within n)) h (identity_apply_inside n u)

  pub identity_product : (n : ℕ) (A : Matrix) → Within n A → product n (identity n) A ≡ A
  identity_product n A a = matrix_equal n _ A (product_within n _ A (identity_within n) a) a
      (λ i j l g. product_column n (identity n) A i j ∙ identity_apply_inside n (λ k. A k j) i l)

  pub product_identity : (n : ℕ) (A : Matrix) → Within n A → product n A (identity n) ≡ A
  unfolding product
  product_identity n A a = matrix_equal n _ A (product_within n A _ a (identity_within n)) a (λ i j l g.
      sum_equal K _ (λ k. delta K j k ⊗ A i k) n (λ k q. ap (λ x. A i k ⊗ x) (identity_inside n k j q ∙ delta_symmetric K k j) ∙ times_commutative K _ _)
      ∙ sum_of_delta K j (A i) n g)
