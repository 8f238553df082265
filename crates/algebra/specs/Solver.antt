-- A solver for identities of commutative rings: both sides are written as expressions, and are equal at all values
-- where their normal forms, sorted lists of signed monomials, are the same list. The last test is `refl`.
use Rattle.std.specs.Prelude.{◌≡◌, T}
use Rattle.std.proofs.Math.Path.{refl, sym, ap}
use Rattle.std.proofs.Common.{◌∙◌, subst, eqb→eq}
use mathlib.Core.List.{List, [], ◌∷◌}
use Prim.Native.Nat.{ℕ, compare, Ordering}
use Rattle.std.proofs.Math.Dec.{compare_is_eq}
use Rattle.std.proofs.Math.ListN.{get_or}
use Rattle.algebra.specs.Ring.{Ring, plus_associative, plus_left_commutative, times_associative, times_left_commutative, zero_plus, plus_zero, one_times, times_one, times_plus, plus_times, times_zero, zero_times, minus_plus_left, plus_minus_left, minus_zero, minus_minus, times_minus, minus_times, minus_of_plus}

infixl 60 ◌:+◌
infixl 70 ◌:*◌
infix 80 :-◌
pub data Expression : Type 0 where
  var : ℕ → Expression
  ◌:+◌ : Expression → Expression → Expression
  ◌:*◌ : Expression → Expression → Expression
  :-◌ : Expression → Expression
  :0 : Expression
  :1 : Expression

-- a product of variables, sorted, with its sign
pub data Monomial : Type 0 where
  positive : List ℕ → Monomial
  negative : List ℕ → Monomial

-- the variables, without the sign
abbrev pub variables : Monomial → List ℕ
variables (positive m) = m
variables (negative m) = m

abbrev pub then_order : Ordering → Ordering → Ordering
then_order Ordering.lt o = Ordering.lt
then_order Ordering.eq o = o
then_order Ordering.gt o = Ordering.gt

abbrev pub compare_lists : List ℕ → List ℕ → Ordering
compare_lists [] [] = Ordering.eq
compare_lists [] (y ∷ ys) = Ordering.lt
compare_lists (x ∷ xs) [] = Ordering.gt
compare_lists (x ∷ xs) (y ∷ ys) = then_order (compare x y) (compare_lists xs ys)

abbrev pub place_variable : Ordering → ℕ → ℕ → List ℕ → List ℕ → List ℕ
place_variable Ordering.lt x y l r = x ∷ y ∷ l
place_variable Ordering.eq x y l r = x ∷ y ∷ l
place_variable Ordering.gt x y l r = y ∷ r

-- one more factor, in its place
abbrev pub insert_variable : ℕ → List ℕ → List ℕ
insert_variable x [] = x ∷ []
insert_variable x (y ∷ l) = place_variable (compare x y) x y l (insert_variable x l)

abbrev pub merge_variables : List ℕ → List ℕ → List ℕ
merge_variables [] m = m
merge_variables (x ∷ l) m = insert_variable x (merge_variables l m)

abbrev pub times_monomial : Monomial → Monomial → Monomial
times_monomial (positive a) (positive b) = positive (merge_variables a b)
times_monomial (positive a) (negative b) = negative (merge_variables a b)
times_monomial (negative a) (positive b) = negative (merge_variables a b)
times_monomial (negative a) (negative b) = positive (merge_variables a b)

-- two monomials of the same variables: opposite ones vanish
abbrev pub cancel : Monomial → Monomial → List Monomial → List Monomial
cancel (positive a) (positive b) l = positive a ∷ positive b ∷ l
cancel (positive a) (negative b) l = l
cancel (negative a) (positive b) l = l
cancel (negative a) (negative b) l = negative a ∷ negative b ∷ l

abbrev pub place_monomial : Ordering → Monomial → Monomial → List Monomial → List Monomial → List Monomial
place_monomial Ordering.lt x y l r = x ∷ y ∷ l
place_monomial Ordering.eq x y l r = cancel x y l
place_monomial Ordering.gt x y l r = y ∷ r

abbrev pub insert_monomial : Monomial → List Monomial → List Monomial
insert_monomial x [] = x ∷ []
insert_monomial x (y ∷ l) = place_monomial (compare_lists (variables x) (variables y)) x y l (insert_monomial x l)

abbrev pub plus_normal : List Monomial → List Monomial → List Monomial
plus_normal [] q = q
plus_normal (x ∷ l) q = insert_monomial x (plus_normal l q)

abbrev pub scale_normal : Monomial → List Monomial → List Monomial
scale_normal x [] = []
scale_normal x (y ∷ l) = insert_monomial (times_monomial x y) (scale_normal x l)

abbrev pub times_normal : List Monomial → List Monomial → List Monomial
times_normal [] q = []
times_normal (x ∷ l) q = plus_normal (scale_normal x q) (times_normal l q)

abbrev pub opposite : Monomial → Monomial
opposite (positive a) = negative a
opposite (negative a) = positive a

abbrev pub minus_normal : List Monomial → List Monomial
minus_normal [] = []
minus_normal (x ∷ l) = opposite x ∷ minus_normal l

-- the normal form
abbrev pub normal : Expression → List Monomial
normal (var i) = positive (i ∷ []) ∷ []
normal (a :+ b) = plus_normal (normal a) (normal b)
normal (a :* b) = times_normal (normal a) (normal b)
normal (:- a) = minus_normal (normal a)
normal :0 = []
normal :1 = positive [] ∷ []

is_equal : (o : Ordering) → o ≡ Ordering.eq → T (compare_is_eq o)
is_equal o e = subst (λ (x : Ordering). T (compare_is_eq x)) (sym e) tt

then_order_equal : (p q : Ordering) → then_order p q ≡ Ordering.eq → (p ≡ Ordering.eq) × (q ≡ Ordering.eq)
then_order_equal Ordering.lt q e = let z : Ordering.lt ≡ Ordering.eq = e in (z, cc)
then_order_equal Ordering.eq q e = (refl, e)
then_order_equal Ordering.gt q e = let z : Ordering.gt ≡ Ordering.eq = e in (z, cc)

compare_lists_equal : (l m : List ℕ) → compare_lists l m ≡ Ordering.eq → l ≡ m
compare_lists_equal [] [] e = refl
compare_lists_equal [] (y ∷ ys) e = let z : Ordering.lt ≡ Ordering.eq = e in cc
compare_lists_equal (x ∷ xs) [] e = let z : Ordering.gt ≡ Ordering.eq = e in cc
compare_lists_equal (x ∷ xs) (y ∷ ys) e =
    let h = then_order_equal (compare x y) (compare_lists xs ys) e in
    let p : x ≡ y = eqb→eq x y (is_equal (compare x y) h.0) in
    let q : xs ≡ ys = compare_lists_equal xs ys h.1 in
    cc

module _ {R : Type 0} (K : Ring R) where
  open K use {plus as ◌⊕◌, times as ◌⊗◌, minus as ⊖◌, zero as 𝟘, one as 𝟙}

  infixl 60 ◌⊕◌
  infixl 70 ◌⊗◌
  infix 80 ⊖◌
  -- the value of an expression where variable i has the value at place i of ρ
  abbrev pub value : List R → Expression → R
  value ρ (var i) = get_or ρ i 𝟘
  value ρ (a :+ b) = value ρ a ⊕ value ρ b
  value ρ (a :* b) = value ρ a ⊗ value ρ b
  value ρ (:- a) = ⊖ (value ρ a)
  value ρ :0 = 𝟘
  value ρ :1 = 𝟙

  product_of : List R → List ℕ → R
  product_of ρ [] = 𝟙
  product_of ρ (x ∷ l) = get_or ρ x 𝟘 ⊗ product_of ρ l

  value_of : List R → Monomial → R
  value_of ρ (positive m) = product_of ρ m
  value_of ρ (negative m) = ⊖ (product_of ρ m)

  sum_of : List R → List Monomial → R
  sum_of ρ [] = 𝟘
  sum_of ρ (x ∷ l) = value_of ρ x ⊕ sum_of ρ l

  place_variable_value : (ρ : List R) (o : Ordering) (x y : ℕ) (l r : List ℕ) → product_of ρ r ≡ get_or ρ x 𝟘 ⊗ product_of ρ l → product_of ρ (place_variable o x y l r) ≡ get_or ρ x 𝟘 ⊗ (get_or ρ y 𝟘 ⊗ product_of ρ l)
  unfolding product_of
  place_variable_value ρ Ordering.lt x y l r h = refl
  place_variable_value ρ Ordering.eq x y l r h = refl
  place_variable_value ρ Ordering.gt x y l r h = ap (λ z. get_or ρ y 𝟘 ⊗ z) h ∙ times_left_commutative K _ _ _

  insert_variable_value : (ρ : List R) (x : ℕ) (l : List ℕ) → product_of ρ (insert_variable x l) ≡ get_or ρ x 𝟘 ⊗ product_of ρ l
  unfolding product_of
  insert_variable_value ρ x [] = refl
  insert_variable_value ρ x (y ∷ l) = place_variable_value ρ (compare x y) x y l (insert_variable x l) (insert_variable_value ρ x l)

  merge_variables_value : (ρ : List R) (l m : List ℕ) → product_of ρ (merge_variables l m) ≡ product_of ρ l ⊗ product_of ρ m
  unfolding product_of
  merge_variables_value ρ [] m = sym (one_times K _)
  merge_variables_value ρ (x ∷ l) m = insert_variable_value ρ x (merge_variables l m) ∙ ap (λ z. get_or ρ x 𝟘 ⊗ z) (merge_variables_value ρ l m) ∙ sym (times_associative K _ _ _)

  times_monomial_value : (ρ : List R) (x y : Monomial) → value_of ρ (times_monomial x y) ≡ value_of ρ x ⊗ value_of ρ y
  unfolding value_of
  times_monomial_value ρ (positive a) (positive b) = merge_variables_value ρ a b
  times_monomial_value ρ (positive a) (negative b) = simp (merge_variables_value, times_minus)
  times_monomial_value ρ (negative a) (positive b) = simp (merge_variables_value, minus_times)
  times_monomial_value ρ (negative a) (negative b) = simp (merge_variables_value, minus_times, times_minus, minus_minus)

  cancel_value : (ρ : List R) (x y : Monomial) (l : List Monomial) → variables x ≡ variables y → sum_of ρ (cancel x y l) ≡ value_of ρ x ⊕ (value_of ρ y ⊕ sum_of ρ l)
  unfolding sum_of value_of
  cancel_value ρ (positive a) (positive b) l e = refl
  cancel_value ρ (positive a) (negative b) l e = rw e (sym (plus_minus_left K _ _))
  cancel_value ρ (negative a) (positive b) l e = rw e (sym (minus_plus_left K _ _))
  cancel_value ρ (negative a) (negative b) l e = refl

  place_monomial_value : (ρ : List R) (o : Ordering) (x y : Monomial) (l r : List Monomial) → (o ≡ Ordering.eq → variables x ≡ variables y) → sum_of ρ r ≡ value_of ρ x ⊕ sum_of ρ l → sum_of ρ (place_monomial o x y l r) ≡ value_of ρ x ⊕ (value_of ρ y ⊕ sum_of ρ l)
  unfolding sum_of
  place_monomial_value ρ Ordering.lt x y l r e h = refl
  place_monomial_value ρ Ordering.eq x y l r e h = cancel_value ρ x y l (e refl)
  place_monomial_value ρ Ordering.gt x y l r e h = ap (λ z. value_of ρ y ⊕ z) h ∙ plus_left_commutative K _ _ _

  insert_monomial_value : (ρ : List R) (x : Monomial) (l : List Monomial) → sum_of ρ (insert_monomial x l) ≡ value_of ρ x ⊕ sum_of ρ l
  unfolding sum_of
  insert_monomial_value ρ x [] = refl
  insert_monomial_value ρ x (y ∷ l) = place_monomial_value ρ (compare_lists (variables x) (variables y)) x y l (insert_monomial x l) (compare_lists_equal (variables x) (variables y)) (insert_monomial_value ρ x l)

  plus_normal_value : (ρ : List R) (l m : List Monomial) → sum_of ρ (plus_normal l m) ≡ sum_of ρ l ⊕ sum_of ρ m
  unfolding sum_of
  plus_normal_value ρ [] m = sym (zero_plus K _)
  plus_normal_value ρ (x ∷ l) m = insert_monomial_value ρ x (plus_normal l m) ∙ ap (λ z. value_of ρ x ⊕ z) (plus_normal_value ρ l m) ∙ sym (plus_associative K _ _ _)

  scale_normal_value : (ρ : List R) (x : Monomial) (l : List Monomial) → sum_of ρ (scale_normal x l) ≡ value_of ρ x ⊗ sum_of ρ l
  unfolding sum_of
  scale_normal_value ρ x [] = sym (times_zero K _)
  scale_normal_value ρ x (y ∷ l) = insert_monomial_value ρ (times_monomial x y) (scale_normal x l) ∙ rw (times_monomial_value, scale_normal_value ρ x l) (sym (times_plus K _ _ _))

  times_normal_value : (ρ : List R) (l m : List Monomial) → sum_of ρ (times_normal l m) ≡ sum_of ρ l ⊗ sum_of ρ m
  unfolding sum_of
  times_normal_value ρ [] m = sym (zero_times K _)
  times_normal_value ρ (x ∷ l) m = plus_normal_value ρ (scale_normal x m) (times_normal l m) ∙ rw (scale_normal_value, times_normal_value ρ l m) (sym (plus_times K _ _ _))

  opposite_value : (ρ : List R) (x : Monomial) → value_of ρ (opposite x) ≡ ⊖ (value_of ρ x)
  unfolding value_of
  opposite_value ρ (positive a) = refl
  opposite_value ρ (negative a) = sym (minus_minus K _)

  minus_normal_value : (ρ : List R) (l : List Monomial) → sum_of ρ (minus_normal l) ≡ ⊖ (sum_of ρ l)
  unfolding sum_of
  minus_normal_value ρ [] = sym (minus_zero K)
  minus_normal_value ρ (x ∷ l) = rw (opposite_value, minus_normal_value ρ l) (sym (minus_of_plus K _ _))

  normal_value : (ρ : List R) (e : Expression) → sum_of ρ (normal e) ≡ value ρ e
  unfolding sum_of value_of product_of
  normal_value ρ (var i) = simp (plus_zero, times_one)
  normal_value ρ (a :+ b) = rw (plus_normal_value, normal_value ρ a, normal_value ρ b)
  normal_value ρ (a :* b) = rw (times_normal_value, normal_value ρ a, normal_value ρ b)
  normal_value ρ (:- a) = rw (minus_normal_value, normal_value ρ a)
  normal_value ρ :0 = refl
  normal_value ρ :1 = plus_zero K _

  -- expressions with the same normal form have the same value
  pub solve : (ρ : List R) (e f : Expression) → normal e ≡ normal f → value ρ e ≡ value ρ f
  solve ρ e f h = sym (normal_value ρ e) ∙ ap (sum_of ρ) h ∙ normal_value ρ f

  -- the same for identities in three, four and six named variables
  pub solve₃ : (e f : Expression → Expression → Expression → Expression) → normal (e (var 0) (var 1) (var 2)) ≡ normal (f (var 0) (var 1) (var 2))
      → (a b c : R) → value (a ∷ b ∷ c ∷ []) (e (var 0) (var 1) (var 2)) ≡ value (a ∷ b ∷ c ∷ []) (f (var 0) (var 1) (var 2))
  solve₃ e f h a b c = solve (a ∷ b ∷ c ∷ []) (e (var 0) (var 1) (var 2)) (f (var 0) (var 1) (var 2)) h

  pub solve₆ : (e f : Expression → Expression → Expression → Expression → Expression → Expression → Expression) → normal (e (var 0) (var 1) (var 2) (var 3) (var 4) (var 5)) ≡ normal (f (var 0) (var 1) (var 2) (var 3) (var 4) (var 5))
      → (a b c x y z : R) → value (a ∷ b ∷ c ∷ x ∷ y ∷ z ∷ []) (e (var 0) (var 1) (var 2) (var 3) (var 4) (var 5)) ≡ value (a ∷ b ∷ c ∷ x ∷ y ∷ z ∷ []) (f (var 0) (var 1) (var 2) (var 3) (var 4) (var 5))
  solve₆ e f h a b c x y z = solve (a ∷ b ∷ c ∷ x ∷ y ∷ z ∷ []) (e (var 0) (var 1) (var 2) (var 3) (var 4) (var 5)) (f (var 0) (var 1) (var 2) (var 3) (var 4) (var 5)) h

  pub solve₄ : (e f : Expression → Expression → Expression → Expression → Expression) → normal (e (var 0) (var 1) (var 2) (var 3)) ≡ normal (f (var 0) (var 1) (var 2) (var 3))
      → (a b c d : R) → value (a ∷ b ∷ c ∷ d ∷ []) (e (var 0) (var 1) (var 2) (var 3)) ≡ value (a ∷ b ∷ c ∷ d ∷ []) (f (var 0) (var 1) (var 2) (var 3))
  solve₄ e f h a b c d = solve (a ∷ b ∷ c ∷ d ∷ []) (e (var 0) (var 1) (var 2) (var 3)) (f (var 0) (var 1) (var 2) (var 3)) h
