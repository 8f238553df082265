-- A square matrix over a domain with a right inverse has it as its left inverse too: with A B = E, the n + 1 columns of B and e_j
-- are dependent, which makes B A e_j a multiple of e_j, and the multiple is one.
use Rattle.std.specs.Prelude.{◌≡◌, refl, ◌≢◌, ℕ, suc, ◌<◌}
use Rattle.std.proofs.Math.Path.{sym, ap}
use Rattle.std.proofs.Common.{◌∙◌, arith}
use Rattle.std.proofs.Math.Decide.{ℕ_discrete}
use Rattle.algebra.specs.Choice.{put, put_same, put_other}
use Rattle.algebra.specs.Ring.{Ring, plus_commutative, zero_plus, times_associative, times_left_commutative, times_minus, times_zero, minus_unique, minus_zero}
use Rattle.algebra.specs.Solver.{◌:+◌, ◌:*◌, :-◌, solve₃}
use Rattle.algebra.specs.Sum.{sum, sum_suc, sum_equal, sum_of_minus, sum_times_right, delta, delta_symmetric, sum_of_delta}
use Rattle.algebra.specs.Matrix.{Matrix, Vector, Within, identity, identity_inside, identity_within, matrix_equal, product, product_at, product_within, apply, apply_at, apply_product, identity_apply_inside}
use Rattle.algebra.specs.Inverse.{Inverse}
use Rattle.algebra.specs.Domain.{Domain}
use Rattle.algebra.specs.Kernel.{Kernel, kernel}

module _ {R : Type 0} (K : Ring R) (D : Domain K) (n : ℕ) (A B : Matrix K) (right : product K n A B ≡ identity K n) where
  open K use {plus as ◌⊕◌, times as ◌⊗◌, minus as ⊖◌, zero as 𝟘, one as 𝟙}

  infixl 60 ◌⊕◌
  infixl 70 ◌⊗◌
  infix 80 ⊖◌
  -- A (B y) = y
  back : (y : Vector K) (i : ℕ) → i < n → sum K (λ k. A i k ⊗ sum K (λ m. B k m ⊗ y m) n) n ≡ y i
  back y i l =
      sum_equal K _ _ n (λ k g. ap (λ x. A i k ⊗ x) (sym (apply_at K n B y k))) ∙ sym (apply_at K n A (apply K n B y) i)
      ∙ ap (λ (w : Vector K). w i) (sym (apply_product K n A B y)) ∙ ap (λ (M : Matrix K). apply K n M y i) right ∙ identity_apply_inside K n y i l

  module _ (j : ℕ) (j<n : j < n) where
    -- the columns of B and, last, e_j
    columns : ℕ → Vector K
    columns i = put n (delta K i j) (B i)

    N : Kernel K D n (suc n) columns
    N = kernel K D n (suc n) columns (omega arith)

    y : Vector K
    y = N.vector

    t : R
    t = N.vector n

    -- B y + t e_j = 0
    dependent : (i : ℕ) → i < n → sum K (λ m. B i m ⊗ y m) n ⊕ delta K i j ⊗ t ≡ 𝟘
    unfolding y t columns
    dependent i l =
        ap (λ s. s ⊕ delta K i j ⊗ N.vector n) (sum_equal K _ _ n (λ m g. ap (λ x. x ⊗ N.vector m) (sym (put_other n (delta K i j) (B i) m (omega arith)))))
        ∙ ap (λ x. sum K (λ m. put n (delta K i j) (B i) m ⊗ N.vector m) n ⊕ x ⊗ N.vector n) (sym (put_same n (delta K i j) (B i)))
        ∙ sym (sum_suc K (λ m. put n (delta K i j) (B i) m ⊗ N.vector m) n)
        ∙ N.solves i l

    -- y = - t A e_j
    y_is : (i : ℕ) → i < n → y i ≡ ⊖ (A i j ⊗ t)
    y_is i l =
        sym (back y i l)
        ∙ sum_equal K _ (λ k. ⊖ (delta K j k ⊗ (A i k ⊗ t))) n (λ k g.
        ap (λ x. A i k ⊗ x) (minus_unique K (delta K k j ⊗ t) _ (plus_commutative K _ _ ∙ dependent k g) ∙ ap (λ x. ⊖ (x ⊗ t)) (delta_symmetric K k j))
        ∙ times_minus K _ _ ∙ ap ⊖◌ (times_left_commutative K _ _ _))
        ∙ sum_of_minus K _ n
        ∙ ap ⊖◌ (sum_of_delta K j (λ k. A i k ⊗ t) n j<n)

    t_nonzero : t ≢ 𝟘
    unfolding t y
    t_nonzero z = N.nonzero (elim (ℕ_discrete N.place n) [ yes e ↦ ap N.vector e ∙ z | no m ↦ low N.place (omega (arith, N.place_below)) ])
      where
        low : (i : ℕ) → i < n → N.vector i ≡ 𝟘
        low i l = y_is i l ∙ ap (λ x. ⊖ (A i j ⊗ x)) z ∙ ap ⊖◌ (times_zero K _) ∙ minus_zero K

    -- t (B A e_j - e_j) = 0
    killed : (i : ℕ) → i < n → (product K n B A i j ⊕ ⊖ (delta K i j)) ⊗ t ≡ 𝟘
    killed i l =
        let e : sum K (λ m. B i m ⊗ y m) n ≡ ⊖ (product K n B A i j ⊗ t) =
        sum_equal K _ (λ m. ⊖ (B i m ⊗ A m j ⊗ t)) n (λ m g. ap (λ x. B i m ⊗ x) (y_is m g) ∙ times_minus K _ _ ∙ ap ⊖◌ (sym (times_associative K _ _ _)))
        ∙ sum_of_minus K _ n ∙ ap ⊖◌ (sum_times_right K _ t n ∙ ap (λ x. x ⊗ t) (sym (product_at K n B A i j))) in
        let f : ⊖ (product K n B A i j ⊗ t) ⊕ delta K i j ⊗ t ≡ 𝟘 = ap (λ x. x ⊕ delta K i j ⊗ t) (sym e) ∙ dependent i l in
        solve₃ K (λ a d t. (a :+ :- d) :* t) (λ a d t. :- (:- (a :* t) :+ d :* t)) refl (product K n B A i j) (delta K i j) t ∙ ap ⊖◌ f ∙ minus_zero K

    column : (i : ℕ) → i < n → product K n B A i j ≡ delta K i j
    column i l = elim (D.decide (product K n B A i j ⊕ ⊖ (delta K i j))) [
      | yes z ↦ solve₃ K (λ a d t. a) (λ a d t. (a :+ :- d) :+ d) refl (product K n B A i j) (delta K i j) t ∙ ap (λ x. x ⊕ delta K i j) z ∙ zero_plus K _
      | no m ↦ absurd (D.nonzero_times _ t m t_nonzero (killed i l))
    ]

  pub left_of_right : Within K n A → Within K n B → product K n B A ≡ identity K n
  left_of_right a b = matrix_equal K n _ _ (product_within K n B A b a) (identity_within K n) (λ i j l g. column j g i l ∙ sym (identity_inside K n i j l))

-- a right inverse is the inverse
pub inverse_of_right : {R : Type 0} (K : Ring R) (D : Domain K) (n : ℕ) (A B : Matrix K) → Within K n A → Within K n B → product K n A B ≡ identity K n → Inverse K n A B
inverse_of_right K D n A B a b h = record { within = a; inverse_within = b; right = h; left = left_of_right K D n A B h a b }
