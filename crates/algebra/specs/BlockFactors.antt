-- Companion blocks over any ring, all blocks of a matrix at once: the factors into which x E - F falls apart, and how a matrix is
-- multiplied by each of them, row by row or column by column.
use Rattle.std.specs.Prelude.{◌≡◌, Bool, true, false, ℕ, suc, ◌+◌, ◌-◌, ◌≤◌, ◌<◌}
use Rattle.std.proofs.Math.Path.{refl, ap, ap₂}
use Rattle.std.proofs.Common.{sym, ◌∙◌, arith}
use Rattle.std.proofs.Math.Bool.{cond}
use Rattle.std.proofs.Math.Decide.{ℕ_discrete, dec_lt}
use Rattle.algebra.specs.Ring.{Ring, times_left_commutative, zero_times, zero_plus, plus_zero, one_times, times_zero, times_minus, minus_zero}
use Rattle.algebra.specs.Solver.{◌:+◌, ◌:*◌, :-◌, :0, solve₃, solve₄}
use Rattle.algebra.specs.Sum.{sum, sum_split, sum_of_zeros, sum_equal, sum_of_plus, sum_of_minus, sum_times_left, delta, delta_same, delta_other, sum_of_delta, sum_of_delta_outside}
use Rattle.algebra.specs.Matrix.{Matrix, Within, restrict, restrict_inside, restrict_within, product, product_at}
use Rattle.algebra.specs.Shapes.{sum_at}

module _ {R : Type 0} (K : Ring R) where
  open K use {plus as ◌⊕◌, times as ◌⊗◌, minus as ⊖◌, zero as 𝟘, one as 𝟙}

  infixl 60 ◌⊕◌
  infixl 70 ◌⊗◌
  infix 80 ⊖◌
  delta_suc : (i j : ℕ) → delta K (suc i) (suc j) ≡ delta K i j
  delta_suc i j = elim (ℕ_discrete i j) [
    | yes e ↦ ap (λ (k : ℕ). delta K (suc k) (suc j)) e ∙ delta_same K (suc j) ∙ sym (ap (λ (k : ℕ). delta K k j) e ∙ delta_same K j)
    | no h ↦ delta_other K (suc i) (suc j) (λ e. h (omega arith)) ∙ sym (delta_other K i j h)
  ]

  -- a sum whose terms are zero outside the z indices from j on
  sum_window : (f : ℕ → R) (j z n : ℕ) → j + z ≤ n → ((k : ℕ) → k < j → f k ≡ 𝟘) → ((k : ℕ) → j + z ≤ k → k < n → f k ≡ 𝟘) → sum K f n ≡ sum K (λ s. f (j + s)) z
  sum_window f j z n l a b = ap (sum K f) (together j z n l) ∙ sum_split K f (j + z) (n - (j + z))
      ∙ ap₂ ◌⊕◌ (sum_split K f j z ∙ ap (λ y. y ⊕ sum K (λ s. f (j + s)) z) (sum_of_zeros K f j a) ∙ zero_plus K _) (sum_of_zeros K (λ s. f (j + z + s)) (n - (j + z)) (λ s q. b (j + z + s) (omega arith) (omega arith)))
      ∙ plus_zero K _
    where
      together : (j z n : ℕ) → j + z ≤ n → n ≡ j + z + (n - (j + z))
      together j z n l = omega arith

  -- The rows below n lie in blocks: first says which are heads, head and last give the first and the last row of a row's block.
  -- Where row i stands at place s of the block of a polynomial f: coefficient i is coefficient s of f, quotient i the quotient
  -- of f by x^s, and rest i that by x^(s+1).
  pub record CompanionBlocks (n : ℕ) (x : R) : Type 0 where
    pub first : ℕ → Bool
    pub head : ℕ → ℕ
    pub last : ℕ → ℕ
    pub coefficient : ℕ → R
    pub quotient : ℕ → R
    pub rest : ℕ → R
    pub first_zero : first 0 ≡ true
    pub head_first : (i : ℕ) → i < n → first i ≡ true → head i ≡ i
    pub head_next : (i : ℕ) → suc i < n → first (suc i) ≡ false → head (suc i) ≡ head i
    pub head_last : (i : ℕ) → i < n → head (last i) ≡ head i
    pub last_below : (i : ℕ) → i < n → last i < n
    pub last_next : (i : ℕ) → suc i < n → first (suc i) ≡ false → last (suc i) ≡ last i
    pub last_end : (i : ℕ) → i < n → (suc i < n → first (suc i) ≡ true) → last i ≡ i
    pub after_last : (i : ℕ) → i < n → suc (last i) < n → first (suc (last i)) ≡ true
    pub quotient_split : (i : ℕ) → i < n → quotient i ≡ coefficient i ⊕ x ⊗ rest i
    pub rest_next : (i : ℕ) → suc i < n → first (suc i) ≡ false → rest i ≡ quotient (suc i)
    pub rest_last : (i : ℕ) → i < n → rest (last i) ≡ 𝟙

  module _ (n : ℕ) (x : R) (B : CompanionBlocks n x) where
    open B use {first, head, last, coefficient as a, quotient as h, rest as g}

    -- F: ones just below the diagonal, and -a in the last column
    pub companion_entry : ℕ → ℕ → R
    companion_entry i j = cond (first i) 𝟘 (delta K i (suc j)) ⊕ ⊖ (a i ⊗ delta K j (last i))

    -- E - x (superdiagonal)
    pub left_factor : Matrix K
    left_factor = restrict K n (λ i j. delta K i j ⊕ ⊖ (cond (first (suc i)) 𝟘 x ⊗ delta K (suc i) j))

    -- at a head the block's last unit row; else the quotient in the last column, and -1 just below the diagonal
    pub right_factor : Matrix K
    right_factor = restrict K n (λ i j. cond (first i) (delta K (last i) j) (h i ⊗ delta K (last i) j ⊕ ⊖ (delta K i (suc j))))

    -- at a head the rests down its block; else -1 just above the diagonal
    pub right_inverse : Matrix K
    right_inverse = restrict K n (λ i j. cond (first j) (delta K (head i) j ⊗ g i) (⊖ (delta K (suc i) j)))

    pub left_factor_within : Within K n left_factor
    unfolding left_factor
    left_factor_within = restrict_within K n _

    pub right_factor_within : Within K n right_factor
    unfolding right_factor
    right_factor_within = restrict_within K n _

    pub right_inverse_within : Within K n right_inverse
    unfolding right_inverse
    right_inverse_within = restrict_within K n _

    -- the diagonal: the polynomial of each block at its head
    pub factor : ℕ → R
    factor i = cond (first i) (h i) 𝟙

    pub factor_first : (i : ℕ) → first i ≡ true → factor i ≡ h i
    unfolding factor
    factor_first i e = ap (λ (b : Bool). cond b (h i) 𝟙) e

    pub factor_next : (i : ℕ) → first i ≡ false → factor i ≡ 𝟙
    unfolding factor
    factor_next i e = ap (λ (b : Bool). cond b (h i) 𝟙) e

    pub companion_first : (i j : ℕ) → first i ≡ true → companion_entry i j ≡ ⊖ (a i ⊗ delta K j (last i))
    unfolding companion_entry
    companion_first i j e = ap (λ (b : Bool). cond b 𝟘 (delta K i (suc j)) ⊕ ⊖ (a i ⊗ delta K j (last i))) e ∙ zero_plus K _

    pub companion_next : (i j : ℕ) → first (suc i) ≡ false → companion_entry (suc i) j ≡ delta K i j ⊕ ⊖ (a (suc i) ⊗ delta K j (last (suc i)))
    unfolding companion_entry
    companion_next i j e = ap (λ (b : Bool). cond b 𝟘 (delta K (suc i) (suc j)) ⊕ ⊖ (a (suc i) ⊗ delta K j (last (suc i)))) e ∙ ap (λ z. z ⊕ ⊖ (a (suc i) ⊗ delta K j (last (suc i)))) (delta_suc i j)

    -- the entries of the right factor and of its inverse
    pub right_factor_at_first : (i j : ℕ) → i < n → j < n → first i ≡ true → right_factor i j ≡ delta K (last i) j
    unfolding right_factor
    right_factor_at_first i j l m e = restrict_inside K n _ i j l m ∙ ap (λ (b : Bool). cond b (delta K (last i) j) (h i ⊗ delta K (last i) j ⊕ ⊖ (delta K i (suc j)))) e

    pub right_factor_at_next : (i j : ℕ) → suc i < n → j < n → first (suc i) ≡ false → right_factor (suc i) j ≡ h (suc i) ⊗ delta K (last (suc i)) j ⊕ ⊖ (delta K i j)
    unfolding right_factor
    right_factor_at_next i j l m e = restrict_inside K n _ (suc i) j l m
        ∙ ap (λ (b : Bool). cond b (delta K (last (suc i)) j) (h (suc i) ⊗ delta K (last (suc i)) j ⊕ ⊖ (delta K (suc i) (suc j)))) e
        ∙ ap (λ z. h (suc i) ⊗ delta K (last (suc i)) j ⊕ ⊖ z) (delta_suc i j)

    pub right_inverse_at_first : (i j : ℕ) → i < n → j < n → first j ≡ true → right_inverse i j ≡ delta K (head i) j ⊗ g i
    unfolding right_inverse
    right_inverse_at_first i j l m e = restrict_inside K n _ i j l m ∙ ap (λ (b : Bool). cond b (delta K (head i) j ⊗ g i) (⊖ (delta K (suc i) j))) e

    pub right_inverse_at_next : (i j : ℕ) → i < n → j < n → first j ≡ false → right_inverse i j ≡ ⊖ (delta K (suc i) j)
    unfolding right_inverse
    right_inverse_at_next i j l m e = restrict_inside K n _ i j l m ∙ ap (λ (b : Bool). cond b (delta K (head i) j ⊗ g i) (⊖ (delta K (suc i) j))) e

    module _ (G : Matrix K) where
      -- left_factor G: from each row but a block's last, x times the next is taken away
      left_factor_product : (i j : ℕ) → i < n → product K n left_factor G i j ≡ G i j ⊕ ⊖ (cond (first (suc i)) 𝟘 x ⊗ sum K (λ k. delta K (suc i) k ⊗ G k j) n)
      unfolding left_factor
      left_factor_product i j l = product_at K n _ G i j
          ∙ sum_equal K _ (λ k. delta K i k ⊗ G k j ⊕ ⊖ (cond (first (suc i)) 𝟘 x ⊗ (delta K (suc i) k ⊗ G k j))) n (λ k q.
          ap (λ z. z ⊗ G k j) (restrict_inside K n _ i k l q)
          ∙ solve₄ K (λ d c e y. (d :+ :- (c :* e)) :* y) (λ d c e y. d :* y :+ :- (c :* (e :* y))) refl (delta K i k) (cond (first (suc i)) 𝟘 x) (delta K (suc i) k) (G k j))
          ∙ sum_of_plus K _ _ n ∙ ap₂ ◌⊕◌ (sum_of_delta K i (λ k. G k j) n l) (sum_of_minus K _ n ∙ ap ⊖◌ (sum_times_left K _ _ n))

      pub left_factor_next : (i j : ℕ) → suc i < n → first (suc i) ≡ false → product K n left_factor G i j ≡ G i j ⊕ ⊖ (x ⊗ G (suc i) j)
      left_factor_next i j l e = left_factor_product i j (omega arith) ∙ ap₂ (λ (b : Bool) z. G i j ⊕ ⊖ (cond b 𝟘 x ⊗ z)) e (sum_of_delta K (suc i) (λ k. G k j) n l)

      pub left_factor_end : (i j : ℕ) → i < n → (suc i < n → first (suc i) ≡ true) → product K n left_factor G i j ≡ G i j
      left_factor_end i j l e = left_factor_product i j l ∙ elim (dec_lt (suc i) n) [
        | yes m ↦ ap (λ (b : Bool). G i j ⊕ ⊖ (cond b 𝟘 x ⊗ sum K (λ k. delta K (suc i) k ⊗ G k j) n)) (e m) ∙ nothing (sum K (λ k. delta K (suc i) k ⊗ G k j) n)
        | no m ↦ ap (λ z. G i j ⊕ ⊖ (cond (first (suc i)) 𝟘 x ⊗ z)) (sum_of_delta_outside K (suc i) (λ k. G k j) n (omega arith)) ∙ ap (λ z. G i j ⊕ ⊖ z) (times_zero K _) ∙ ap (λ z. G i j ⊕ z) (minus_zero K) ∙ plus_zero K _
      ]
        where
          nothing : (s : R) → G i j ⊕ ⊖ (𝟘 ⊗ s) ≡ G i j
          nothing s = solve₃ K (λ y s t. y :+ :- (:0 :* s)) (λ y s t. y) refl (G i j) s s

      -- G left_factor: from each column but a block's first, x times the one before is taken away
      pub product_left_factor_zero : (i : ℕ) → 0 < n → i < n → product K n G left_factor i 0 ≡ G i 0
      unfolding left_factor
      product_left_factor_zero i z l = product_at K n G _ i 0
          ∙ sum_equal K _ (λ k. G i k ⊗ delta K k 0) n (λ k q.
          ap (λ y. G i k ⊗ y) (restrict_inside K n _ k 0 q z ∙ ap (λ y. delta K k 0 ⊕ ⊖ (cond (first (suc k)) 𝟘 x ⊗ y)) (delta_other K (suc k) 0 (omega arith)) ∙ ap (λ y. delta K k 0 ⊕ ⊖ y) (times_zero K _) ∙ ap (λ y. delta K k 0 ⊕ y) (minus_zero K) ∙ plus_zero K _))
          ∙ sum_at K (G i) n 0 z

      pub product_left_factor : (i j : ℕ) → suc j < n → product K n G left_factor i (suc j) ≡ G i (suc j) ⊕ ⊖ (cond (first (suc j)) 𝟘 x ⊗ G i j)
      unfolding left_factor
      product_left_factor i j m = product_at K n G _ i (suc j)
          ∙ sum_equal K _ (λ k. G i k ⊗ delta K k (suc j) ⊕ ⊖ (cond (first (suc k)) 𝟘 x ⊗ G i k ⊗ delta K k j)) n (λ k q.
          ap (λ y. G i k ⊗ y) (restrict_inside K n _ k (suc j) q m ∙ ap (λ y. delta K k (suc j) ⊕ ⊖ (cond (first (suc k)) 𝟘 x ⊗ y)) (delta_suc k j))
          ∙ solve₄ K (λ y d c e. y :* (d :+ :- (c :* e))) (λ y d c e. y :* d :+ :- (c :* y :* e)) refl (G i k) (delta K k (suc j)) (cond (first (suc k)) 𝟘 x) (delta K k j))
          ∙ sum_of_plus K _ _ n ∙ ap₂ ◌⊕◌ (sum_at K (G i) n (suc j) m) (sum_of_minus K _ n ∙ ap ⊖◌ (sum_at K (λ k. cond (first (suc k)) 𝟘 x ⊗ G i k) n j (omega arith)))

      -- G right_inverse: minus the column before, and at a head a sum over the block
      pub product_right_inverse_next : (i j : ℕ) → suc j < n → first (suc j) ≡ false → product K n G right_inverse i (suc j) ≡ ⊖ (G i j)
      product_right_inverse_next i j m e = product_at K n G _ i (suc j)
          ∙ sum_equal K _ (λ k. ⊖ (G i k ⊗ delta K k j)) n (λ k q.
          ap (λ y. G i k ⊗ y) (right_inverse_at_next k (suc j) q m e ∙ ap ⊖◌ (delta_suc k j)) ∙ times_minus K _ _)
          ∙ sum_of_minus K _ n ∙ ap ⊖◌ (sum_at K (G i) n j (omega arith))

      product_right_inverse_first : (i j : ℕ) → j < n → first j ≡ true → product K n G right_inverse i j ≡ sum K (λ k. delta K (head k) j ⊗ (G i k ⊗ g k)) n
      product_right_inverse_first i j m e = product_at K n G _ i j
          ∙ sum_equal K _ _ n (λ k q. ap (λ y. G i k ⊗ y) (right_inverse_at_first k j q m e) ∙ times_left_commutative K _ _ _)

      -- the block of the head j has the z rows from j on
      pub product_right_inverse_head : (i j z : ℕ) → first j ≡ true → 0 < z → j + z ≤ n → ((s : ℕ) → s < z → head (j + s) ≡ j) → ((k : ℕ) → k < n → head k ≡ j → (j ≤ k) × (k < j + z))
          → product K n G right_inverse i j ≡ sum K (λ s. G i (j + s) ⊗ g (j + s)) z
      product_right_inverse_head i j z e a b inside outside = product_right_inverse_first i j (omega arith) e
          ∙ sum_window (λ k. delta K (head k) j ⊗ (G i k ⊗ g k)) j z n b
          (λ k q. ap (λ y. y ⊗ (G i k ⊗ g k)) (delta_other K (head k) j (λ t. (let w = (outside k (omega arith) t).0 in omega arith))) ∙ zero_times K _)
          (λ k l q. ap (λ y. y ⊗ (G i k ⊗ g k)) (delta_other K (head k) j (λ t. (let w = (outside k q t).1 in omega arith))) ∙ zero_times K _)
          ∙ sum_equal K _ _ z (λ s q. ap (λ y. y ⊗ (G i (j + s) ⊗ g (j + s))) (ap (λ (k : ℕ). delta K k j) (inside s q) ∙ delta_same K j) ∙ one_times K _)

      -- right_factor G: at a head the block's last row; else h times it, less the row before
      pub right_factor_first : (i j : ℕ) → i < n → first i ≡ true → product K n right_factor G i j ≡ G (last i) j
      right_factor_first i j l e = product_at K n _ G i j
          ∙ sum_equal K _ (λ k. delta K (last i) k ⊗ G k j) n (λ k q. ap (λ z. z ⊗ G k j) (right_factor_at_first i k l q e))
          ∙ sum_of_delta K (last i) (λ k. G k j) n (B.last_below i l)

      pub right_factor_next : (i j : ℕ) → suc i < n → first (suc i) ≡ false → product K n right_factor G (suc i) j ≡ h (suc i) ⊗ G (last (suc i)) j ⊕ ⊖ (G i j)
      right_factor_next i j l e = product_at K n _ G (suc i) j
          ∙ sum_equal K _ (λ k. h (suc i) ⊗ (delta K (last (suc i)) k ⊗ G k j) ⊕ ⊖ (delta K i k ⊗ G k j)) n (λ k q.
          ap (λ z. z ⊗ G k j) (right_factor_at_next i k l q e)
          ∙ solve₄ K (λ h d e y. (h :* d :+ :- e) :* y) (λ h d e y. h :* (d :* y) :+ :- (e :* y)) refl (h (suc i)) (delta K (last (suc i)) k) (delta K i k) (G k j))
          ∙ sum_of_plus K _ _ n
          ∙ ap₂ ◌⊕◌ (sum_times_left K (h (suc i)) _ n ∙ ap (λ z. h (suc i) ⊗ z) (sum_of_delta K (last (suc i)) (λ k. G k j) n (B.last_below (suc i) l))) (sum_of_minus K _ n ∙ ap ⊖◌ (sum_of_delta K i (λ k. G k j) n (omega arith)))
