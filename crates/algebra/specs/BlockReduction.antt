-- x E - F for a matrix F of companion blocks over any ring: it is left_factor D right_factor, where D has the polynomial of each
-- block at the block's head and one elsewhere, and right_factor has an inverse.
use Rattle.std.specs.Prelude.{◌≡◌, refl, ◌≢◌, Bool, true, false, [], ◌∷◌, ℕ, zero, suc, ◌<◌}
use Rattle.std.proofs.Common.{sym, ◌∙◌, ap, ap₂, arith}
use Rattle.std.proofs.Math.Decide.{dec_lt}
use Rattle.algebra.specs.Ring.{Ring, one_times, times_one, minus_zero}
use Rattle.algebra.specs.Solver.{var, ◌:+◌, ◌:*◌, :-◌, :0, solve, solve₃, solve₄}
use Rattle.algebra.specs.Sum.{delta, delta_other, delta_symmetric}
use Rattle.algebra.specs.Matrix.{Matrix, restrict, restrict_inside, restrict_within, matrix_equal, identity, identity_inside, identity_within, product, product_within}
use Rattle.algebra.specs.Shapes.{diagonal, diagonal_within, diagonal_product}
use Rattle.algebra.specs.BlockFactors.{CompanionBlocks, companion_entry, left_factor, right_factor, right_inverse, factor, factor_first, factor_next, companion_first, companion_next, left_factor_next, left_factor_end, right_factor_first, right_factor_next, right_factor_at_first, right_factor_at_next, right_inverse_at_first, right_inverse_at_next, left_factor_within, right_factor_within, right_inverse_within}

module _ {R : Type 0} (K : Ring R) (n : ℕ) (x : R) (B : CompanionBlocks K n x) where
  open K use {plus as ◌⊕◌, times as ◌⊗◌, minus as ⊖◌, zero as 𝟘, one as 𝟙}

  infixl 60 ◌⊕◌
  infixl 70 ◌⊗◌
  infix 80 ⊖◌
  open B use {first, head, last, coefficient as a, quotient as h, rest as g}

  abbrev ◌·◌ : Matrix K → Matrix K → Matrix K
  ◌·◌ = product K n

  infixl 70 ◌·◌
  abbrev left : Matrix K
  left = left_factor K n x B

  abbrev right : Matrix K
  right = right_factor K n x B

  abbrev back : Matrix K
  back = right_inverse K n x B

  abbrev entry : ℕ → ℕ → R
  entry = companion_entry K n x B

  abbrev middle : Matrix K
  middle = diagonal K n (factor K n x B)

  -- a head is not a row that is none
  apart : (i j : ℕ) → first i ≡ true → first j ≡ false → i ≢ j
  apart i j e f q = let t : first j ≡ true = ap first (sym q) ∙ e in let z : ◌≡◌ {A = ℕ} 0 1 = cc in omega arith

  -- the last row of the block of i: 1 at its head
  inverse_last_first : (i j : ℕ) → i < n → j < n → first j ≡ true → back (last i) j ≡ delta K (head i) j
  inverse_last_first i j l m e = right_inverse_at_first K n x B (last i) j (B.last_below i l) m e
      ∙ ap₂ (λ (k : ℕ) z. delta K k j ⊗ z) (B.head_last i l) (B.rest_last i l) ∙ times_one K _

  inverse_last_next : (i j : ℕ) → i < n → j < n → first j ≡ false → back (last i) j ≡ 𝟘
  inverse_last_next i j l m e = right_inverse_at_next K n x B (last i) j (B.last_below i l) m e ∙ ap ⊖◌ (delta_other K (suc (last i)) j different) ∙ minus_zero K
    where
      different : suc (last i) ≢ j
      different q = apart (suc (last i)) j (B.after_last i l (omega arith)) e q

  right_entry_first : (i j : ℕ) → i < n → j < n → first i ≡ true → (b : Bool) → first j ≡ b → back (last i) j ≡ delta K i j
  right_entry_first i j l m e true f = inverse_last_first i j l m f ∙ ap (λ (k : ℕ). delta K k j) (B.head_first i l e)
  right_entry_first i j l m e false f = inverse_last_next i j l m f ∙ sym (delta_other K i j (apart i j e f))

  right_entry_next : (i j : ℕ) → suc i < n → j < n → first (suc i) ≡ false → (b : Bool) → first j ≡ b
      → h (suc i) ⊗ back (last (suc i)) j ⊕ ⊖ (back i j) ≡ delta K (suc i) j
  right_entry_next i j l m e true f =
      ap₂ (λ y z. h (suc i) ⊗ y ⊕ ⊖ z) (inverse_last_first (suc i) j l m f ∙ ap (λ (k : ℕ). delta K k j) (B.head_next i l e)) (right_inverse_at_first K n x B i j (omega arith) m f ∙ ap (λ z. delta K (head i) j ⊗ z) (B.rest_next i l e))
      ∙ solve₃ K (λ h d z. h :* d :+ :- (d :* h)) (λ h d z. :0) refl (h (suc i)) (delta K (head i) j) x
      ∙ sym (delta_other K (suc i) j (λ q. apart j (suc i) f e (sym q)))
  right_entry_next i j l m e false f =
      ap₂ (λ y z. h (suc i) ⊗ y ⊕ ⊖ z) (inverse_last_next (suc i) j l m f) (right_inverse_at_next K n x B i j (omega arith) m f)
      ∙ solve₃ K (λ h d z. h :* :0 :+ :- (:- d)) (λ h d z. d) refl (h (suc i)) (delta K (suc i) j) x

  right_entry : (i j : ℕ) → i < n → j < n → (b : Bool) → first i ≡ b → (right · back) i j ≡ delta K i j
  right_entry i j l m true e = right_factor_first K n x B back i j l e ∙ right_entry_first i j l m e (first j) refl
  right_entry zero j l m false e = absurd (apart 0 0 B.first_zero e refl)
  right_entry (suc i) j l m false e = right_factor_next K n x B back i j l e ∙ right_entry_next i j l m e (first j) refl

  pub right_factor_inverse : right · back ≡ identity K n
  right_factor_inverse = matrix_equal K n _ _ (product_within K n _ _ (right_factor_within K n x B) (right_inverse_within K n x B)) (identity_within K n)
      (λ i j l m. right_entry i j l m (first i) refl ∙ sym (identity_inside K n i j l))

  -- D right_factor: at a head, and in another row
  diagonal_right_first : (i j : ℕ) → i < n → j < n → first i ≡ true → (middle · right) i j ≡ h i ⊗ delta K (last i) j
  diagonal_right_first i j l m e = diagonal_product K n _ _ i j l ∙ ap₂ ◌⊗◌ (factor_first K n x B i e) (right_factor_at_first K n x B i j l m e)

  diagonal_right_next : (i j : ℕ) → suc i < n → j < n → first (suc i) ≡ false → (middle · right) (suc i) j ≡ h (suc i) ⊗ delta K (last (suc i)) j ⊕ ⊖ (delta K i j)
  diagonal_right_next i j l m e = diagonal_product K n _ _ (suc i) j l
      ∙ ap₂ ◌⊗◌ (factor_next K n x B (suc i) e) (right_factor_at_next K n x B i j l m e)
      ∙ one_times K _

  -- row i of D right_factor, by F's entries
  diagonal_right : (i j : ℕ) → i < n → j < n → (b : Bool) → first i ≡ b → (middle · right) i j ≡ x ⊗ g i ⊗ delta K (last i) j ⊕ ⊖ (entry i j)
  diagonal_right i j l m true e = diagonal_right_first i j l m e
      ∙ ap (λ y. y ⊗ delta K (last i) j) (B.quotient_split i l)
      ∙ solve₄ K (λ a x g d. (a :+ x :* g) :* d) (λ a x g d. x :* g :* d :+ :- (:- (a :* d))) refl (a i) x (g i) (delta K (last i) j)
      ∙ ap (λ y. x ⊗ g i ⊗ delta K (last i) j ⊕ ⊖ y) (ap (λ z. ⊖ (a i ⊗ z)) (delta_symmetric K (last i) j) ∙ sym (companion_first K n x B i j e))
  diagonal_right zero j l m false e = absurd (apart 0 0 B.first_zero e refl)
  diagonal_right (suc i) j l m false e = diagonal_right_next i j l m e
      ∙ ap (λ y. y ⊗ delta K (last (suc i)) j ⊕ ⊖ (delta K i j)) (B.quotient_split (suc i) l)
      ∙ solve K (a (suc i) ∷ x ∷ g (suc i) ∷ delta K (last (suc i)) j ∷ delta K i j ∷ []) ((var 0 :+ var 1 :* var 2) :* var 3 :+ :- (var 4)) (var 1 :* var 2 :* var 3 :+ :- (var 4 :+ :- (var 0 :* var 3))) refl
      ∙ ap (λ y. x ⊗ g (suc i) ⊗ delta K (last (suc i)) j ⊕ ⊖ y) (ap (λ z. delta K i j ⊕ ⊖ (a (suc i) ⊗ z)) (delta_symmetric K (last (suc i)) j) ∙ sym (companion_next K n x B i j e))

  reduced_end : (i j : ℕ) → i < n → j < n → (suc i < n → first (suc i) ≡ true)
      → (left · (middle · right)) i j ≡ x ⊗ delta K i j ⊕ ⊖ (entry i j)
  reduced_end i j l m e =
      let q : last i ≡ i = B.last_end i l e in
      left_factor_end K n x B _ i j l e ∙ diagonal_right i j l m (first i) refl
      ∙ ap₂ (λ y (k : ℕ). x ⊗ y ⊗ delta K k j ⊕ ⊖ (entry i j)) (ap g (sym q) ∙ B.rest_last i l) q
      ∙ ap (λ y. y ⊗ delta K i j ⊕ ⊖ (entry i j)) (times_one K x)

  reduced_entry : (i j : ℕ) → i < n → j < n → (b : Bool) → first (suc i) ≡ b → Dec (suc i < n)
      → (left · (middle · right)) i j ≡ x ⊗ delta K i j ⊕ ⊖ (entry i j)
  reduced_entry i j l m false e (yes q) = left_factor_next K n x B _ i j q e
      ∙ ap₂ (λ y z. y ⊕ ⊖ (x ⊗ z)) (diagonal_right i j l m (first i) refl) (diagonal_right_next i j q m e ∙ ap₂ (λ y (k : ℕ). y ⊗ delta K k j ⊕ ⊖ (delta K i j)) (sym (B.rest_next i q e)) (B.last_next i q e))
      ∙ solve K (x ∷ g i ∷ delta K (last i) j ∷ entry i j ∷ delta K i j ∷ []) (var 0 :* var 1 :* var 2 :+ :- (var 3) :+ :- (var 0 :* (var 1 :* var 2 :+ :- (var 4)))) (var 0 :* var 4 :+ :- (var 3)) refl
  reduced_entry i j l m true e d = reduced_end i j l m (λ q. e)
  reduced_entry i j l m false e (no q) = reduced_end i j l m (λ r. absurd (q r))

  pub block_reduction : restrict K n (λ i j. x ⊗ delta K i j ⊕ ⊖ (entry i j)) ≡ left · (middle · right)
  block_reduction = matrix_equal K n _ _ (restrict_within K n _) (product_within K n _ _ (left_factor_within K n x B) (product_within K n _ _ (diagonal_within K n _) (right_factor_within K n x B)))
      (λ i j l m. restrict_inside K n _ i j l m ∙ sym (reduced_entry i j l m (first (suc i)) refl (dec_lt (suc i) n)))
