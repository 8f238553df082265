-- Block diagonal matrices over any ring: A of order m, and B behind it.
use Rattle.std.specs.Prelude.{◌≡◌, refl, ℕ, ◌+◌, ◌-◌, ◌≤◌, ◌<◌}
use Rattle.std.proofs.Common.{sym, ◌∙◌, ap, ap₂, arith}
use Rattle.std.proofs.Math.Decide.{ℕ_discrete, dec_lt}
use Rattle.algebra.specs.Choice.{below, below_inside, below_outside}
use Rattle.algebra.specs.Ring.{Ring, zero_plus, plus_zero, times_zero, zero_times}
use Rattle.algebra.specs.Sum.{sum, sum_equal, sum_of_zeros, sum_split, delta, delta_same, delta_other}
use Rattle.algebra.specs.Matrix.{Matrix, Within, matrix_equal, identity, identity_inside, identity_within, product, product_at, product_within}
use Rattle.algebra.specs.Inverse.{Inverse}

module _ {R : Type 0} (K : Ring R) where
  open K use {plus as ◌⊕◌, times as ◌⊗◌, zero as 𝟘, one as 𝟙}

  infixl 60 ◌⊕◌
  infixl 70 ◌⊗◌
  unfoldable pub blocks : ℕ → Matrix K → Matrix K → Matrix K
  blocks m A B i j = below m i (below m j (A i j) 𝟘) (below m j 𝟘 (B (i - m) (j - m)))

  module _ (m : ℕ) (A B : Matrix K) (i j : ℕ) where
    pub blocks_first : i < m → j < m → blocks m A B i j ≡ A i j
    unfolding blocks
    blocks_first l g = below_inside m i _ _ l ∙ below_inside m j _ _ g

    pub blocks_second : m ≤ i → m ≤ j → blocks m A B i j ≡ B (i - m) (j - m)
    unfolding blocks
    blocks_second l g = below_outside m i _ _ l ∙ below_outside m j _ _ g

    pub blocks_above : i < m → m ≤ j → blocks m A B i j ≡ 𝟘
    unfolding blocks
    blocks_above l g = below_inside m i _ _ l ∙ below_outside m j _ _ g

    pub blocks_below : m ≤ i → j < m → blocks m A B i j ≡ 𝟘
    unfolding blocks
    blocks_below l g = below_outside m i _ _ l ∙ below_inside m j _ _ g

  pub blocks_within : (m k : ℕ) (A B : Matrix K) → Within K k B → Within K (m + k) (blocks m A B)
  blocks_within m k A B b = record {
    rows = λ i j l. elim (dec_lt j m) [
      | yes g ↦ blocks_below m A B i j (omega arith) g
      | no g ↦ blocks_second m A B i j (omega arith) (omega arith) ∙ b.rows (i - m) (j - m) (omega arith)
    ];
    columns = λ i j l. elim (dec_lt i m) [
      | yes g ↦ blocks_above m A B i j g (omega arith)
      | no g ↦ blocks_second m A B i j (omega arith) (omega arith) ∙ b.columns (i - m) (j - m) (omega arith)
    ];
  }

  module _ (m k : ℕ) (A B C D : Matrix K) where
    -- a sum over m + k indices in two parts, whose summands are known
    two_parts : (f g h : ℕ → R) → ((l : ℕ) → l < m → f l ≡ g l) → ((l : ℕ) → l < k → f (m + l) ≡ h l) → sum K f (m + k) ≡ sum K g m ⊕ sum K h k
    two_parts f g h u v = sum_split K f m k ∙ ap₂ ◌⊕◌ (sum_equal K f g m u) (sum_equal K _ h k v)

    nothing : (n : ℕ) → sum K (λ l. 𝟘) n ≡ 𝟘
    nothing n = sum_of_zeros K _ n (λ i l. refl)

    -- entry by entry, by the four corners
    blocks_product_at : (i j : ℕ) → i < m + k → j < m + k → product K (m + k) (blocks m A B) (blocks m C D) i j ≡ blocks m (product K m A C) (product K k B D) i j
    blocks_product_at i j l g = product_at K (m + k) _ _ i j ∙ elim (dec_lt i m) [
      | yes a ↦ elim (dec_lt j m) [
        | yes b ↦ two_parts _ (λ l. A i l ⊗ C l j) (λ l. 𝟘)
            (λ l h. ap₂ ◌⊗◌ (blocks_first m A B i l a h) (blocks_first m C D l j h b))
            (λ l h. ap (λ x. x ⊗ blocks m C D (m + l) j) (blocks_above m A B i (m + l) a (omega arith)) ∙ zero_times K _)
            ∙ ap₂ ◌⊕◌ (sym (product_at K m A C i j)) (nothing k) ∙ plus_zero K _ ∙ sym (blocks_first m _ _ i j a b)
        | no b ↦ two_parts _ (λ l. 𝟘) (λ l. 𝟘)
            (λ l h. ap (λ x. blocks m A B i l ⊗ x) (blocks_above m C D l j h (omega arith)) ∙ times_zero K _)
            (λ l h. ap (λ x. x ⊗ blocks m C D (m + l) j) (blocks_above m A B i (m + l) a (omega arith)) ∙ zero_times K _)
            ∙ ap₂ ◌⊕◌ (nothing m) (nothing k) ∙ plus_zero K _ ∙ sym (blocks_above m _ _ i j a (omega arith))
      ]
      | no a ↦ elim (dec_lt j m) [
        | yes b ↦ two_parts _ (λ l. 𝟘) (λ l. 𝟘)
            (λ l h. ap (λ x. x ⊗ blocks m C D l j) (blocks_below m A B i l (omega arith) h) ∙ zero_times K _)
            (λ l h. ap (λ x. blocks m A B i (m + l) ⊗ x) (blocks_below m C D (m + l) j (omega arith) b) ∙ times_zero K _)
            ∙ ap₂ ◌⊕◌ (nothing m) (nothing k) ∙ plus_zero K _ ∙ sym (blocks_below m _ _ i j (omega arith) b)
        | no b ↦ two_parts _ (λ l. 𝟘) (λ l. B (i - m) l ⊗ D l (j - m))
            (λ l h. ap (λ x. x ⊗ blocks m C D l j) (blocks_below m A B i l (omega arith) h) ∙ zero_times K _)
            (λ l h. ap₂ ◌⊗◌ (blocks_second m A B i (m + l) (omega arith) (omega arith) ∙ ap (B (i - m)) (omega arith))
            (blocks_second m C D (m + l) j (omega arith) (omega arith) ∙ ap (λ (x : ℕ). D x (j - m)) (omega arith)))
            ∙ ap₂ ◌⊕◌ (nothing m) (sym (product_at K k B D (i - m) (j - m))) ∙ zero_plus K _ ∙ sym (blocks_second m _ _ i j (omega arith) (omega arith))
      ]
    ]

  pub blocks_product : (m k : ℕ) (A B C D : Matrix K) → Within K k B → Within K k D → product K (m + k) (blocks m A B) (blocks m C D) ≡ blocks m (product K m A C) (product K k B D)
  blocks_product m k A B C D b d = matrix_equal K (m + k) _ _
      (product_within K (m + k) _ _ (blocks_within m k A B b) (blocks_within m k C D d))
      (blocks_within m k _ _ (product_within K k B D b d)) (blocks_product_at m k A B C D)

  pub blocks_identity : (m k : ℕ) → blocks m (identity K m) (identity K k) ≡ identity K (m + k)
  blocks_identity m k = matrix_equal K (m + k) _ _ (blocks_within m k _ _ (identity_within K k)) (identity_within K (m + k)) (λ i j l g. entry i j l g ∙ sym (identity_inside K (m + k) i j l))
    where
      shifted : (i j : ℕ) → m ≤ i → m ≤ j → delta K (i - m) (j - m) ≡ delta K i j
      shifted i j a b = elim (ℕ_discrete i j) [
        | yes e ↦ ap (λ (x : ℕ). delta K (x - m) (j - m)) e ∙ delta_same K (j - m) ∙ sym (ap (λ (x : ℕ). delta K x j) e ∙ delta_same K j)
        | no h ↦ delta_other K (i - m) (j - m) (omega arith) ∙ sym (delta_other K i j h)
      ]

      entry : (i j : ℕ) → i < m + k → j < m + k → blocks m (identity K m) (identity K k) i j ≡ delta K i j
      entry i j l g = elim (dec_lt i m) [
        | yes a ↦ elim (dec_lt j m) [
          | yes b ↦ blocks_first m _ _ i j a b ∙ identity_inside K m i j a
          | no b ↦ blocks_above m _ _ i j a (omega arith) ∙ sym (delta_other K i j (omega arith))
        ]
        | no a ↦ elim (dec_lt j m) [
          | yes b ↦ blocks_below m _ _ i j (omega arith) b ∙ sym (delta_other K i j (omega arith))
          | no b ↦ blocks_second m _ _ i j (omega arith) (omega arith) ∙ identity_inside K k (i - m) (j - m) (omega arith) ∙ shifted i j (omega arith) (omega arith)
        ]
      ]

  pub blocks_inverse : (m k : ℕ) (M I N J : Matrix K) → Inverse K m M I → Inverse K k N J → Inverse K (m + k) (blocks m M N) (blocks m I J)
  blocks_inverse m k M I N J h g = record {
    within = blocks_within m k M N g.within;
    inverse_within = blocks_within m k I J g.inverse_within;
    right = blocks_product m k M N I J g.within g.inverse_within ∙ ap₂ (blocks m) h.right g.right ∙ blocks_identity m k;
    left = blocks_product m k I J M N g.inverse_within g.within ∙ ap₂ (blocks m) h.left g.left ∙ blocks_identity m k;
  }
