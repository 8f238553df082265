-- Blocks along the diagonal of a matrix, each polynomial dividing the next, with ones in front so that there are as many as asked for.
use Rattle.std.specs.Prelude.{◌≡◌, length}
use Rattle.std.proofs.Math.Path.{refl, sym, ap, subst}
use Rattle.std.proofs.Common.{◌∙◌, add-zero, zero-add, suc-add}
use mathlib.Core.List.{List, [], ◌∷◌}
use Prim.Native.Nat.{ℕ, zero, suc, ◌+◌, ◌≤◌, ◌<◌}
use Rattle.std.proofs.Math.Decide.{dec_lt}
use native.Mathlib.Omega.{arith}
use Rattle.algebra.specs.Ring.{Ring, one_times}
use Rattle.algebra.specs.Matrix.{Matrix}
use Rattle.algebra.specs.Series.{constant, cons}
use Rattle.algebra.specs.Polynomial.{Polynomial, polynomials, Monic, one_series, constant_below}
use Rattle.algebra.specs.Divides.{Divides}
use Rattle.forms.specs.Numbers.{total}
use Rattle.forms.specs.Tests.{total_suc}
use Rattle.elimination.specs.Form.{Block, CompanionAt, Dividing, Form}

total_front : (n : ℕ) (g : ℕ → ℕ) → total (suc n) g ≡ g 0 + total n (λ i. g (suc i))
unfolding total
total_front zero g = omega arith
total_front (suc n) g = let e = total_front n g in let a = total_suc (suc n) g in let b = total_suc n (λ i. g (suc i)) in omega arith

module _ {R : Type 0} (K : Ring R) where
  abbrev L : Ring (Polynomial K)
  L = polynomials K

  -- entry b of a list of blocks; past its end zero
  unfoldable pub entry : List (Block K) → ℕ → Block K
  entry [] b = record { degree = 0; polynomial = L.zero }
  entry (c ∷ cs) zero = c
  entry (c ∷ cs) (suc b) = entry cs b

  -- 1, of degree 0
  one_block : Block K
  one_block = record { degree = 0; polynomial = L.one }

  one_monic : Monic K 0 L.one.0
  unfolding constant cons
  one_monic = subst (Monic K 0) (sym (one_series K)) (record { below = constant_below K K.one; lead = refl })

  -- z ones in front
  pub with_ones : ℕ → List (Block K) → List (Block K)
  with_ones zero bs = bs
  with_ones (suc z) bs = one_block ∷ with_ones z bs

  pub with_ones_length : (z : ℕ) (bs : List (Block K)) → length (with_ones z bs) ≡ z + length bs
  unfolding with_ones
  with_ones_length zero bs = sym (zero-add (length bs))
  with_ones_length (suc z) bs = ap suc (with_ones_length z bs) ∙ sym (suc-add z (length bs))

  module _ (n : ℕ) (B : Matrix K) where
    -- blocks along the diagonal from row o on; those of degree 0 take no row
    abbrev pub Along : ℕ → List (Block K) → Type 0
    Along o [] = o ≡ n
    Along o (c ∷ cs) = Monic K c.degree c.polynomial.0 × ((0 < c.degree → CompanionAt K B o c) × (Dividing K c cs × Along (o + c.degree) cs))

    pub along_form : (o : ℕ) (bs : List (Block K)) → Form K n B o bs → Along o bs
    along_form o [] x = x
    along_form o (c ∷ cs) x = (x.0.monic, ((λ l. x.0), (x.1.0, along_form (o + c.degree) cs x.1.1)))

    pub along_ones : (z o : ℕ) (bs : List (Block K)) → Along o bs → Along o (with_ones z bs)
    unfolding with_ones one_block
    along_ones zero o bs x = x
    along_ones (suc z) o bs x = (one_monic, ((λ l. absurd (omega arith)), (divides (with_ones z bs), subst (λ (y : ℕ). Along y (with_ones z bs)) (sym (add-zero o)) (along_ones z o bs x))))
      where
        divides : (cs : List (Block K)) → Dividing K one_block cs
        divides [] = tt
        divides (c ∷ cs) = record { by = c.polynomial; is = sym (one_times L c.polynomial) }

    pub form_length : (o : ℕ) (bs : List (Block K)) → Form K n B o bs → o + length bs ≤ n
    form_length o [] x = omega arith
    form_length o (c ∷ cs) x = let h = form_length (o + c.degree) cs x.1.1 in omega (arith, x.0.some)

    pub along_fits : (o : ℕ) (cs : List (Block K)) → Along o cs → o ≤ n
    along_fits o [] x = omega arith
    along_fits o (c ∷ cs) x = let h = along_fits (o + c.degree) cs x.1.1.1 in omega arith

    pub entry_monic : (o : ℕ) (cs : List (Block K)) → Along o cs → (b : ℕ) → b < length cs → Monic K (entry cs b).degree (entry cs b).polynomial.0 × ((entry cs b).degree ≤ n)
    unfolding entry
    entry_monic o [] x b l = absurd (omega arith)
    entry_monic o (c ∷ cs) x zero l = let h = along_fits (o + c.degree) cs x.1.1.1 in (x.0, omega arith)
    entry_monic o (c ∷ cs) x (suc b) l = entry_monic (o + c.degree) cs x.1.1.1 b (omega arith)

    pub entry_divides : (o : ℕ) (cs : List (Block K)) → Along o cs → (b : ℕ) → suc b < length cs → Divides L (entry cs b).polynomial (entry cs (suc b)).polynomial
    unfolding entry
    entry_divides o [] x b l = absurd (omega arith)
    entry_divides o (c ∷ []) x b l = absurd (omega arith)
    entry_divides o (c ∷ d ∷ cs) x zero l = x.1.1.0
    entry_divides o (c ∷ d ∷ cs) x (suc b) l = entry_divides (o + c.degree) (d ∷ cs) x.1.1.1 b (omega arith)

    pub entry_beyond : (cs : List (Block K)) (b : ℕ) → length cs ≤ b → (entry cs b).polynomial ≡ L.zero
    unfolding entry
    entry_beyond [] b l = refl
    entry_beyond (c ∷ cs) zero l = absurd (omega arith)
    entry_beyond (c ∷ cs) (suc b) l = entry_beyond cs b (omega arith)

    pub degrees_total : (o : ℕ) (cs : List (Block K)) → Along o cs → o + total (length cs) (λ b. (entry cs b).degree) ≡ n
    unfolding entry total
    degrees_total o [] x = omega arith
    degrees_total o (c ∷ cs) x = let h = degrees_total (o + c.degree) cs x.1.1.1 in let e = total_front (length cs) (λ b. (entry (c ∷ cs) b).degree) in omega arith

    -- above a block there is nothing in its columns
    pub along_above : (o : ℕ) (cs : List (Block K)) → Along o cs → (i j : ℕ) → i < o → o ≤ j → j < n → B i j ≡ K.zero
    along_above o [] x i j l g h = absurd (omega arith)
    along_above o (c ∷ cs) x i j l g h = elim (dec_lt j (o + c.degree)) [
      | yes q ↦ (x.1.0 (omega arith)).above i j g q l
      | no q ↦ along_above (o + c.degree) cs x.1.1.1 i j (omega arith) (omega arith) h
    ]
