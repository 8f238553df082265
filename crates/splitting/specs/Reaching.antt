-- How long the block at the head of a window is, read off the matrix.
use Rattle.std.specs.Prelude.{◌≡◌, ◌≢◌, ℕ, suc, ◌-◌, ◌≤◌, ◌<◌}
use Rattle.std.proofs.Common.{sym, ◌∙◌, ap, arith}
use Rattle.std.proofs.Math.Decide.{dec_lt}
use Rattle.algebra.specs.Sum.{delta, delta_same}
use Rattle.algebra.specs.Modular.{modulo, Prime, one_is_not_zero}
use Rattle.matrices.specs.Matrices.{cell}
use Rattle.splitting.specs.Settle.{Headed}
use Rattle.basis.specs.declared.steps.State.{State}
use Rattle.basis.specs.State.{Array, frame, Fields, zero_entry, entry_nonzero}

-- column j has something below the diagonal, in the window [0,k)
abbrev pub HasPivot : ℕ → Array → ℕ → Type 0
HasPivot k b j = (q : ℕ) × (j < q) × (q < k) × (cell b q j ≢ 0)

-- the columns before the last of r have a pivot, and that one has none
pub record Reach (k : ℕ) (b : Array) (r : ℕ) : Type 0 where
  pub some : 0 < r
  pub fits : r ≤ k
  pub stop : (i : ℕ) → r ≤ i → i < k → cell b i (r - 1) ≡ 0
  pub on : (j : ℕ) → suc j < r → HasPivot k b j

pub reach_is : (p n k m r : ℕ) (s : State) → Prime p → k ≤ n → Fields p n s → Headed (modulo p) k m (frame p n s) → Reach k s.b r → m ≡ r
reach_is p n k m r s P kn f x y = elim (dec_lt r m) [
  | yes a ↦ absurd (one_is_not_zero p P (sym (x.columns.unit r (r - 1) (omega (arith, y.some)) ∙ ap (λ (q : ℕ). delta (modulo p) q r) (omega (arith, y.some)) ∙ delta_same (modulo p) r)
      ∙ zero_entry p n s.b r (r - 1) (omega (arith, x.fits)) (omega (arith, x.fits)) (y.stop r (omega arith) (omega (arith, x.fits)))))
  | no a ↦ elim (dec_lt m r) [
    | yes c ↦ (let v : HasPivot k s.b (m - 1) = y.on (m - 1) (omega (arith, x.some)) in
        absurd (entry_nonzero p n s.b v.0 (m - 1) f.B (omega (arith, v.2)) (omega (arith, x.fits, x.some)) v.3 (x.columns.low v.0 (m - 1) (omega (arith, v.1)) (omega (arith, x.some)))))
    | no c ↦ omega arith
  ]
]
