-- The pass in code: what its steps say of the state.
use Rattle.std.specs.Prelude.{◌≡◌, ◌≢◌, true, List, ℕ, suc, ◌+◌, ◌≤◌, ◌<◌, get_or, Option, Some, None}
use Rattle.std.specs.Option.{is_some}
use Rattle.std.proofs.Common.{sym, ◌∙◌, ap, ap₂, subst, add-one, arith}
use Rattle.std.proofs.Math.Decide.{ℕ_discrete}
use Rattle.std.proofs.lemmas.Bool.{false≢true}
use Rattle.algebra.specs.Modular.{modulo}
use Rattle.matrices.specs.Matrices.{cell, vector, matrix}
use Rattle.ordering.specs.Exchange.{exchange}
use Rattle.ordering.specs.Reordering.{Reordered}
use Rattle.basis.specs.Replace.{Replaced}
use Rattle.splitting.specs.Pass.{Ready, Passed, passed_start, passed_then, Pulled, push_passes, pull_pulls, Chained, pass_ends}
use Rattle.basis.specs.declared.steps.State.{State}
use Rattle.basis.specs.State.{Array, frame, frame_within, Given, prime_distinct, zero_entry, entry_nonzero, nonzero_entry, column_vector}
use Rattle.ordering.specs.Orders.{InOrder}
use Rattle.basis.specs.Searches.{column_of, column_of_at, FirstNonzero, Found}
use Rattle.splitting.specs.Reaching.{HasPivot, Reach}

module _ (p n k j q : ℕ) (s : State) (g : Given p n k s) (r : Ready (modulo p) k j (frame p n s)) (l : q < k) (f : FirstNonzero (λ i. cell s.b i j) (j + 1) k q) where
  cell_zero : (i : ℕ) → j < i → i < q → matrix p n s.b i j ≡ (modulo p).zero
  cell_zero i a b = zero_entry p n s.b i j (omega (arith, g.fits)) (omega (arith, g.fits)) (f.zeros i (omega arith) b)

  cell_hit : matrix p n s.b q j ≢ (modulo p).zero
  cell_hit = entry_nonzero p n s.b q j g.fields.B (omega (arith, g.fits)) (omega (arith, g.fits, f.low)) (f.hit l)

  pub pull_none : q ≤ j + 1 → Pulled (modulo p) n k j (frame p n s) (frame p n s)
  pull_none e = record { passed = passed_start (modulo p) n k j (suc j) (frame p n s) r; pivot = subst (λ (y : ℕ). matrix p n s.b y j ≢ (modulo p).zero) (omega (arith, f.low)) cell_hit }

  pub pull_some : (t : State) → j + 1 < q → InOrder n (exchange (j + 1) q) s t → Pulled (modulo p) n k j (frame p n s) (frame p n t)
  pull_some t d m = pull_pulls (modulo p) (prime_distinct p g.prime_p) n k j q (frame p n s) (frame p n t) l g.fits (omega arith) (frame_within p n s) (frame_within p n t) r
      (cell_zero (suc j) (omega arith) (omega arith)) cell_hit (subst (λ (i : ℕ). Reordered (modulo p) n (exchange i q) (frame p n s) (frame p n t)) (add-one j) (m.reordered p))

-- column j in the place of e_(j+1)
pub push_some : (p n k j : ℕ) (s : State) (w : List ℕ) (t : State) → Given p n k s → Ready (modulo p) k j (frame p n s) → j + 1 < k → w ≡ column_of n s.b j
    → Replaced (modulo p) n (j + 1) (vector p n w) (frame p n s) (frame p n t) → Passed (modulo p) n k j (frame p n s) (suc j) (suc j) (frame p n t)
push_some p n k j s w t g r l e m = push_passes (modulo p) n k j (vector p n w) (frame p n s) (frame p n t) (omega arith) g.fits (frame_within p n s) r
    (column_vector p n j s.b w (omega (arith, g.fits)) (λ i h. ap (λ (x : List ℕ). get_or x i 0) e ∙ column_of_at n s.b j i h)) (rw (add-one j) at m)

pub push_nonzero : (p n k j : ℕ) (s : State) (w : List ℕ) → k ≤ n → j + 1 < k → w ≡ column_of n s.b j → matrix p n s.b (suc j) j ≢ (modulo p).zero → get_or w (j + 1) 0 ≢ 0
push_nonzero p n k j s w kn l e h z = nonzero_entry p n s.b (suc j) j (omega arith) (omega arith) h
    (sym (column_of_at n s.b j (suc j) (omega arith)) ∙ ap₂ (λ (x : List ℕ) (y : ℕ). get_or x y 0) (sym e) (sym (add-one j)) ∙ z)

pub chain_turn : (p n k j : ℕ) (s t u v : State) → Passed (modulo p) n k 0 (frame p n s) j j (frame p n t) → Pulled (modulo p) n k j (frame p n t) (frame p n u) → Passed (modulo p) n k j (frame p n u) (suc j) (suc j) (frame p n v)
    → Passed (modulo p) n k 0 (frame p n s) (j + 1) (j + 1) (frame p n v)
chain_turn p n k j s t u v x y z = rw (add-one j) (passed_then (modulo p) n k 0 j (suc j) (suc j) (suc j) (omega arith) (omega arith)
    (passed_then (modulo p) n k 0 j j j (suc j) (omega arith) (omega arith) x y.passed) z)

pub chain_end : (p n k j : ℕ) (s t : State) → Given p n k t → j < k → ((i : ℕ) → j + 1 ≤ i → i < k → cell t.b i j ≡ 0)
    → Passed (modulo p) n k 0 (frame p n s) j j (frame p n t) → Chained (modulo p) n k (frame p n s) (suc j) (frame p n t)
chain_end p n k j s t g l z x = pass_ends (modulo p) (prime_distinct p g.prime_p) n k j (frame p n s) (frame p n t) l x (λ i a b.
    zero_entry p n t.b i j (omega (arith, g.fits)) (omega (arith, g.fits)) (z i (omega arith) (omega arith)))

-- how far the pivots go
pub reach_pivot : (k j : ℕ) (b : Array) (r : Option ℕ) → Found (λ i. cell b i j) (j + 1) k r → is_some r ≡ true → HasPivot k b j
reach_pivot k j b (Some q) f e = (q, omega (arith, f.0.low), f.1, f.0.hit f.1)
reach_pivot k j b None f e = absurd (false≢true e)

pub reach_turn : (k j : ℕ) (b : Array) → ((i : ℕ) → i < j → HasPivot k b i) → HasPivot k b j → (i : ℕ) → i < j + 1 → HasPivot k b i
reach_turn k j b h v i l = elim (ℕ_discrete j i) [ yes e ↦ subst (HasPivot k b) e v | no e ↦ h i (omega arith) ]

-- a column without a pivot below its diagonal ends the reach behind it
pub reach_stops : (k j q : ℕ) (b : Array) → j < k → FirstNonzero (λ i. cell b i j) (j + 1) k q → k ≤ q → ((i : ℕ) → i < j → HasPivot k b i) → Reach k b (j + 1)
reach_stops k j q b l f h x = record {
  some = omega arith;
  fits = omega arith;
  stop = λ i a c. ap (cell b i) (omega arith) ∙ f.zeros i a (omega arith);
  on = λ i a. x i (omega arith);
}

-- pivots in all columns but the last reach to the end of the window
pub reach_ends : (k j : ℕ) (b : Array) → j < k → k ≤ j + 1 → ((i : ℕ) → i < j → HasPivot k b i) → Reach k b k
reach_ends k j b l h x = record { some = omega arith; fits = omega arith; stop = λ i a c. absurd (omega arith); on = λ i a. x i (omega arith) }
