-- The kernel lemma: fewer than n equations in n unknowns over a domain have a solution that is not zero.
-- By induction on n: a pivot row clears the last column of the others by cross multiplication.
use Rattle.std.specs.Prelude.{◌≡◌, refl, ◌≢◌, ◌⊎◌, List, [], ◌∷◌, map, ℕ, zero, suc, ◌<◌, length}
use Rattle.std.proofs.Common.{sym, ◌∙◌, subst, inl, inr, arith}
use Rattle.std.proofs.Math.Path.{ap, ap₂}
use Rattle.std.proofs.Math.Decide.{ℕ_discrete}
use Rattle.std.proofs.lemmas.List.{length-map}
use Rattle.algebra.specs.Choice.{put, put_same, put_other}
use Rattle.algebra.specs.Ring.{Ring, times_zero, zero_times, plus_zero, times_left_commutative, times_minus, plus_minus}
use Rattle.algebra.specs.Solver.{var, ◌:+◌, ◌:*◌, :-◌, solve}
use Rattle.algebra.specs.Sum.{sum, sum_suc, sum_equal, sum_of_plus, sum_of_minus, sum_times_left, sum_of_zero}
use Rattle.algebra.specs.Matrix.{Vector, inner, inner_at}
use Rattle.algebra.specs.Domain.{Domain}

-- P holds of each element
abbrev pub All : {A : Type 0} → (A → Type 0) → List A → Type 0
All P [] = Unit {0}
All P (x ∷ l) = P x × All P l

all_map : {A B : Type 0} (f : A → B) (P : B → Type 0) (l : List A) → All P (map f l) → All (λ x. P (f x)) l
all_map f P [] h = tt
all_map f P (x ∷ l) h = (h.0, all_map f P l h.1)

all_follow : {A : Type 0} (P Q : A → Type 0) → ((x : A) → P x → Q x) → (l : List A) → All P l → All Q l
all_follow P Q f [] h = tt
all_follow P Q f (x ∷ l) h = (f x h.0, all_follow P Q f l h.1)

-- f (k-1) ∷ .. ∷ f 0
pub first : {A : Type 0} → (ℕ → A) → ℕ → List A
first f zero = []
first f (suc k) = f k ∷ first f k

first_length : {A : Type 0} (f : ℕ → A) (k : ℕ) → length (first f k) ≡ k
unfolding first
first_length f zero = refl
first_length f (suc k) = ap suc (first_length f k)

all_first : {A : Type 0} (P : A → Type 0) (f : ℕ → A) (k : ℕ) → All P (first f k) → (i : ℕ) → i < k → P (f i)
unfolding first
all_first P f zero h i l = absurd (omega arith)
all_first P f (suc k) h i l = elim (ℕ_discrete i k) [
  | yes e ↦ subst (λ (x : ℕ). P (f x)) (sym e) h.0
  | no n ↦ all_first P f k h.1 i (omega arith)
]

module _ {R : Type 0} (K : Ring R) (D : Domain K) where
  open K use {plus as ◌⊕◌, times as ◌⊗◌, minus as ⊖◌, zero as 𝟘, one as 𝟙}

  infixl 60 ◌⊕◌
  infixl 70 ◌⊗◌
  infix 80 ⊖◌
  -- a row whose entry at n is not zero, and the other rows
  record Pivot (n : ℕ) (rows : List (Vector K)) : Type 1 where
    row : Vector K
    rest : List (Vector K)
    nonzero : row n ≢ 𝟘
    shorter : length rows ≡ suc (length rest)
    gather : (P : Vector K → Type 0) → P row → All P rest → All P rows

  pivot_or_zero : (n : ℕ) (b : Vector K) (rows : List (Vector K)) → Dec (b n ≡ 𝟘) → All (λ r. r n ≡ 𝟘) rows ⊎ Pivot n rows → All (λ r. r n ≡ 𝟘) (b ∷ rows) ⊎ Pivot n (b ∷ rows)
  pivot_or_zero n b rows (no h) s = inr (record { row = b; rest = rows; nonzero = h; shorter = refl; gather = λ P p q. (p, q) })
  pivot_or_zero n b rows (yes z) (inl a) = inl (z, a)
  pivot_or_zero n b rows (yes z) (inr v) = inr (record {
    row = v.row;
    rest = b ∷ v.rest;
    nonzero = v.nonzero;
    shorter = ap suc v.shorter;
    gather = λ P p q. (q.0, v.gather P p q.1);
  })

  find_pivot : (n : ℕ) (rows : List (Vector K)) → All (λ r. r n ≡ 𝟘) rows ⊎ Pivot n rows
  find_pivot n [] = inl tt
  find_pivot n (b ∷ rows) = pivot_or_zero n b rows (D.decide (b n)) (find_pivot n rows)

  inner_put : (n : ℕ) (b : Vector K) (x : R) (v : Vector K) → inner K (suc n) b (put n x v) ≡ inner K n b v ⊕ b n ⊗ x
  unfolding inner
  inner_put n b x v = sum_suc K _ n ∙ ap₂ ◌⊕◌ (sum_equal K _ _ n (λ i l. ap (λ y. b i ⊗ y) (put_other n x v i (omega arith)))) (ap (λ y. b n ⊗ y) (put_same n x v))

  -- a b - b_n row, with zero at n where a is the row's entry there
  cleared : R → Vector K → ℕ → Vector K → Vector K
  cleared a row n b k = a ⊗ b k ⊕ ⊖ (b n ⊗ row k)

  inner_cleared : (n m : ℕ) (a : R) (row b w : Vector K) → inner K m (cleared a row n b) w ≡ a ⊗ inner K m b w ⊕ ⊖ (b n ⊗ inner K m row w)
  unfolding inner cleared
  inner_cleared n m a row b w =
      sum_equal K _ (λ k. a ⊗ (b k ⊗ w k) ⊕ ⊖ (b n ⊗ (row k ⊗ w k))) m (λ k l.
      solve K (a ∷ b k ∷ b n ∷ row k ∷ w k ∷ []) ((var 0 :* var 1 :+ :- (var 2 :* var 3)) :* var 4) (var 0 :* (var 1 :* var 4) :+ :- (var 2 :* (var 3 :* var 4))) refl)
      ∙ sum_of_plus K _ _ m
      ∙ ap₂ ◌⊕◌ (sum_times_left K a _ m) (sum_of_minus K _ m ∙ ap ⊖◌ (sum_times_left K (b n) _ m))

  inner_scale : (m : ℕ) (a : R) (b w : Vector K) → inner K m b (λ k. a ⊗ w k) ≡ a ⊗ inner K m b w
  unfolding inner
  inner_scale m a b w = sum_equal K _ (λ k. a ⊗ (b k ⊗ w k)) m (λ k l. times_left_commutative K _ _ _) ∙ sum_times_left K a _ m

  -- the solution w of the cleared rows, stretched by a, with -(row · w) at n
  inner_stretched : (n : ℕ) (a : R) (row b w : Vector K) → inner K (suc n) b (put n (⊖ (inner K n row w)) (λ k. a ⊗ w k)) ≡ inner K n (cleared a row n b) w
  inner_stretched n a row b w = inner_put n b _ _ ∙ rw (inner_scale n a b w, inner_cleared, times_minus)

  inner_pivot : (n : ℕ) (row w : Vector K) → inner K n (cleared (row n) row n row) w ≡ 𝟘
  inner_pivot n row w = rw inner_cleared (plus_minus K _)

  record Solution (n : ℕ) (rows : List (Vector K)) : Type 0 where
    vector : Vector K
    place : ℕ
    place_below : place < n
    nonzero : vector place ≢ 𝟘
    solves : All (λ b. inner K n b vector ≡ 𝟘) rows

  -- the last column is zero, or its pivot clears it
  solve_last : (n : ℕ) (rows : List (Vector K)) → length rows < suc n → All (λ r. r n ≡ 𝟘) rows ⊎ Pivot n rows → ((rest : List (Vector K)) → length rest < n → Solution n rest) → Solution (suc n) rows
  solve_last n rows l (inl z) smaller = record {
    vector = put n 𝟙 (λ k. 𝟘);
    place = n;
    place_below = omega arith;
    nonzero = rw put_same D.one_nonzero;
    solves = all_follow _ _ (λ b e. inner_put n b 𝟙 (λ k. 𝟘) ∙ rw (e, zero_times, inner_at) (simp (times_zero, sum_of_zero, plus_zero))) rows z;
  }
  solve_last n rows l (inr v) smaller =
      let a = v.row n in
      let W = smaller (map (cleared a v.row n) v.rest) (omega (arith, v.shorter, length-map v.rest (cleared a v.row n))) in
      let x = ⊖ (inner K n v.row W.vector) in
      record {
        vector = put n x (λ k. a ⊗ W.vector k);
        place = W.place;
        place_below = omega (arith, W.place_below);
        nonzero = rw (put_other n x (λ k. a ⊗ W.vector k) W.place (omega (arith, W.place_below))) (D.nonzero_times a (W.vector W.place) v.nonzero W.nonzero);
        solves = v.gather _ (inner_stretched n a v.row v.row W.vector ∙ inner_pivot n v.row W.vector)
            (all_follow _ _ (λ b e. inner_stretched n a v.row b W.vector ∙ e) v.rest (all_map (cleared a v.row n) _ v.rest W.solves));
      }

  solution : (n : ℕ) (rows : List (Vector K)) → length rows < n → Solution n rows
  solution zero rows l = absurd (omega arith)
  solution (suc n) rows l = solve_last n rows l (find_pivot n rows) (solution n)

  -- k equations, rows 0 to k - 1 of A, in n unknowns
  pub record Kernel (k n : ℕ) (A : ℕ → Vector K) : Type 0 where
    pub vector : Vector K
    pub place : ℕ
    pub place_below : place < n
    pub nonzero : vector place ≢ 𝟘
    pub solves : (i : ℕ) → i < k → sum K (λ j. A i j ⊗ vector j) n ≡ 𝟘

  pub kernel : (k n : ℕ) (A : ℕ → Vector K) → k < n → Kernel k n A
  kernel k n A l =
      let S = solution n (first A k) (rw (first_length A k) l) in
      record {
        vector = S.vector;
        place = S.place;
        place_below = S.place_below;
        nonzero = S.nonzero;
        solves = λ i h. sym (inner_at K n (A i) S.vector) ∙ all_first (λ b. inner K n b S.vector ≡ 𝟘) A k S.solves i h;
      }
