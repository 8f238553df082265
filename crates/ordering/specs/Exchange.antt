-- Two places exchanged: the permutation, what it makes of a list, and the change of basis.
use Rattle.std.specs.Prelude.{◌≡◌, ◌≢◌, List, ℕ, ◌≤◌, ◌<◌, length, get_or, set}
use Rattle.std.specs.List.{swap}
use Rattle.std.proofs.Common.{sym, ◌∙◌, ap, arith, length-set, get_or-set_same, get_or-set_other}
use Rattle.std.proofs.lemmas.List.Edits.{swap_is}
use Rattle.std.proofs.Math.Decide.{ℕ_discrete}
use Rattle.algebra.specs.Choice.{put, put_same, put_other}
use Rattle.algebra.specs.Ring.{Ring}
use Rattle.algebra.specs.Shapes.{Permutes}
use Rattle.basis.specs.Frame.{Frame, FrameWithin, Change}
use Rattle.ordering.specs.Reordering.{Reordered, reordered_change}

-- b in the place of a, and a in the place of b
pub exchange : ℕ → ℕ → ℕ → ℕ
exchange a b i = put b a (put a b (λ t. t)) i

exchange_second : (a b : ℕ) → exchange a b b ≡ a
unfolding exchange
exchange_second a b = put_same b a _

pub exchange_first : (a b : ℕ) → exchange a b a ≡ b
unfolding exchange
exchange_first a b = elim (ℕ_discrete a b) [ yes e ↦ ap (exchange a b) e ∙ exchange_second a b ∙ e | no o ↦ put_other b a _ a o ∙ put_same a b _ ]

pub exchange_other : (a b i : ℕ) → i ≢ a → i ≢ b → exchange a b i ≡ i
unfolding exchange
exchange_other a b i o d = put_other b a _ i d ∙ put_other a b _ i o

-- every place is a, or b, or stays
pub exchange_cases : (P : ℕ → ℕ → Type 0) (a b : ℕ) → P a b → P b a → ((i : ℕ) → i ≢ a → i ≢ b → P i i) → (i : ℕ) → P i (exchange a b i)
exchange_cases P a b x y z i = elim (ℕ_discrete i a) [
  | yes e ↦ rw (e, exchange_first a b) x
  | no o ↦ elim (ℕ_discrete i b) [ yes e ↦ rw (e, exchange_second a b) y | no d ↦ rw (exchange_other a b i o d) (z i o d) ]
]

pub exchange_below : (k a b : ℕ) → a < k → b < k → (i : ℕ) → i < k → exchange a b i < k
exchange_below k a b l g = exchange_cases (λ i t. i < k → t < k) a b (λ h. g) (λ h. l) (λ i o d h. h)

exchange_twice : (a b i : ℕ) → exchange a b (exchange a b i) ≡ i
exchange_twice a b = exchange_cases (λ i t. exchange a b t ≡ i) a b (exchange_second a b) (exchange_first a b) (exchange_other a b)

exchange_permutes : (n a b : ℕ) → a < n → b < n → Permutes n (exchange a b) (exchange a b)
exchange_permutes n a b l g = record {
  below = exchange_below n a b l g;
  back_below = exchange_below n a b l g;
  back = λ i h. exchange_twice a b i;
  forth = λ i h. exchange_twice a b i;
}

-- a list with two entries exchanged
pub swap_at : {A : Type 0} (d : A) (a b : ℕ) (x : List A) → a < length x → b < length x → (i : ℕ) → get_or (swap x a b) i d ≡ get_or x (exchange a b i) d
swap_at d a b x l g i = rw (sym (swap_is x a b d l g)) (elim (ℕ_discrete i b) [
  | yes e ↦ rw (e, exchange_second a b) (get_or-set_same (set x a (get_or x b d)) b (get_or x a d) d (rw (length-set x a (get_or x b d)) g))
  | no o ↦ get_or-set_other (set x a (get_or x b d)) b i (get_or x a d) d o ∙ elim (ℕ_discrete i a) [
    | yes e ↦ rw (e, exchange_first a b) (get_or-set_same x a (get_or x b d) d l)
    | no q ↦ rw (exchange_other a b i q o) (get_or-set_other x a i (get_or x b d) d q)
  ]
])

-- two vectors of a window exchanged
pub exchanged_change : {R : Type 0} (K : Ring R) (n k a b : ℕ) (X Y : Frame K) → a < k → b < k → k ≤ n → FrameWithin K n X → FrameWithin K n Y → Reordered K n (exchange a b) X Y → Change K n k X Y
exchanged_change K n k a b X Y l g h x y r = reordered_change K n k (exchange a b) (exchange a b) (exchange_permutes n a b (omega arith) (omega arith)) h
    (exchange_below k a b l g) stays (exchange_below k a b l g) stays X Y x y r
  where
    stays : (i : ℕ) → k ≤ i → exchange a b i ≡ i
    stays i q = exchange_other a b i (omega arith) (omega arith)
