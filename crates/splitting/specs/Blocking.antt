-- The growing block in code: what its steps say of the state.
use Rattle.std.specs.Prelude.{◌≡◌, ◌≢◌, List, [], ℕ, suc, ◌+◌, ◌-◌, ◌≤◌, ◌<◌, get_or, set}
use Rattle.std.proofs.Common.{sym, ◌∙◌, ap, ap₂, subst, add-one, arith, length-set, get_or-set_same, get_or-set_other}
use Rattle.std.proofs.Math.Decide.{dec_lt, ℕ_discrete}
use Rattle.std.proofs.lemmas.List.{length-replicate}
use Rattle.forms.specs.Numbers.{order_limit}
use Rattle.algebra.specs.Ring.{zero_plus, plus_zero}
use Rattle.algebra.specs.Sum.{delta, delta_same, delta_other}
use Rattle.algebra.specs.Modular.{residue, modulo, residue_one}
use Rattle.matrices.specs.Matrices.{cell, vector, matrix, vector_inside, vector_upto, matrix_inside, FieldRow, zero_row, zero_row_at}
use Rattle.forms.specs.Primes.{prime_means, prime_positive}
use Rattle.matrices.specs.Rows.{unit_row, unit_row_at}
use Rattle.basis.specs.Frame.{Frame, Window, Change, change_then}
use Rattle.basis.specs.Shear.{OnColumns, OnRows}
use Rattle.basis.specs.Replace.{Replaced}
use Rattle.splitting.specs.Wipe.{wipe_change, wipe_columns, wipe_rows, wipe_zero}
use Rattle.ordering.specs.Reordering.{Reordered}
use Rattle.ordering.specs.Rotation.{rotation, rotated_change}
use Rattle.splitting.specs.Pass.{Ready, ready_first, Chained}
use Rattle.splitting.specs.Settle.{Headed, Wiped, wiped_none, Cleared, clear_turn, cleared_headed, Settled, headed_flat, settled_same, settled_longer, chained_headed}
use Rattle.splitting.specs.Probe.{Joined, joined_ready, joined_headed, Probing, Probed, probe_start, probing_of_settled, probe_skip, probe_longer, probe_turn, probed_of_settled, probed_then, Split, split_of_probed}
use Rattle.basis.specs.declared.steps.State.{State}
use Rattle.basis.specs.State.{frame, frame_within, Given, prime_distinct, zero_entry, entry_nonzero, field_row}
use Rattle.basis.specs.Steps.{opposite_unit}
use Rattle.basis.specs.Changes.{spread}
use Rattle.basis.specs.Searches.{FirstNonzero}
use Rattle.splitting.specs.Tails.{tail_of, tail_before, tail_low, tail_high, tail_upto, tail_field}
use Rattle.splitting.specs.Reaching.{Reach, reach_is}
use Rattle.splitting.specs.Tests.{NothingInRow, NothingBehind, FirstUnkilled}
use Rattle.ordering.specs.Orders.{InOrder}

module _ (p n k m a : ℕ) (s : State) (g : Given p n k s) (h : Headed (modulo p) k m (frame p n s)) (l : a + 1 < m) where
  -- row a + 1 has nothing from column m on
  pub wiped_already : NothingInRow m k s.b (a + 1) → Wiped (modulo p) n k m a (frame p n s) (frame p n s)
  wiped_already z = wiped_none (modulo p) n k m a (frame p n s) (λ t b. elim (dec_lt t k) [
    | yes c ↦ zero_entry p n s.b (suc a) t (omega (arith, g.fits, h.fits)) (omega (arith, g.fits)) (ap (λ (i : ℕ). cell s.b i t) (sym (add-one a)) ∙ z t b c)
    | no c ↦ h.window.right (suc a) t (omega (arith, h.fits)) (omega arith)
  ])

  module _ (v : List ℕ) (ev : v ≡ tail_of p m k (get_or s.b (a + 1) [])) where
    next_row : FieldRow p n (get_or s.b (a + 1) [])
    next_row = field_row p n s.b (a + 1) (omega (arith, g.fits, h.fits)) g.fields.B

    pub wiping_field : FieldRow p n v
    wiping_field = rw ev (tail_field p n m k _ (prime_positive p g.prime_p) g.fits next_row)

    pub wiped_now : {Y Z : Frame (modulo p)} → OnColumns (modulo p) n (delta (modulo p) a) (vector p n v) (frame p n s) Y → OnRows (modulo p) n (opposite_unit p a) (vector p n v) Y Z
        → Wiped (modulo p) n k m a (frame p n s) Z
    wiped_now x y =
        let positive : 0 < p = prime_positive p g.prime_p in
        let inside : a + 1 < n = omega (arith, g.fits, h.fits) in
        let low : (q : ℕ) → q < m → vector p n v q ≡ (modulo p).zero = λ q d. ap (λ (x : List ℕ). vector p n x q) ev ∙ tail_low p n m k _ positive g.fits next_row q d in
        let high : (q : ℕ) → m ≤ q → q < k → vector p n v q ≡ (modulo p).minus (matrix p n s.b (suc a) q) = λ q d o.
        ap (λ (x : List ℕ). vector p n x q) ev ∙ tail_high p n m k _ positive g.fits next_row q d o ∙ ap (λ (i : ℕ). (modulo p).minus (residue p (cell s.b i q))) (add-one a)
        ∙ ap (modulo p).minus (sym (matrix_inside p n s.b (suc a) q (omega arith) (omega (arith, g.fits)))) in
        let upto : (q : ℕ) → k ≤ q → vector p n v q ≡ (modulo p).zero = λ q d. ap (λ (x : List ℕ). vector p n x q) ev ∙ tail_upto p n m k _ positive g.fits next_row q d in
        let sheared = spread p n a v (omega arith) (ap (λ (x : List ℕ). get_or x a 0) ev ∙ tail_before p n m k _ positive g.fits next_row a (omega arith)) x y in
        record {
          change = wipe_change (modulo p) n k m a (vector p n v) _ _ (omega arith) h.fits g.fits (frame_within p n s) low high upto h.columns sheared;
          columns = wipe_columns (modulo p) n k m a (vector p n v) _ _ (omega arith) h.fits g.fits (frame_within p n s) low high upto h.columns sheared;
          rows = wipe_rows (modulo p) n k m a (vector p n v) _ _ (omega arith) h.fits g.fits (frame_within p n s) low high upto h.columns sheared;
          zeros = wipe_zero (modulo p) n k m a (vector p n v) _ _ (omega arith) h.fits g.fits (frame_within p n s) low high upto h.columns sheared h.window;
        }

pub clear_next : (p n k m r : ℕ) (s t u : State) → 0 < r → Cleared (modulo p) n k m r (frame p n s) (frame p n t) → Wiped (modulo p) n k m (r - 1) (frame p n t) (frame p n u) → Cleared (modulo p) n k m (r - 1) (frame p n s) (frame p n u)
clear_next p n k m r s t u l x y = let e : r ≡ suc (r - 1) = omega arith in
    clear_turn (modulo p) n k m (r - 1) (frame p n s) (frame p n t) (frame p n u) (subst (λ (q : ℕ). Cleared (modulo p) n k m q (frame p n s) (frame p n t)) e x) y

-- row r has nothing from column m on
pub clear_skips : (p n k m r : ℕ) (s t : State) → Given p n k t → Headed (modulo p) k m (frame p n t) → 0 < r → r < m → Cleared (modulo p) n k m r (frame p n s) (frame p n t)
    → NothingInRow m k t.b r → Cleared (modulo p) n k m (r - 1) (frame p n s) (frame p n t)
clear_skips p n k m r s t g h l rm x z = clear_next p n k m r s t t l x (wiped_already p n k m (r - 1) t g h (omega arith) (subst (NothingInRow m k t.b) (omega arith) z))

module _ (p n k m : ℕ) (s c : State) (g : Given p n k c) (h : Headed (modulo p) k m (frame p n s)) (x : Cleared (modulo p) n k m 0 (frame p n s) (frame p n c)) where
  -- row 0 has nothing from column m on
  pub settled_here : NothingInRow m k c.b 0 → Settled (modulo p) n k m (frame p n s) m (frame p n c)
  settled_here z = settled_same (modulo p) n k m (frame p n s) (frame p n c) h x (λ t a b. zero_entry p n c.b 0 t (omega (arith, g.fits)) (omega (arith, g.fits)) (z t a b))

  module _ (j : ℕ) (f : FirstNonzero (cell c.b 0) m k j) (l : j < k) (y : State) (o : InOrder n (rotation j (j + 1)) c y) where
    turned_change : Change (modulo p) n k (frame p n c) (frame p n y)
    turned_change = rotated_change (modulo p) n j (j + 1) k _ _ (omega arith) (omega arith) g.fits (frame_within p n c) (frame_within p n y) (o.reordered p)

    pub turned_ready : Ready (modulo p) k 0 (frame p n y)
    turned_ready = ready_first (modulo p) k (frame p n y) (turned_change.window (cleared_headed (modulo p) n k m 0 _ _ h x).window)

    pub settled_further : (q : ℕ) (r : State) → Chained (modulo p) n k (frame p n y) q (frame p n r) → Settled (modulo p) n k m (frame p n s) q (frame p n r)
    settled_further q r z = settled_longer (modulo p) (prime_distinct p g.prime_p) n k m j q (frame p n s) (frame p n c) (frame p n y) (frame p n r) g.fits f.low l
        (frame_within p n c) (frame_within p n y) h x (entry_nonzero p n c.b 0 j g.fields.B (omega (arith, g.fits)) (omega (arith, g.fits)) (f.hit l))
        (subst (λ (i : ℕ). Reordered (modulo p) n (rotation j i) (frame p n c) (frame p n y)) (add-one j) (o.reordered p)) z

-- e_0 + e_j
abbrev pub joined_row : ℕ → List ℕ
joined_row j = set (unit_row 0) j 1

module _ (p n j : ℕ) (o : n ≤ order_limit) (a : 0 < j) (b : j < n) where
  joined_second : get_or (joined_row j) j 0 ≡ 1
  joined_second = get_or-set_same (unit_row 0) j 1 0 (omega (arith, length-set zero_row 0 1, length-replicate {A = ℕ} order_limit 0))

  pub joined_first : get_or (joined_row j) 0 0 ≡ 1
  joined_first = get_or-set_other (unit_row 0) j 0 1 0 (omega arith) ∙ get_or-set_same zero_row 0 1 0 (omega (arith, length-replicate {A = ℕ} order_limit 0))

  joined_other : (i : ℕ) → i ≢ j → i ≢ 0 → get_or (joined_row j) i 0 ≡ 0
  joined_other i c d = get_or-set_other (unit_row 0) j i 1 0 c ∙ get_or-set_other zero_row 0 i 1 0 d ∙ zero_row_at i

  pub joined_field : 1 < p → FieldRow p n (joined_row j)
  joined_field h = record {
    small = λ i l. elim (ℕ_discrete i j) [
      | yes e ↦ rw (e, joined_second) h
      | no c ↦ elim (ℕ_discrete i 0) [ yes e ↦ rw (e, joined_first) h | no d ↦ rw (joined_other i c d) (omega arith) ]
    ];
    rest = λ i l. joined_other i (omega arith) (omega arith);
  }

  joined_vector : (i : ℕ) → vector p n (joined_row j) i ≡ (modulo p).plus (delta (modulo p) 0 i) (delta (modulo p) j i)
  joined_vector i = elim (ℕ_discrete i j) [
    | yes e ↦ rw e (vector_inside p n (joined_row j) j b ∙ ap (residue p) joined_second ∙ residue_one p
        ∙ sym (ap₂ (modulo p).plus (delta_other (modulo p) 0 j (omega arith)) (delta_same (modulo p) j) ∙ zero_plus (modulo p) _))
    | no c ↦ elim (dec_lt i n) [
      | yes l ↦ vector_inside p n (joined_row j) i l ∙ ap (residue p) (get_or-set_other (unit_row 0) j i 1 0 c) ∙ unit_row_at 0 (omega arith) p i
      | no l ↦ vector_upto p n (joined_row j) i (omega arith) ∙ sym (delta_other (modulo p) 0 i (omega arith))
    ] ∙ sym (ap ((modulo p).plus (delta (modulo p) 0 i)) (delta_other (modulo p) j i (λ e. c (sym e))) ∙ plus_zero (modulo p) _)
  ]

module _ (p n k j : ℕ) (s : State) (w : List ℕ) (t : State) (g : Given p n k s) (a : 0 < j) (l : j < k) (e : w ≡ joined_row j) (x : Replaced (modulo p) n 0 (vector p n w) (frame p n s) (frame p n t)) where
  vector_is : (i : ℕ) → vector p n w i ≡ (modulo p).plus (delta (modulo p) 0 i) (delta (modulo p) j i)
  vector_is i = rw e (joined_vector p n j g.order a (omega (arith, g.fits)) i)

  pub join_ready : Window (modulo p) k (matrix p n s.b) → Ready (modulo p) k 0 (frame p n t)
  join_ready v = joined_ready (modulo p) n k j (vector p n w) (frame p n s) (frame p n t) g.fits l (frame_within p n s) v vector_is x

  pub joined : (r : State) → (m : ℕ) × Chained (modulo p) n k (frame p n t) m (frame p n r) → Joined (modulo p) n k j (frame p n s) (frame p n r)
  joined r c = record { Z = frame p n t; w = vector p n w; is = vector_is; replaced = x; h = c.0; chained = c.1 }

-- the vectors before the one that a test finds are killed as they stand; that one is joined to e_0
pub probe_skips : (p n k m j r : ℕ) (s t : State) → k ≤ n → Probing (modulo p) n k m j (frame p n s) (frame p n t) → FirstUnkilled p n m j k t.b r → Probing (modulo p) n k m r (frame p n s) (frame p n t)
probe_skips p n k m j r s t kn x f = probe_skip (modulo p) n k m j r (frame p n s) (frame p n t) (omega (arith, f.high)) x f.killed

module _ (p n k m j : ℕ) (s t u : State) (g : Given p n k u) (mj : m ≤ j) (jk : j < k) (x : Probing (modulo p) n k m j (frame p n s) (frame p n t)) (y : Joined (modulo p) n k j (frame p n t) (frame p n u)) (r : ℕ) (z : Reach k u.b r) where
  length_is : y.h ≡ r
  length_is = reach_is p n k y.h r u (prime_means p g.prime_p) g.fits g.fields (joined_headed (modulo p) n k m j (frame p n s) (frame p n t) (frame p n u) g.fits mj jk (frame_within p n t) x y) z

  pub probe_grows : m < r → (h : ℕ) × Probed (modulo p) n k m (frame p n s) h (frame p n u)
  probe_grows l = (y.h, probe_longer (modulo p) n k m j (frame p n s) (frame p n t) (frame p n u) g.fits mj jk (frame_within p n t) x y (omega (arith, length_is)))

  pub probe_goes_on : r ≤ m → Probing (modulo p) n k m (j + 1) (frame p n s) (frame p n u)
  probe_goes_on l = rw (add-one j) (probe_turn (modulo p) n k m j (frame p n s) (frame p n t) (frame p n u) g.fits mj jk (frame_within p n t) x y (omega (arith, length_is)))

-- nothing is left behind the block, as a test says
pub settled_already : (p n k m : ℕ) (c : State) → Given p n k c → Headed (modulo p) k m (frame p n c) → NothingBehind m k c.b → Probing (modulo p) n k m m (frame p n c) (frame p n c)
settled_already p n k m c g h z = probe_start (modulo p) n k m (frame p n c) h (headed_flat (modulo p) k m (frame p n c) h (λ i t a b l.
    zero_entry p n c.b i t (omega (arith, g.fits, h.fits)) (omega (arith, g.fits)) (z i a t b l)))

-- a longer block was made, or nothing is left behind the block
module _ (p n k m : ℕ) (s c : State) (g : Given p n k c) (x : (h : ℕ) × Settled (modulo p) n k m (frame p n s) h (frame p n c)) (r : ℕ) (z : Reach k c.b r) where
  settled_is : x.0 ≡ r
  settled_is = reach_is p n k x.0 r c (prime_means p g.prime_p) g.fits g.fields x.1.headed z

  pub settle_grows : m < r → (h : ℕ) × Probed (modulo p) n k m (frame p n s) h (frame p n c)
  settle_grows l = (x.0, probed_of_settled (modulo p) n k m (frame p n s) x.0 (frame p n c) x.1 (omega (arith, settled_is)))

  pub settle_stays : r ≤ m → Probing (modulo p) n k m m (frame p n s) (frame p n c)
  settle_stays l = let e : x.0 ≡ m = omega (arith, settled_is, x.1.grown) in probing_of_settled (modulo p) n k m (frame p n s) (frame p n c) (subst (λ (q : ℕ). Settled (modulo p) n k m (frame p n s) q (frame p n c)) e x.1)

-- what the probe makes of it
pub settle_probes : (p n k m : ℕ) (s c u : State) → Probing (modulo p) n k m m (frame p n s) (frame p n c) → (h : ℕ) × Probed (modulo p) n k m (frame p n c) h (frame p n u) → (h : ℕ) × Probed (modulo p) n k m (frame p n s) h (frame p n u)
settle_probes p n k m s c u x y = (y.0, probed_then (modulo p) n k m (frame p n s) (frame p n c) y.0 (frame p n u) x.change y.1)

-- the turns
module _ (p n k m : ℕ) (s c u : State) (g : Given p n k u) (x : Change (modulo p) n k (frame p n s) (frame p n c)) (y : (h : ℕ) × Probed (modulo p) n k m (frame p n c) h (frame p n u)) (r : ℕ) (z : Reach k u.b r) where
  probed_is : y.0 ≡ r
  probed_is = reach_is p n k y.0 r u (prime_means p g.prime_p) g.fits g.fields y.1.headed z

  pub split_ends : r ≤ m → (h : ℕ) × Split (modulo p) n k (frame p n s) h (frame p n u)
  split_ends l = (m, split_of_probed (modulo p) n k m (frame p n s) (frame p n c) y.0 (frame p n u) x y.1 (omega (arith, probed_is)))

  pub split_turn : Change (modulo p) n k (frame p n s) (frame p n u) × Headed (modulo p) k r (frame p n u)
  split_turn = (change_then (modulo p) n k x y.1.change, subst (λ (q : ℕ). Headed (modulo p) k q (frame p n u)) probed_is y.1.headed)

pub chained_reach : (p n k : ℕ) (s c : State) → Given p n k c → (m : ℕ) × Chained (modulo p) n k (frame p n s) m (frame p n c) → (r : ℕ) → Reach k c.b r → Headed (modulo p) k r (frame p n c)
chained_reach p n k s c g x r z = let h = chained_headed (modulo p) n k (frame p n s) x.0 (frame p n c) x.1 in
    subst (λ (q : ℕ). Headed (modulo p) k q (frame p n c)) (reach_is p n k x.0 r c (prime_means p g.prime_p) g.fits g.fields h z) h

pub split_reach : (p n k : ℕ) (s c : State) → Given p n k c → (m : ℕ) × Split (modulo p) n k (frame p n s) m (frame p n c) → (r : ℕ) → Reach k c.b r → Split (modulo p) n k (frame p n s) r (frame p n c)
split_reach p n k s c g x r z = subst (λ (q : ℕ). Split (modulo p) n k (frame p n s) q (frame p n c)) (reach_is p n k x.0 r c (prime_means p g.prime_p) g.fits g.fields x.1.headed z) x.1
