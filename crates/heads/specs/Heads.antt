-- The rows of a matrix by the blocks that the entries just below the diagonal show: which rows begin one, where each ends, and the order
-- of D, in which the rows that begin none come first.
use Rattle.std.specs.Prelude.{◌≡◌, Bool, List, [], ◌∷◌, ◌++◌, ℕ, zero, suc, ◌+◌, ◌-◌, ◌≤◌, ◌<◌, eqb, not, length, set}
use Rattle.std.specs.Int.{from_bool}
use Rattle.std.specs.List.{count_by, filter, range_with_len}
use Rattle.std.proofs.Math.Path.{refl, ap}
use Rattle.std.proofs.Common.{sym, ◌∙◌, ap₂, map-id, subst, add-zero, add-suc, add-one, get_or-set_same, get_or-set_other}
use Rattle.std.proofs.Math.Bool.{true, false, cond}
use Rattle.std.proofs.Math.Decide.{ℕ_discrete, dec_lt}
use native.Mathlib.Omega.{arith}
use Rattle.std.proofs.lemmas.List.Sums.{length-filter, sum_by_push}
use Rattle.std.proofs.lemmas.List.FromFn.{map-range_with_len_more}
use Rattle.forms.specs.Numbers.{at, total, order_limit}
use Rattle.forms.specs.Tests.{total_suc}
use Rattle.matrices.specs.Matrices.{cell, zero_row, zero_row_at}

-- row i begins a block: nothing stands just below the diagonal there
unfoldable pub begins : List (List ℕ) → ℕ → Bool
begins m zero = true
begins m (suc i) = eqb (cell m (suc i) i) 0

pub begins_first : (m : List (List ℕ)) (i : ℕ) → i ≡ 0 → begins m i ≡ true
unfolding begins
begins_first m i e = ap (begins m) e

pub begins_later : (m : List (List ℕ)) (i : ℕ) → (i ≡ 0 → ⊥) → begins m i ≡ eqb (cell m i (i - 1)) 0
unfolding begins
begins_later m zero h = absurd (h refl)
begins_later m (suc i) h = ap (λ (j : ℕ). eqb (cell m (suc i) j) 0) (omega arith)

pub begins_not_first : (m : List (List ℕ)) (i : ℕ) → begins m i ≡ false → 0 < i
unfolding begins
begins_not_first m zero e = let q : true ≡ false = e in let z : ◌≡◌ {A = ℕ} 0 1 = cc in absurd (omega arith)
begins_not_first m (suc i) e = omega arith

-- r is the last row of the block of row i
pub record LastRow (m : List (List ℕ)) (n i r : ℕ) : Type 0 where
  pub after : i ≤ r
  pub below : r < n
  pub inside : (j : ℕ) → i < j → j ≤ r → begins m j ≡ false
  pub ends : suc r < n → begins m (suc r) ≡ true

-- from row k on
pub record LastRows (m : List (List ℕ)) (n k : ℕ) (r : List ℕ) : Type 0 where
  pub row : (i : ℕ) → k ≤ i → i < n → LastRow m n i (at r i)

module _ (m : List (List ℕ)) (n i : ℕ) (l : i < n) where
  pub last_here : (i + 1 < n → begins m (i + 1) ≡ true) → LastRow m n i i
  last_here h = record { after = omega arith; below = l; inside = λ j a b. absurd (omega arith); ends = λ g. ap (begins m) (sym (add-one i)) ∙ h (omega arith) }

  pub last_later : {r : ℕ} → begins m (i + 1) ≡ false → LastRow m n (i + 1) r → LastRow m n i r
  last_later {r} e h = record {
    after = omega (arith, h.after);
    below = h.below;
    inside = λ j a b. elim (ℕ_discrete j (i + 1)) [ yes q ↦ ap (begins m) q ∙ e | no q ↦ h.inside j (omega arith) b ];
    ends = h.ends;
  }

  pub last_rows_turn : {r : List ℕ} {v : ℕ} → i < length r → LastRow m n i v → LastRows m n (i + 1) r → LastRows m n i (set r i v)
  last_rows_turn {r} {v} g h rows = record {
    row = λ j a b. elim (ℕ_discrete j i) [
      | yes q ↦ subst (λ (k : ℕ). LastRow m n k (at (set r i v) k)) (sym q) (subst (LastRow m n i) (sym (get_or-set_same r i v 0 g)) h)
      | no q ↦ subst (LastRow m n j) (sym (get_or-set_other r i j v 0 q)) (rows.row j (omega arith) b)
    ];
  }

unfoldable pub other : List (List ℕ) → ℕ → ℕ
other m i = cond (begins m i) 0 1

-- how many of the first k rows begin no block
abbrev pub others : List (List ℕ) → ℕ → ℕ
others m k = total k (other m)

-- where row i stands in D
unfoldable pub place : List (List ℕ) → ℕ → ℕ → ℕ
place m n i = cond (begins m i) (others m n + (i - others m i)) (others m i)

-- r has the first k rows at their places
pub record Ordered (m : List (List ℕ)) (n k : ℕ) (r : List ℕ) : Type 0 where
  pub below : (i : ℕ) → at r i < n
  pub placed : (i : ℕ) → i < k → at r (place m n i) ≡ i

module _ (m : List (List ℕ)) where
  pub other_head : (i : ℕ) → begins m i ≡ true → other m i ≡ 0
  unfolding other
  other_head i e = ap (λ (b : Bool). cond b 0 1) e

  pub other_row : (i : ℕ) → begins m i ≡ false → other m i ≡ 1
  unfolding other
  other_row i e = ap (λ (b : Bool). cond b 0 1) e

  -- as the code adds it
  pub other_is : (i : ℕ) {b : Bool} {x : ℕ} → b ≡ begins m i → x ≡ from_bool (not b) → x ≡ other m i
  unfolding other
  other_is i {b} e g = g ∙ as_number b ∙ ap (λ (b : Bool). cond b 0 1) e
    where
      as_number : (b : Bool) → from_bool (not b) ≡ cond b 0 1
      as_number true = refl
      as_number false = refl

  pub other_most : (i : ℕ) → other m i ≤ 1
  unfolding other
  other_most i = test (begins m i)
    where
      test : (b : Bool) → cond b 0 1 ≤ 1
      test true = omega arith
      test false = omega arith

  pub no_others : others m 0 ≡ 0
  unfolding total
  no_others = refl

  -- as the code counts them
  pub others_counted : (k : ℕ) → length (filter (λ i. not (begins m i)) (range_with_len 0 k)) ≡ others m k
  unfolding total other
  others_counted k = length-filter _ (range_with_len 0 k) ∙ counted k
    where
      as_number : (b : Bool) → ◌≡◌ {A = ℕ} (cond (not b) 1 0) (cond b 0 1)
      as_number true = refl
      as_number false = refl

      one_more : (k : ℕ) → range_with_len 0 (suc k) ≡ range_with_len 0 k ++ (k ∷ [])
      one_more k = ap (range_with_len 0) (sym (add-one k)) ∙ simp map-id at (map-range_with_len_more (λ (x : ℕ). x) 0 k k (omega arith))

      counted : (k : ℕ) → count_by (λ i. not (begins m i)) (range_with_len 0 k) ≡ others m k
      counted zero = refl
      counted (suc k) = rw (one_more k) (sum_by_push (λ (i : ℕ). cond (not (begins m i)) 1 0) (range_with_len 0 k) k ∙ ap₂ ◌+◌ (counted k) (as_number (begins m k)))

  others_after : (k d : ℕ) → (others m k ≤ others m (k + d)) × (others m (k + d) ≤ others m k + d)
  others_after k zero = rw (add-zero, add-zero) (omega arith, omega arith)
  others_after k (suc d) = let (a, b) = others_after k d in let e = total_suc (k + d) (other m) in let g = other_most (k + d) in rw (add-suc k d) (omega arith, omega arith)

  others_between : (i j : ℕ) → i ≤ j → (others m i ≤ others m j) × (others m j ≤ others m i + (j - i))
  others_between i j l = subst (λ (k : ℕ). (others m i ≤ others m k) × (others m k ≤ others m i + (j - i))) (together i j l) (others_after i (j - i))
    where
      together : (i j : ℕ) → i ≤ j → i + (j - i) ≡ j
      together i j l = omega arith

  pub others_most : (k : ℕ) → others m k ≤ k
  others_most k = let (a, b) = others_between 0 k (omega arith) in let z = no_others in omega arith

  module _ (n : ℕ) where
    pub place_head : (i : ℕ) → begins m i ≡ true → place m n i ≡ others m n + (i - others m i)
    unfolding place
    place_head i e = ap (λ (b : Bool). cond b (others m n + (i - others m i)) (others m i)) e

    pub place_other : (i : ℕ) → begins m i ≡ false → place m n i ≡ others m i
    unfolding place
    place_other i e = ap (λ (b : Bool). cond b (others m n + (i - others m i)) (others m i)) e

    -- as the code counts it
    pub place_is : (i : ℕ) {ones passed x : ℕ} → ones ≡ others m n → passed ≡ others m i → x ≡ cond (begins m i) (ones + (i - passed)) passed → x ≡ place m n i
    unfolding place
    place_is i {ones} {passed} {x} a b e = rw (a, b) at e

    -- by cases: a row begins a block, or it does not
    cases : (P : Type 0) (i : ℕ) → (begins m i ≡ true → P) → (begins m i ≡ false → P) → P
    cases P i x y = test (begins m i) refl
      where
        test : (b : Bool) → begins m i ≡ b → P
        test true e = x e
        test false e = y e

    pub place_below : (i : ℕ) → i < n → place m n i < n
    place_below i l =
        let s = total_suc i (other m) in let a = others_most i in let (b, c) = others_between (suc i) n l in
        cases (place m n i < n) i
        (λ e. let z = other_head i e in let w = place_head i e in omega arith)
        (λ e. let w = place_other i e in let d = others_most n in let z = other_row i e in omega arith)

    place_apart : (i j : ℕ) → i < j → j < n → place m n i ≡ place m n j → ⊥
    place_apart i j l g q =
        let s = total_suc i (other m) in let t = total_suc j (other m) in let a = others_most i in
        let (b, c) = others_between (suc i) j l in let (d, h) = others_between (suc j) n g in
        cases ⊥ i
        (λ e. let z = other_head i e in let w = place_head i e in cases ⊥ j
        (λ f. let v = place_head j f in omega arith)
        (λ f. let v = place_other j f in let y = other_row j f in omega arith))
        (λ e. let z = other_row i e in let w = place_other i e in cases ⊥ j
        (λ f. let v = place_head j f in omega arith)
        (λ f. let v = place_other j f in omega arith))

    pub place_injective : (i j : ℕ) → i < n → j < n → place m n i ≡ place m n j → i ≡ j
    place_injective i j l g q = elim (dec_lt i j) [
      | yes h ↦ absurd (place_apart i j h g q)
      | no h ↦ elim (dec_lt j i) [ yes k ↦ absurd (place_apart j i k l (sym q)) | no k ↦ omega arith ]
    ]

    pub ordered_start : 0 < n → Ordered m n 0 zero_row
    ordered_start l = record { below = λ i. subst (λ (x : ℕ). x < n) (sym (zero_row_at i)) l; placed = λ i g. absurd (omega arith) }

    pub ordered_turn : {r : List ℕ} {i x : ℕ} → length r ≡ order_limit → n ≤ order_limit → i < n → x ≡ place m n i → Ordered m n i r → Ordered m n (i + 1) (set r x i)
    ordered_turn {r} {i} {x} long high l e o =
        let inside : x < length r = let h = place_below i l in omega arith in
        record {
          below = λ j. elim (ℕ_discrete j x) [
            | yes q ↦ subst (λ (k : ℕ). k < n) (sym (ap (at (set r x i)) q ∙ get_or-set_same r x i 0 inside)) l
            | no q ↦ subst (λ (k : ℕ). k < n) (sym (get_or-set_other r x j i 0 q)) (o.below j)
          ];
          placed = λ j g. elim (ℕ_discrete j i) [
            | yes q ↦ ap (at (set r x i)) (ap (place m n) q ∙ sym e) ∙ get_or-set_same r x i 0 inside ∙ sym q
            | no q ↦ get_or-set_other r x (place m n j) i 0 (λ h. q (place_injective j i (omega arith) l (h ∙ e))) ∙ o.placed j (omega arith)
          ];
        }
