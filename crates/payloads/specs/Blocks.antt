-- The blocks that are read off F are those of D: which rows begin one, where each ends, the polynomial of each, and the order of the rows.
use Rattle.std.specs.Prelude.{◌≡◌, Bool, List, eqb, leb}
use Rattle.std.proofs.Math.Path.{refl, sym, ap, ap₂}
use Rattle.std.proofs.Common.{◌∙◌, subst, add-zero, add-suc, mod-eq_of_lt, le→leb, leb→le, eqb→eq, eq-eqb, ne_eqb}
use Rattle.std.proofs.Math.Bool.{true, false, cond}
use Prim.Native.Nat.{ℕ, zero, suc, ◌+◌, ◌-◌, ◌%◌, ◌≤◌, ◌<◌}
use Rattle.std.proofs.Math.Nat.{mod_self}
use Rattle.std.proofs.Math.Decide.{ℕ_discrete, dec_lt, dec_le}
use native.Mathlib.Omega.{arith}
use Rattle.forms.specs.Numbers.{at}
use Rattle.forms.specs.Tests.{total_suc, equal_holds, cond_holds, cond_fails}
use Rattle.forms.specs.Polynomials.{Coefficients}
use Rattle.forms.specs.Matrices.{unit}
use Rattle.forms.specs.ClosedForms.{opposite}
use Rattle.forms.specs.BlockIndices.{degrees, start, block, last, position, is_head, start_rising, block_below, block_in, block_is, block_next, head_start, head_equal, head_of, head_position, last_below, last_after, last_equal, last_of, suc_last, zero_is_head}
use Rattle.forms.specs.BlockPermutation.{ones, to, from, to_head, to_other_below, to_permutes}
use Rattle.forms.proofs.FrobeniusEntries.{frobenius_last, frobenius_head, frobenius_next}
use Rattle.matrices.specs.Matrices.{cell}
use Rattle.basis.specs.State.{Array}
use Rattle.heads.specs.Heads.{begins, LastRow, other, other_is, others, others_most, no_others, place, place_head, place_other, Ordered}
use Rattle.entries.specs.Coefficients.{block_coefficient}
use Rattle.payloads.specs.Diagonals.{DiagonalOf}

opposite_twice : (p x : ℕ) → x < p → opposite p (opposite p x) ≡ x
opposite_twice p x l = elim (ℕ_discrete x 0) [
  | yes e ↦ ap (λ (y : ℕ). opposite p y) (ap (λ (y : ℕ). (p - y) % p) e ∙ none p) ∙ none p ∙ sym e
  | no h ↦ ap (λ (y : ℕ). opposite p y) (mod-eq_of_lt (omega arith)) ∙ ap (λ (y : ℕ). y % p) (back p x l) ∙ mod-eq_of_lt l
]
  where
    none : (p : ℕ) → opposite p 0 ≡ 0
    none p = ap (λ (y : ℕ). y % p) (omega arith) ∙ mod_self p

    back : (p x : ℕ) → x < p → p - (p - x) ≡ x
    back p x l = omega arith

module _ (p n : ℕ) (m : Array) (f : ℕ → Coefficients) (D : DiagonalOf p n m f) where
  abbrev d : ℕ → ℕ
  d = degrees n f

  sums : start d n ≡ n
  sums = D.smith.sums

  low : 0 < n
  low = D.smith.low

  -- a row begins a block where the definitions say so
  pub begins_is : (i : ℕ) → i < n → begins m i ≡ is_head d n i
  unfolding begins unit
  begins_is zero l = sym (zero_is_head d n sums l)
  begins_is (suc i) l = test (is_head d n (suc i)) refl
    where
      apart : i ≡ last d n (suc i) → ⊥
      apart e = let h = last_after d n sums (suc i) l in omega arith

      test : (b : Bool) → is_head d n (suc i) ≡ b → eqb (cell m (suc i) i) 0 ≡ is_head d n (suc i)
      test true e = eq-eqb _ 0 (D.built (suc i) i l (omega arith) ∙ frobenius_head p n f sums (suc i) i l (omega arith) e apart) ∙ sym e
      test false e =
          let one : cell m (suc i) i ≡ 1 = D.built (suc i) i l (omega arith) ∙ frobenius_next p n f sums i i l (omega arith) e apart ∙ cond_holds (eqb i i) 1 0 (equal_holds i i refl) in
          ne_eqb (cell m (suc i) i) 0 (λ z. omega arith) ∙ sym e

  same_block : (i k : ℕ) → i + k < n → ((j : ℕ) → i < j → j ≤ i + k → begins m j ≡ false) → block d n (i + k) ≡ block d n i
  same_block i zero l h = ap (block d n) (add-zero i)
  same_block i (suc k) l h =
      let g : suc (i + k) < n = subst (λ (x : ℕ). x < n) (add-suc i k) l in
      ap (block d n) (add-suc i k)
      ∙ block_next d n sums (i + k) g (sym (begins_is (suc (i + k)) g) ∙ h (suc (i + k)) (omega arith) (omega (arith, add-suc i k)))
      ∙ same_block i k (omega arith) (λ j a b. h j a (omega (arith, add-suc i k)))

  pub last_is : (i r : ℕ) → LastRow m n i r → r ≡ last d n i
  last_is i r x =
      let e : i + (r - i) ≡ r = omega (arith, x.after) in
      let b : block d n r ≡ block d n i = ap (block d n) (sym e) ∙ same_block i (r - i) (omega (arith, x.after, x.below)) (λ j a c. x.inside j a (omega arith)) in
      sym (last_equal d n sums i r (sym b) ∙ last_of d n sums r x.below (λ g. sym (begins_is (suc r) g) ∙ x.ends g))

  -- the polynomial of the block of row i, from its place in the block on
  pub coefficient_is : (i k : ℕ) → i < n → block_coefficient p m (last d n i) (i + k) ≡ f (block d n i) (position d n i + k)
  unfolding block_coefficient
  coefficient_is i k l =
      let e = head_position d n sums i l in let s = suc_last d n sums i l in let t = head_start d n sums i in let u = total_suc (block d n i) d in
      elim (dec_le (i + k) (last d n i)) [
        | yes h ↦ cond_holds (leb (i + k) (last d n i)) _ _ (le→leb _ _ h) ∙ inside h
        | no h ↦ cond_fails (leb (i + k) (last d n i)) _ _ (λ g. h (leb→le _ _ g)) ∙ elim (ℕ_discrete (i + k) (last d n i + 1)) [
          | yes q ↦ cond_holds (eqb (i + k) (last d n i + 1)) 1 0 (equal_holds _ _ q)
              ∙ sym (ap (f (block d n i)) (omega arith) ∙ D.smith.monic (block d n i) (block_below d n i low))
          | no q ↦ cond_fails (eqb (i + k) (last d n i + 1)) 1 0 (λ g. q (eqb→eq _ _ g)) ∙ sym (D.smith.above (block d n i) (position d n i + k) (omega arith))
        ]
      ]
    where
      inside : i + k ≤ last d n i → opposite p (cell m (i + k) (last d n i)) ≡ f (block d n i) (position d n i + k)
      inside h =
          let g = last_below d n sums i low in
          let w = block_in d n sums i l in let s = suc_last d n sums i l in
          let b : block d n (i + k) ≡ block d n i = block_is d n sums (i + k) (block d n i) (omega arith) (record { low = omega (arith, w.low); high = omega arith }) in
          let e = head_position d n sums i l in let t = head_position d n sums (i + k) (omega arith) in let v = head_equal d n sums (i + k) i b in
          ap (λ (x : ℕ). opposite p (cell m (i + k) x)) (sym (last_equal d n sums (i + k) i b))
          ∙ ap (λ (x : ℕ). opposite p x) (D.built (i + k) (last d n (i + k)) (omega arith) (last_below d n sums (i + k) low) ∙ frobenius_last p n f sums (i + k) (omega arith))
          ∙ opposite_twice p _ (D.smith.small _ _)
          ∙ ap₂ f b (omega arith)

  -- a row that begins a block begins the next one
  block_after : (i : ℕ) → suc i < n → is_head d n (suc i) ≡ true → block d n (suc i) ≡ suc (block d n i)
  block_after i l e =
      let h = head_of d n sums (suc i) l e in let s = head_start d n sums (suc i) in let w = block_in d n sums i (omega arith) in
      let t = total_suc (block d n i) d in let u = total_suc (suc (block d n i)) d in let q = block_below d n (suc i) low in
      elim (dec_lt (block d n i) (block d n (suc i))) [
        | no g ↦ absurd (let a = start_rising d (block d n (suc i)) (block d n i) (omega arith) in omega (arith, w.low))
        | yes g ↦ elim (ℕ_discrete (block d n (suc i)) (suc (block d n i))) [
          | yes a ↦ a
          | no a ↦ absurd (
              let b = start_rising d (suc (suc (block d n i))) (block d n (suc i)) (omega arith) in
              let r = D.smith.rising (block d n i) (omega arith) in omega (arith, w.low, w.high))
        ]
      ]

  -- so it is counted among the others, or it is not
  counts_none : (i : ℕ) → i < n → is_head d n i ≡ true → 0 ≡ other m i
  counts_none i l e = other_is m i (sym (begins_is i l ∙ e)) refl

  counts_one : (i : ℕ) → i < n → is_head d n i ≡ false → 1 ≡ other m i
  counts_one i l e = other_is m i (sym (begins_is i l ∙ e)) refl

  -- the blocks counted by the rows that begin none
  block_count : (i : ℕ) → i < n → block d n i + others m (suc i) ≡ ones d n + i
  unfolding ones
  block_count zero l = let e = total_suc 0 (other m) in let z = no_others m in let q = counts_none 0 l (zero_is_head d n sums l) in omega arith
  block_count (suc i) l =
      let h = block_count i (omega arith) in let e = total_suc (suc i) (other m) in
      test (is_head d n (suc i)) refl h e
    where
      test : (b : Bool) → is_head d n (suc i) ≡ b → block d n i + others m (suc i) ≡ block d n 0 + i → others m (suc (suc i)) ≡ others m (suc i) + other m (suc i)
          → block d n (suc i) + others m (suc (suc i)) ≡ block d n 0 + suc i
      test true e h s = let b = block_after i l e in let q = counts_none (suc i) l e in omega arith
      test false e h s = let b = block_next d n sums i l e in let q = counts_one (suc i) l e in omega arith

  -- a row that begins no block
  other_place : (i : ℕ) → i < n → is_head d n i ≡ false → to d n i ≡ others m i
  unfolding to
  other_place i l e =
      let h = block_count i l in let s = total_suc i (other m) in let q = counts_one i l e in let b = others_most m i in
      ap (λ (b : Bool). cond b (block d n i) (i + ones d n - suc (block d n i))) e ∙ omega arith

  others_few : (k : ℕ) → k ≤ n → others m k ≤ ones d n
  others_few zero l = let z = no_others m in omega arith
  others_few (suc i) l = test (is_head d n i) refl (others_few i (omega arith))
    where
      test : (b : Bool) → is_head d n i ≡ b → others m i ≤ ones d n → others m (suc i) ≤ ones d n
      test true e h = let s = total_suc i (other m) in let q = counts_none i l e in omega arith
      test false e few =
          let s = total_suc i (other m) in let q = counts_one i l e in let t = other_place i l e in
          let h = to_other_below d n sums low D.smith.rising i l e in omega arith

  ones_are : others m n ≡ ones d n
  ones_are =
      let h = block_count (n - 1) (omega (arith, low)) in let b = block_below d n (n - 1) low in let q = others_few n (omega arith) in
      let e : others m (suc (n - 1)) ≡ others m n = ap (others m) (omega (arith, low)) in omega (arith, low)

  place_to : (i : ℕ) → i < n → place m n i ≡ to d n i
  place_to i l = test (is_head d n i) refl
    where
      test : (b : Bool) → is_head d n i ≡ b → place m n i ≡ to d n i
      test true e =
          let h = block_count i l in let s = total_suc i (other m) in let q = counts_none i l e in let b = others_most m i in let z = ones_are in
          place_head m n i (begins_is i l ∙ e) ∙ omega arith ∙ sym (to_head d n sums low D.smith.rising i e)
      test false e = place_other m n i (begins_is i l ∙ e) ∙ sym (other_place i l e)

  pub from_is : (r : List ℕ) → Ordered m n n r → (b : ℕ) → b < n → at r b ≡ from d n b
  from_is r o b l =
      let permutes = to_permutes d n sums low D.smith.rising in
      ap (at r) (sym (place_to (from d n b) (permutes.back_below b l) ∙ permutes.forth b l)) ∙ o.placed (from d n b) (permutes.back_below b l)
