-- The places of the rows of F in D: D has ones first, one for each row that is no head, and then the polynomials of the blocks. So `to`
-- sends the head of block b to b and any other row to a place before them, in the same order; `from` is its inverse.
use Rattle.std.specs.Prelude.{◌≡◌, refl, Bool, true, false}
use Rattle.std.proofs.Common.{sym, ◌∙◌, subst, add-zero, add-suc, arith}
use Rattle.std.proofs.Math.Path.{ap}
use Rattle.std.proofs.Math.Bool.{cond}
use Prim.Native.Nat.{ℕ, zero, suc, ◌+◌, ◌-◌, ◌≤◌, ◌<◌}
use Rattle.std.proofs.Math.Decide.{dec_lt}
use Rattle.algebra.specs.Shapes.{Permutes}
use Rattle.algebra.specs.Pigeonhole.{preimage, injection_permutes}
use Rattle.forms.specs.Tests.{total_suc}
use Rattle.forms.specs.BlockIndices.{start, start_rising, block, block_below, block_in, head, head_start, head_equal, head_of, head_before, is_head}

-- how many ones D has: the block of row 0 is its first polynomial of positive degree
unfoldable pub ones : (ℕ → ℕ) → ℕ → ℕ
ones m n = block m n 0

unfoldable pub to : (ℕ → ℕ) → ℕ → ℕ → ℕ
to m n i = cond (is_head m n i) (block m n i) (i + ones m n - suc (block m n i))

unfoldable pub from : (ℕ → ℕ) → ℕ → ℕ → ℕ
from m n = preimage n (to m n)

module _ (m : ℕ → ℕ) (n : ℕ) (sums : start m n ≡ n) (positive : 0 < n) (rising : (b : ℕ) → suc b < n → m b ≤ m (suc b)) where
  pub to_head : (i : ℕ) → is_head m n i ≡ true → to m n i ≡ block m n i
  unfolding to
  to_head i e = ap (λ (b : Bool). cond b (block m n i) (i + ones m n - suc (block m n i))) e

  to_other : (i : ℕ) → is_head m n i ≡ false → to m n i ≡ i + ones m n - suc (block m n i)
  unfolding to
  to_other i e = ap (λ (b : Bool). cond b (block m n i) (i + ones m n - suc (block m n i))) e

  ones_below : ones m n < n
  unfolding ones
  ones_below = block_below m n 0 positive

  ones_start : (start m (ones m n) ≡ 0) × (0 < m (ones m n))
  unfolding ones
  ones_start = let w = block_in m n sums 0 positive in let e = total_suc (block m n 0) m in (omega (arith, w.low), omega (arith, w.low, w.high))

  -- a one is of degree 0, and the others are not
  pub one_degree : (b : ℕ) → b < ones m n → m b ≡ 0
  one_degree b l = let h = start_rising m (suc b) (ones m n) l in let e = total_suc b m in let z = ones_start.0 in omega arith

  degree_from_ones : (k : ℕ) → ones m n + k < n → 0 < m (ones m n + k)
  degree_from_ones zero l = rw add-zero ones_start.1
  degree_from_ones (suc k) l = let h = degree_from_ones k (omega arith) in let g = rising (ones m n + k) (omega arith) in rw add-suc (omega arith)

  -- from there on each block has a row at least
  starts_apart : (k a : ℕ) → ones m n ≤ a → a + k ≤ n → start m a + k ≤ start m (a + k)
  starts_apart zero a l h = rw (add-zero, add-zero) (omega arith)
  starts_apart (suc k) a l h =
      let g = starts_apart k a l (omega arith) in let e = total_suc (a + k) m in
      let q : 0 < m (a + k) = subst (λ (x : ℕ). 0 < m x) (there a l) (degree_from_ones (a + k - ones m n) (omega arith)) in rw (add-suc a k) (omega arith)
    where
      there : (a : ℕ) → ones m n ≤ a → ones m n + (a + k - ones m n) ≡ a + k
      there a l = omega arith

  starts_between : (a b : ℕ) → ones m n ≤ a → a ≤ b → b ≤ n → start m a + (b - a) ≤ start m b
  starts_between a b l h g = subst (λ (x : ℕ). start m a + (b - a) ≤ start m x) (there a b h) (starts_apart (b - a) a l (omega arith))
    where
      there : (a b : ℕ) → a ≤ b → a + (b - a) ≡ b
      there a b h = omega arith

  block_from_ones : (i : ℕ) → i < n → ones m n ≤ block m n i
  block_from_ones i l = elim (dec_lt (block m n i) (ones m n)) [
    | yes h ↦ absurd (let e = one_degree (block m n i) h in let f = total_suc (block m n i) m in let w = block_in m n sums i l in omega (arith, w.low, w.high))
    | no h ↦ omega arith
  ]

  row_upto_block : (i : ℕ) → i < n → i ≤ block m n i
  row_upto_block i l =
      let w = block_in m n sums i l in let b = block_below m n i positive in let q = block_from_ones i l in
      let g = starts_between (suc (block m n i)) n (omega arith) (omega arith) (omega arith) in omega (arith, w.high)

  block_upto_head : (i : ℕ) → i < n → block m n i ≤ head m n i + ones m n
  block_upto_head i l =
      let b = block_below m n i positive in let q = block_from_ones i l in let e = head_start m n sums i in
      let g = starts_between (ones m n) (block m n i) (omega arith) q (omega arith) in omega arith

  -- a row that is no head goes before the blocks
  pub to_other_below : (i : ℕ) → i < n → is_head m n i ≡ false → to m n i < ones m n
  to_other_below i l e = let a = row_upto_block i l in let h = head_before m n sums i l e in let g = block_upto_head i l in let t = to_other i e in omega arith

  pub to_below : (i : ℕ) → i < n → to m n i < n
  to_below i l = test (is_head m n i) refl
    where
      test : (b : Bool) → is_head m n i ≡ b → to m n i < n
      test true e = let t = to_head i e in let q = block_below m n i positive in omega arith
      test false e = let q = to_other_below i l e in let w = ones_below in omega arith

  to_other_rising : (i j : ℕ) → i < j → j < n → is_head m n i ≡ false → is_head m n j ≡ false → to m n i < to m n j
  to_other_rising i j l h e f =
      let w = block_in m n sums i (omega arith) in
      let hj = head_before m n sums j h f in let hi = head_before m n sums i (omega arith) e in
      let gj = block_upto_head j h in let gi = block_upto_head i (omega arith) in
      let ti = to_other i e in let tj = to_other j f in
      let zi = block_from_ones i (omega arith) in let bj = block_below m n j positive in let sj = head_start m n sums j in
      elim (dec_lt (block m n i) (block m n j)) [
        | yes k ↦ (let g = starts_between (suc (block m n i)) (block m n j) (omega arith) (omega arith) (omega arith) in omega (arith, w.high))
        | no k ↦ omega arith
      ]

  to_injective : (i j : ℕ) → i < n → j < n → to m n i ≡ to m n j → i ≡ j
  to_injective i j l h e = test (is_head m n i) refl (is_head m n j) refl
    where
      test : (b : Bool) → is_head m n i ≡ b → (d : Bool) → is_head m n j ≡ d → i ≡ j
      test true x true y = sym (head_of m n sums i l x) ∙ head_equal m n sums i j (sym (to_head i x) ∙ e ∙ to_head j y) ∙ head_of m n sums j h y
      test true x false y = absurd (let a = to_other_below j h y in let t = to_head i x in let q = block_from_ones i l in omega arith)
      test false x true y = absurd (let a = to_other_below i l x in let t = to_head j y in let q = block_from_ones j h in omega arith)
      test false x false y = elim (dec_lt i j) [
        | yes k ↦ absurd (let q = to_other_rising i j k h x y in omega arith)
        | no k ↦ elim (dec_lt j i) [ yes r ↦ absurd (let q = to_other_rising j i r l y x in omega arith) | no r ↦ omega arith ]
      ]

  pub to_permutes : Permutes n (to m n) (from m n)
  unfolding from
  to_permutes = injection_permutes n (to m n) to_below to_injective
