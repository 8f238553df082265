-- The rows of the Frobenius form by its blocks: block b has m b rows, the degree of f b, and starts where block b - 1 ends. For row i,
-- which block it is in, the first and the last row of that block, and where in it the row stands.
use Rattle.std.specs.Prelude.{◌≡◌, Bool, cond, eqb, leb}
use Rattle.std.proofs.Math.Path.{refl, ap, subst}
use Rattle.std.proofs.Common.{sym, ◌∙◌, add-zero, add-suc, le→leb, leb→le}
use Rattle.std.proofs.Math.Bool.{true, false}
use Prim.Native.Nat.{ℕ, zero, suc, ◌+◌, ◌-◌, ◌≤◌, ◌<◌}
use Rattle.std.proofs.Math.Decide.{dec_lt, dec_le}
use native.Mathlib.Omega.{arith}
use Rattle.std.proofs.Math.Dec.{T, eqb→eq}
use Rattle.forms.specs.Numbers.{total}
use Rattle.forms.specs.Polynomials.{Coefficients, degree}
use Rattle.forms.specs.Tests.{equal_holds, cond_holds, cond_fails, total_suc}

-- the sizes of the blocks: the degrees of f 0, f 1, ..
abbrev pub degrees : ℕ → (ℕ → Coefficients) → ℕ → ℕ
degrees n f b = degree n (f b)

-- where block b starts
abbrev pub start : (ℕ → ℕ) → ℕ → ℕ
start m b = total b m

-- the block of row i among the first n: the last that starts at i or before
unfoldable pub block : (ℕ → ℕ) → ℕ → ℕ → ℕ
block m zero i = 0
block m (suc n) i = cond (leb (start m n) i) n (block m n i)

-- the first row of that block and the last
unfoldable pub head : (ℕ → ℕ) → ℕ → ℕ → ℕ
head m n i = start m (block m n i)

unfoldable pub last : (ℕ → ℕ) → ℕ → ℕ → ℕ
last m n i = start m (suc (block m n i)) - 1

-- where row i stands in it, from 0
unfoldable pub position : (ℕ → ℕ) → ℕ → ℕ → ℕ
position m n i = i - head m n i

unfoldable pub is_head : (ℕ → ℕ) → ℕ → ℕ → Bool
is_head m n i = eqb (position m n i) 0

module _ (m : ℕ → ℕ) where
  start_more : (k a : ℕ) → start m a ≤ start m (a + k)
  start_more zero a = rw add-zero (omega arith)
  start_more (suc k) a = let h = start_more k a in let e = total_suc (a + k) m in rw add-suc (omega arith)

  pub start_rising : (a b : ℕ) → a ≤ b → start m a ≤ start m b
  start_rising a b l = subst (λ (x : ℕ). start m a ≤ start m x) (together a b l) (start_more (b - a) a)
    where
      together : (a b : ℕ) → a ≤ b → a + (b - a) ≡ b
      together a b l = omega arith

  -- row i lies in block b
  pub record In (i b : ℕ) : Type 0 where
    pub low : start m b ≤ i
    pub high : i < start m (suc b)

  in_unique : {i a b : ℕ} → In i a → In i b → a ≡ b
  in_unique {i} {a} {b} x y = elim (dec_lt a b) [
    | yes l ↦ absurd (let h = start_rising (suc a) b l in omega (arith, x.high, y.low))
    | no l ↦ elim (dec_lt b a) [
      | yes k ↦ absurd (let h = start_rising (suc b) a k in omega (arith, x.low, y.high))
      | no k ↦ omega arith
    ]
  ]

  block_upto : (n i : ℕ) → block m n i ≤ n - 1
  unfolding block
  block_upto zero i = omega arith
  block_upto (suc n) i = elim (dec_le (start m n) i) [
    | yes h ↦ (let e = cond_holds (leb (start m n) i) n (block m n i) (le→leb _ _ h) in omega arith)
    | no h ↦ (let e = cond_fails (leb (start m n) i) n (block m n i) (λ t. h (leb→le _ _ t)) in let q = block_upto n i in omega arith)
  ]

  pub block_below : (n i : ℕ) → 0 < n → block m n i < n
  block_below n i l = let h = block_upto n i in omega arith

  pub start_zero : start m 0 ≡ 0
  unfolding total
  start_zero = refl

  block_found : (n i : ℕ) → i < start m n → In i (block m n i)
  unfolding block
  block_found zero i l = absurd (let e = start_zero in omega arith)
  block_found (suc n) i l = elim (dec_le (start m n) i) [
    | yes h ↦ subst (In i) (sym (cond_holds (leb (start m n) i) n (block m n i) (le→leb _ _ h))) (record { low = h; high = l })
    | no h ↦ subst (In i) (sym (cond_fails (leb (start m n) i) n (block m n i) (λ t. h (leb→le _ _ t)))) (block_found n i (omega arith))
  ]

  module _ (n : ℕ) (sums : start m n ≡ n) where
    pub block_in : (i : ℕ) → i < n → In i (block m n i)
    block_in i l = block_found n i (omega arith)

    pub block_is : (i b : ℕ) → i < n → In i b → block m n i ≡ b
    block_is i b l h = in_unique (block_in i l) h

    -- rows of one block
    pub head_equal : (i j : ℕ) → block m n i ≡ block m n j → head m n i ≡ head m n j
    unfolding head
    head_equal i j e = ap (start m) e

    pub last_equal : (i j : ℕ) → block m n i ≡ block m n j → last m n i ≡ last m n j
    unfolding last
    last_equal i j e = ap (λ (b : ℕ). start m (suc b) - 1) e

    pub head_position : (i : ℕ) → i < n → head m n i + position m n i ≡ i
    unfolding position head
    head_position i l = let w = block_in i l in omega (arith, w.low)

    pub position_of : (i b : ℕ) → block m n i ≡ b → i - start m b ≡ position m n i
    unfolding position head
    position_of i b e = ap (λ (x : ℕ). i - start m x) (sym e)

    pub suc_last : (i : ℕ) → i < n → suc (last m n i) ≡ start m (suc (block m n i))
    unfolding last
    suc_last i l = let w = block_in i l in omega (arith, w.high)

    pub head_start : (i : ℕ) → head m n i ≡ start m (block m n i)
    unfolding head
    head_start i = refl

    pub position_below : (i : ℕ) → i < n → position m n i < m (block m n i)
    position_below i l = let w = block_in i l in let e = total_suc (block m n i) m in let q = head_position i l in let s = head_start i in omega (arith, w.high)

    pub last_below : (i : ℕ) → 0 < n → last m n i < n
    unfolding last
    last_below i l = let h = start_rising (suc (block m n i)) n (block_below n i l) in omega arith

    pub last_after : (i : ℕ) → i < n → i ≤ last m n i
    last_after i l = let w = block_in i l in let e = suc_last i l in omega (arith, w.high)

    pub block_last : (i : ℕ) → i < n → block m n (last m n i) ≡ block m n i
    block_last i l = let w = block_in i l in let e = suc_last i l in let q = last_after i l in
        block_is (last m n i) (block m n i) (last_below i (omega arith)) (record { low = omega (arith, w.low); high = omega arith })

    -- the rows of the block of a head
    pub block_of_head : (i j : ℕ) → i < n → j < n → head m n j ≡ i → block m n j ≡ block m n i
    block_of_head i j l g e = let w = block_in j g in let s = head_start j in sym (block_is i (block m n j) l (record { low = omega arith; high = omega (arith, w.low, w.high) }))

    pub head_row : (i k : ℕ) → i < n → head m n i ≡ i → k < m (block m n i) → (i + k < n) × (block m n (i + k) ≡ block m n i) × (position m n (i + k) ≡ k)
    head_row i k l e h =
        let t = total_suc (block m n i) m in let s = head_start i in let b = start_rising (suc (block m n i)) n (block_below n i (omega arith)) in
        let q : block m n (i + k) ≡ block m n i = block_is (i + k) (block m n i) (omega arith) (record { low = omega arith; high = omega arith }) in
        let z = head_equal (i + k) i q in let y = head_position (i + k) (omega arith) in (omega arith, q, omega arith)

    pub last_position : (i : ℕ) → i < n → suc (position m n (last m n i)) ≡ m (block m n i)
    last_position i l =
        let e = head_position (last m n i) (last_below i (omega arith)) in let q = head_equal (last m n i) i (block_last i l) in
        let s = suc_last i l in let t = total_suc (block m n i) m in let u = head_start i in omega arith

    -- heads, and rows that are none
    pub head_of : (i : ℕ) → i < n → is_head m n i ≡ true → head m n i ≡ i
    unfolding is_head
    head_of i l e = let z : position m n i ≡ 0 = eqb→eq (position m n i) 0 (subst T (sym e) tt) in let q = head_position i l in omega arith

    pub head_before : (i : ℕ) → i < n → is_head m n i ≡ false → head m n i < i
    unfolding is_head
    head_before i l e = let q = head_position i l in elim (dec_lt (head m n i) i) [
      | yes h ↦ h
      | no h ↦ absurd (subst T e (equal_holds (position m n i) 0 (omega arith)))
    ]

    pub is_head_of : (i : ℕ) → head m n i ≡ i → is_head m n i ≡ true
    unfolding is_head position
    is_head_of i e = test (eqb (i - head m n i) 0) (equal_holds (i - head m n i) 0 (omega arith))
      where
        test : (b : Bool) → T b → b ≡ true
        test true t = refl
        test false t = absurd t

    pub zero_is_head : 0 < n → is_head m n 0 ≡ true
    zero_is_head l = is_head_of 0 (let h = head_position 0 l in omega arith)

    -- a row is a head, or it follows a row of its block
    pub row_cases : (P : ℕ → Type 0) → ((i : ℕ) → i < n → is_head m n i ≡ true → P i) → ((i : ℕ) → suc i < n → is_head m n (suc i) ≡ false → P (suc i)) → (i : ℕ) → i < n → P i
    row_cases P a b i l = test i l (is_head m n i) refl
      where
        test : (i : ℕ) → i < n → (c : Bool) → is_head m n i ≡ c → P i
        test i l true e = a i l e
        test zero l false e = a 0 l (zero_is_head l)
        test (suc i) l false e = b i l e

    pub block_next : (i : ℕ) → suc i < n → is_head m n (suc i) ≡ false → block m n (suc i) ≡ block m n i
    block_next i l e = let w = block_in (suc i) l in let q = head_before (suc i) l e in let s = head_start (suc i) in
        sym (block_is i (block m n (suc i)) (omega arith) (record { low = omega arith; high = omega (arith, w.high) }))

    pub position_next : (i : ℕ) → suc i < n → is_head m n (suc i) ≡ false → position m n (suc i) ≡ suc (position m n i)
    position_next i l e = let b = head_equal (suc i) i (block_next i l e) in let p = head_position i (omega arith) in let q = head_position (suc i) l in omega arith

    pub last_of : (i : ℕ) → i < n → (suc i < n → is_head m n (suc i) ≡ true) → last m n i ≡ i
    last_of i l e = elim (dec_lt i (last m n i)) [
      | no h ↦ (let q = last_after i l in omega arith)
      | yes h ↦ absurd (
          let g = last_below i (omega arith) in let w = block_in i l in let s = suc_last i l in
          let b : block m n (suc i) ≡ block m n i = block_is (suc i) (block m n i) (omega arith) (record { low = omega (arith, w.low); high = omega arith }) in
          let u = head_equal (suc i) i b in let v = head_of (suc i) (omega arith) (e (omega arith)) in let p = head_position i l in omega arith)
    ]

    pub after_last : (i : ℕ) → i < n → suc (last m n i) < n → is_head m n (suc (last m n i)) ≡ true
    after_last i l h = test (is_head m n (suc (last m n i))) refl
      where
        test : (b : Bool) → is_head m n (suc (last m n i)) ≡ b → is_head m n (suc (last m n i)) ≡ true
        test true e = e
        test false e = absurd (
            let b : block m n (suc (last m n i)) ≡ block m n i = block_next (last m n i) h e ∙ block_last i l in
            let w = block_in (suc (last m n i)) h in
            let q : suc (last m n i) < start m (suc (block m n i)) = subst (λ (x : ℕ). suc (last m n i) < start m (suc x)) b w.high in
            let s = suc_last i l in omega arith)
