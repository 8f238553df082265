-- The entries of the Frobenius form: one block in front of the others, and each entry by the blocks of its row and of its column.
use Rattle.std.specs.Prelude.{◌≡◌, ◌≢◌, Bool, true, false, cond, ◌&&◌, eqb}
use Rattle.std.proofs.Math.Path.{refl, sym, ap, ap₂}
use Rattle.std.proofs.Common.{◌∙◌, subst, eqb→eq, lt→ltb, le→leb}
use Prim.Native.Nat.{ℕ, zero, suc, ◌+◌, ◌-◌, ◌%◌, ◌≤◌, ◌<◌}
use Rattle.std.proofs.Math.Decide.{ℕ_discrete, dec_lt}
use native.Mathlib.Omega.{arith}
use Rattle.std.proofs.Math.Dec.{eqb-suc-suc, ltb, leb, ltb→lt, leb→le}
use Rattle.forms.specs.Tests.{equal_holds, and_parts, and_holds, cond_holds, cond_fails, total_suc}
use Rattle.forms.specs.Polynomials.{Coefficients, degree}
use Rattle.forms.specs.Matrices.{unit}
use Rattle.forms.specs.Frobenius.{companion, blocks, frobenius}
use Rattle.forms.specs.BlockIndices.{degrees, start, block, last, position, is_head, start_zero, block_in, block_is, block_next, block_last, head_start, head_equal, head_position, head_of, last_below, last_equal, last_position, suc_last, position_of, position_next}

-- block b, of m rows, in front of the r blocks behind it
module _ (p n : ℕ) (f : ℕ → Coefficients) (r b i j : ℕ) where
  abbrev m : ℕ
  m = degree n (f b)

  pub blocks_first : i < m → j < m → blocks p n f (suc r) b i j ≡ companion p m (f b) i j
  unfolding blocks
  blocks_first l g = cond_holds (ltb i m && ltb j m) _ _ (and_holds (ltb i m) (ltb j m) (lt→ltb i m l) (lt→ltb j m g))

  pub blocks_behind : m ≤ i → m ≤ j → blocks p n f (suc r) b i j ≡ blocks p n f r (suc b) (i - m) (j - m)
  unfolding blocks
  blocks_behind l g =
      cond_fails (ltb i m && ltb j m) _ _ (λ t. (let w = ltb→lt i m (and_parts (ltb i m) (ltb j m) t).0 in omega arith))
      ∙ cond_holds (leb m i && leb m j) _ _ (and_holds (leb m i) (leb m j) (le→leb m i l) (le→leb m j g))

  pub blocks_above : i < m → m ≤ j → blocks p n f (suc r) b i j ≡ 0
  unfolding blocks
  blocks_above l g =
      cond_fails (ltb i m && ltb j m) _ _ (λ t. (let w = ltb→lt j m (and_parts (ltb i m) (ltb j m) t).1 in omega arith))
      ∙ cond_fails (leb m i && leb m j) _ _ (λ t. (let w = leb→le m i (and_parts (leb m i) (leb m j) t).0 in omega arith))

  pub blocks_below : m ≤ i → j < m → blocks p n f (suc r) b i j ≡ 0
  unfolding blocks
  blocks_below l g =
      cond_fails (ltb i m && ltb j m) _ _ (λ t. (let w = ltb→lt i m (and_parts (ltb i m) (ltb j m) t).0 in omega arith))
      ∙ cond_fails (leb m i && leb m j) _ _ (λ t. (let w = leb→le m j (and_parts (leb m i) (leb m j) t).1 in omega arith))

unit_same : (i j : ℕ) → i ≡ j → unit i j ≡ 1
unfolding unit
unit_same i j e = cond_holds (eqb i j) 1 0 (equal_holds i j e)

unit_other : (i j : ℕ) → i ≢ j → unit i j ≡ 0
unfolding unit
unit_other i j h = cond_fails (eqb i j) 1 0 (λ t. h (eqb→eq i j t))

unit_suc : (i j : ℕ) → unit (suc i) (suc j) ≡ unit i j
unfolding unit
unit_suc i j = ap (λ (b : Bool). cond b 1 0) (eqb-suc-suc i j)

-- entry i j by blocks: that of the companion block where i and j are in one, else 0
module _ (p n : ℕ) (f : ℕ → Coefficients) (sums : start (degrees n f) n ≡ n) where
  abbrev d : ℕ → ℕ
  d = degrees n f

  block_entry : ℕ → ℕ → ℕ
  block_entry i j = cond (eqb (block d n i) (block d n j)) (companion p (d (block d n j)) (f (block d n j)) (position d n i) (position d n j)) 0

  entry_inside : (i j b : ℕ) → block d n i ≡ b → block d n j ≡ b → block_entry i j ≡ companion p (d b) (f b) (position d n i) (position d n j)
  unfolding block_entry
  entry_inside i j b x y = cond_holds (eqb (block d n i) (block d n j)) _ 0 (equal_holds _ _ (x ∙ sym y)) ∙ ap (λ (b : ℕ). companion p (d b) (f b) (position d n i) (position d n j)) y

  entry_outside : (i j : ℕ) → block d n i ≢ block d n j → block_entry i j ≡ 0
  unfolding block_entry
  entry_outside i j h = cond_fails (eqb (block d n i) (block d n j)) _ 0 (λ t. h (eqb→eq _ _ t))

  -- a row behind block b is not in it
  behind : (j b : ℕ) → j < n → start d (suc b) ≤ j → block d n j ≢ b
  behind j b l h e = let w = block_in d n sums j l in let q : j < start d (suc b) = subst (λ (x : ℕ). j < start d (suc x)) e w.high in omega arith

  blocks_entry : (r b i j : ℕ) → b + r ≡ n → start d b ≤ i → start d b ≤ j → i < n → j < n → blocks p n f r b (i - start d b) (j - start d b) ≡ block_entry i j
  blocks_entry zero b i j e x y u v = absurd (let q : start d b ≡ n = ap (start d) (omega arith) ∙ sums in omega arith)
  blocks_entry (suc r) b i j e x y u v =
      let s = total_suc b d in
      elim (dec_lt i (start d (suc b))) [
        | yes k ↦ (
            let bi : block d n i ≡ b = block_is d n sums i b u (record { low = x; high = k }) in
            elim (dec_lt j (start d (suc b))) [
              | yes l ↦ (
                  let bj : block d n j ≡ b = block_is d n sums j b v (record { low = y; high = l }) in
                  blocks_first p n f r b (i - start d b) (j - start d b) (omega arith) (omega arith)
                  ∙ ap₂ (companion p (d b) (f b)) (position_of d n sums i b bi) (position_of d n sums j b bj) ∙ sym (entry_inside i j b bi bj))
              | no l ↦ blocks_above p n f r b (i - start d b) (j - start d b) (omega arith) (omega arith)
                  ∙ sym (entry_outside i j (λ z. behind j b v (omega arith) (sym z ∙ bi)))
            ])
        | no k ↦ elim (dec_lt j (start d (suc b))) [
          | yes l ↦ (
              let bj : block d n j ≡ b = block_is d n sums j b v (record { low = y; high = l }) in
              blocks_below p n f r b (i - start d b) (j - start d b) (omega arith) (omega arith)
              ∙ sym (entry_outside i j (λ z. behind i b u (omega arith) (z ∙ bj))))
          | no l ↦ blocks_behind p n f r b (i - start d b) (j - start d b) (omega arith) (omega arith)
              ∙ ap₂ (blocks p n f r (suc b)) (further i) (further j)
              ∙ blocks_entry r (suc b) i j (omega arith) (omega arith) (omega arith) u v
        ]
      ]
    where
      further : (i : ℕ) → i - start d b - d b ≡ i - start d (suc b)
      further i = let s = total_suc b d in omega arith

  frobenius_entry : (i j : ℕ) → i < n → j < n → frobenius p n f i j ≡ block_entry i j
  unfolding frobenius
  frobenius_entry i j u v = ap₂ (blocks p n f n 0) (from_start i) (from_start j) ∙ blocks_entry n 0 i j (omega arith) (low i) (low j) u v
    where
      from_start : (i : ℕ) → i ≡ i - start d 0
      from_start i = let e = start_zero d in omega arith

      low : (i : ℕ) → start d 0 ≤ i
      low i = let e = start_zero d in omega arith

  frobenius_outside : (i j : ℕ) → i < n → j < n → block d n i ≢ block d n j → frobenius p n f i j ≡ 0
  frobenius_outside i j u v h = frobenius_entry i j u v ∙ entry_outside i j h

  -- the last column of the block of row i
  pub frobenius_last : (i : ℕ) → i < n → frobenius p n f i (last d n i) ≡ (p - f (block d n i) (position d n i)) % p
  unfolding companion
  frobenius_last i u = frobenius_entry i (last d n i) u (last_below d n sums i (omega arith)) ∙ entry_inside i (last d n i) (block d n i) refl (block_last d n sums i u)
      ∙ cond_holds (eqb (suc (position d n (last d n i))) (d (block d n i))) _ _ (equal_holds _ _ (last_position d n sums i u))

  -- inside the block, another column
  frobenius_inside : (i j : ℕ) → i < n → j < n → block d n i ≡ block d n j → j ≢ last d n i → frobenius p n f i j ≡ unit (position d n i) (suc (position d n j))
  unfolding companion
  frobenius_inside i j u v e h = frobenius_entry i j u v ∙ entry_inside i j (block d n j) e refl
      ∙ cond_fails (eqb (suc (position d n j)) (d (block d n j))) _ _ (λ t. h (ends (eqb→eq _ _ t)))
    where
      ends : suc (position d n j) ≡ d (block d n j) → j ≡ last d n i
      ends q =
          let x = head_position d n sums j v in let y = head_start d n sums j in let z = total_suc (block d n j) d in
          let w = suc_last d n sums j v in let l = last_equal d n sums i j e in omega arith

  -- the other columns in the row of a head
  pub frobenius_head : (i j : ℕ) → i < n → j < n → is_head d n i ≡ true → j ≢ last d n i → frobenius p n f i j ≡ 0
  frobenius_head i j u v e h = elim (ℕ_discrete (block d n i) (block d n j)) [
    | yes q ↦ frobenius_inside i j u v q h ∙ unit_other _ _ (let x = head_of d n sums i u e in let y = head_position d n sums i u in omega arith)
    | no q ↦ frobenius_outside i j u v q
  ]

  -- and in another row: a one just below the diagonal
  pub frobenius_next : (i j : ℕ) → suc i < n → j < n → is_head d n (suc i) ≡ false → j ≢ last d n (suc i) → frobenius p n f (suc i) j ≡ unit i j
  frobenius_next i j u v e h =
      let b = block_next d n sums i u e in let x = position_next d n sums i u e in
      elim (ℕ_discrete (block d n (suc i)) (block d n j)) [
        | yes q ↦ frobenius_inside (suc i) j u v q h ∙ ap (λ (k : ℕ). unit k (suc (position d n j))) x ∙ unit_suc _ _ ∙ unit_shifted i j (omega arith) v (sym b ∙ q)
        | no q ↦ frobenius_outside (suc i) j u v q ∙ sym (unit_other i j (λ z. q (b ∙ ap (block d n) z)))
      ]
    where
      unit_shifted : (i j : ℕ) → i < n → j < n → block d n i ≡ block d n j → unit (position d n i) (position d n j) ≡ unit i j
      unit_shifted i j l g q =
          let x = head_position d n sums i l in let y = head_position d n sums j g in let z = head_equal d n sums i j q in
          elim (ℕ_discrete i j) [
            | yes t ↦ unit_same _ _ (ap (position d n) t) ∙ sym (unit_same i j t)
            | no t ↦ unit_other _ _ (omega arith) ∙ sym (unit_other i j t)
          ]
