-- An injection of the indices below n into themselves is a permutation: its inverse is found by a search.
use Rattle.std.specs.Prelude.{◌≡◌, ◌≢◌, ℕ, zero, suc, ◌-◌, ◌≤◌, ◌<◌}
use Rattle.std.proofs.Common.{sym, ◌∙◌, ap, arith}
use Rattle.std.proofs.Math.Decide.{ℕ_discrete, dec_lt}
use Rattle.algebra.specs.Choice.{choose, choose_yes, choose_no}
use Rattle.algebra.specs.Shapes.{Permutes}

abbrev pub Injective : ℕ → (ℕ → ℕ) → Type 0
Injective n σ = (i j : ℕ) → i < n → j < n → σ i ≡ σ j → i ≡ j

-- the numbers but t, moved together
skip : ℕ → ℕ → ℕ
skip t x = choose (dec_lt t x) (x - 1) x

skip_below : (n t x : ℕ) → x ≢ t → t ≤ n → x ≤ n → skip t x < n
unfolding skip
skip_below n t x h a b = elim (dec_lt t x) [
  | yes l ↦ (let e = choose_yes (dec_lt t x) (x - 1) x l in omega arith)
  | no l ↦ (let e = choose_no (dec_lt t x) (x - 1) x l in omega arith)
]

skip_injective : (t x y : ℕ) → x ≢ t → y ≢ t → skip t x ≡ skip t y → x ≡ y
unfolding skip
skip_injective t x y h k e = elim (dec_lt t x) [
  | yes l ↦ (let a = choose_yes (dec_lt t x) (x - 1) x l in elim (dec_lt t y) [
    | yes m ↦ (let b = choose_yes (dec_lt t y) (y - 1) y m in omega arith)
    | no m ↦ (let b = choose_no (dec_lt t y) (y - 1) y m in omega arith)
  ])
  | no l ↦ (let a = choose_no (dec_lt t x) (x - 1) x l in elim (dec_lt t y) [
    | yes m ↦ (let b = choose_yes (dec_lt t y) (y - 1) y m in omega arith)
    | no m ↦ (let b = choose_no (dec_lt t y) (y - 1) y m in omega arith)
  ])
]

-- n + 1 indices do not go into n places
pigeonhole : (n : ℕ) (σ : ℕ → ℕ) → ((i : ℕ) → i < suc n → σ i < n) → Injective (suc n) σ → ⊥
pigeonhole zero σ b h = let l = b 0 (omega arith) in omega arith
pigeonhole (suc n) σ b h = pigeonhole n (λ i. skip (σ (suc n)) (σ i))
    (λ i l. (let x = b i (omega arith) in let y = b (suc n) (omega arith) in skip_below n (σ (suc n)) (σ i) (apart i l) (omega arith) (omega arith)))
    (λ i j l m e. h i j (omega arith) (omega arith) (skip_injective (σ (suc n)) (σ i) (σ j) (apart i l) (apart j m) e))
  where
    apart : (i : ℕ) → i < suc n → σ i ≢ σ (suc n)
    apart i l e = let q : i ≡ suc n = h i (suc n) (omega arith) (omega arith) e in omega arith

-- the last index below n that goes to r; 0 where none does
unfoldable pub preimage : ℕ → (ℕ → ℕ) → ℕ → ℕ
preimage zero σ r = 0
preimage (suc n) σ r = choose (ℕ_discrete (σ n) r) n (preimage n σ r)

pub preimage_below : (n : ℕ) (σ : ℕ → ℕ) (r : ℕ) → 0 < n → preimage n σ r < n
unfolding preimage
preimage_below zero σ r l = absurd (omega arith)
preimage_below (suc n) σ r l = elim (ℕ_discrete (σ n) r) [
  | yes e ↦ (let q = choose_yes (ℕ_discrete (σ n) r) n (preimage n σ r) e in omega arith)
  | no e ↦ (let q = choose_no (ℕ_discrete (σ n) r) n (preimage n σ r) e in elim (dec_lt 0 n) [
    | yes m ↦ (let h = preimage_below n σ r m in omega arith)
    | no m ↦ (let h = preimage_nil n (omega arith) in omega arith)
  ])
]
  where
    preimage_nil : (n : ℕ) → n ≡ 0 → preimage n σ r ≡ 0
    preimage_nil n e = ap (λ (k : ℕ). preimage k σ r) e

preimage_found : (n : ℕ) (σ : ℕ → ℕ) (i : ℕ) → i < n → σ (preimage n σ (σ i)) ≡ σ i
unfolding preimage
preimage_found zero σ i l = absurd (omega arith)
preimage_found (suc n) σ i l = elim (ℕ_discrete (σ n) (σ i)) [
  | yes e ↦ ap σ (choose_yes (ℕ_discrete (σ n) (σ i)) n (preimage n σ (σ i)) e) ∙ e
  | no e ↦ ap σ (choose_no (ℕ_discrete (σ n) (σ i)) n (preimage n σ (σ i)) e) ∙ preimage_found n σ i (below e)
]
  where
    below : σ n ≢ σ i → i < n
    below e = elim (ℕ_discrete n i) [ yes q ↦ absurd (e (ap σ q)) | no q ↦ omega arith ]

pub injection_permutes : (n : ℕ) (σ : ℕ → ℕ) → ((i : ℕ) → i < n → σ i < n) → Injective n σ → Permutes n σ (preimage n σ)
injection_permutes n σ b h = record {
  below = b;
  back_below = λ i l. preimage_below n σ i (omega arith);
  back = λ i l. h (preimage n σ (σ i)) i (preimage_below n σ (σ i) (omega arith)) l (preimage_found n σ i l);
  forth = λ r l. elim (ℕ_discrete (σ (preimage n σ r)) r) [ yes e ↦ e | no e ↦ absurd (missed n σ b h r l (λ i m q. e (ap (λ (x : ℕ). σ (preimage n σ x)) (sym q) ∙ preimage_found n σ i m ∙ q))) ];
}
  where
    missed : (n : ℕ) (σ : ℕ → ℕ) → ((i : ℕ) → i < n → σ i < n) → Injective n σ → (r : ℕ) → r < n → ((i : ℕ) → i < n → σ i ≢ r) → ⊥
    missed zero σ b h r l a = omega arith
    missed (suc n) σ b h r l a = pigeonhole n (λ i. skip r (σ i))
        (λ i m. (let x = b i m in skip_below n r (σ i) (a i m) (omega arith) (omega arith)))
        (λ i j m k e. h i j m k (skip_injective r (σ i) (σ j) (a i m) (a j k) e))
