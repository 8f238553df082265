-- Loops that fill an array from the front, that add up and that test each index: what holds after n turns, at every length and kind of entry.
use Rattle.std.specs.Prelude.{◌≡◌, Bool, true, false, length, set, take}
use Rattle.std.specs.List.{list_all}
use Rattle.std.proofs.lemmas.List.Folds.{list_all_more}
use Rattle.std.proofs.Math.Path.{refl, ap}
use Rattle.std.proofs.Common.{sym, ◌∙◌, add-one, le_antisymm, arith, length-append}
use Rattle.std.proofs.Math.Bool.{and-false}
use mathlib.Core.List.{List, [], ◌∷◌, ◌++◌, append_assoc}
use Prim.Native.Nat.{ℕ, zero, suc, ◌+◌, ◌-◌, ◌≤◌, ◌<◌}
use Rattle.std.proofs.Math.Decide.{dec_lt, ℕ_discrete}
use Rattle.std.proofs.Math.ListN.{drop, get_or}
use Rattle.std.proofs.Math.Seq.{drop-cons, set_at, get_or-append-add, get_or-drop}
use Rattle.forms.specs.Numbers.{total, every}
use Rattle.forms.specs.Tests.{total_suc}

module _ {A : Type 0} where
  -- f 0 ∷ .. ∷ f (n-1)
  build : ℕ → (ℕ → A) → List A
  build zero f = []
  build (suc n) f = build n f ++ (f n ∷ [])

  length_build : (n : ℕ) (f : ℕ → A) → length (build n f) ≡ n
  unfolding build
  length_build zero f = refl
  length_build (suc n) f = simp (length-append, length_build n f, add-one)

  -- d with its first n entries taken from f
  pub filled : ℕ → (ℕ → A) → List A → List A
  filled n f d = build n f ++ drop n d

  pub fill_start : (d : List A) (f : ℕ → A) → d ≡ filled 0 f d
  unfolding filled build
  fill_start d f = refl

  fill_step : (d : List A) (n : ℕ) (f : ℕ → A) → n < length d → set (filled n f d) n (f n) ≡ filled (n + 1) f d
  unfolding filled build
  fill_step d n f h = rw (add-one n, drop-cons d n (f n), set_at (build n f) _ _ (f n) n (length_build n f), append_assoc)

  -- one turn of the loop
  pub fill_turn : (d : List A) {l : List A} (n : ℕ) (f : ℕ → A) {v : A} → n < length d → l ≡ filled n f d → v ≡ f n → set l n v ≡ filled (n + 1) f d
  fill_turn d n f h e g = rw (e, g) (fill_step d n f h)

  pub fill_end : (d : List A) {l : List A} {i n : ℕ} (f : ℕ → A) → l ≡ filled i f d → i ≤ n → n ≤ i → l ≡ filled n f d
  fill_end d f e h g = rw (le_antisymm g h) e

  build_at : (n : ℕ) (f : ℕ → A) (l : List A) (e : A) (i : ℕ) → i < n → get_or (build n f ++ l) i e ≡ f i
  unfolding build
  build_at zero f l e i h = absurd (omega arith)
  build_at (suc n) f l e i h = rw append_assoc (elim (dec_lt i n) [
    | yes g ↦ build_at n f (f n ∷ l) e i g
    | no g ↦ ap (λ (k : ℕ). get_or (build n f ++ (f n ∷ l)) k e) (omega (arith, length_build n f)) ∙ get_or-append-add (build n f) (f n ∷ l) 0 e ∙ ap f (omega arith)
  ])

  pub filled_inside : (n : ℕ) (f : ℕ → A) (d : List A) (e : A) (i : ℕ) → i < n → get_or (filled n f d) i e ≡ f i
  unfolding filled
  filled_inside n f d e i h = build_at n f (drop n d) e i h

  pub filled_outside : (n : ℕ) (f : ℕ → A) (d : List A) (e : A) (i : ℕ) → n ≤ i → get_or (filled n f d) i e ≡ get_or d i e
  unfolding filled
  filled_outside n f d e i h =
      ap (λ (k : ℕ). get_or (build n f ++ drop n d) k e) (omega (arith, length_build n f)) ∙ get_or-append-add (build n f) (drop n d) (i - n) e
      ∙ get_or-drop n d (i - n) e ∙ ap (λ (k : ℕ). get_or d k e) (omega arith)

-- one turn of a loop that adds up
pub total_turn : (n : ℕ) (f : ℕ → ℕ) → total (n + 1) f ≡ total n f + f n
total_turn n f = rw (add-one n) (total_suc n f)

-- a loop that tests each index: at the start, after a turn, and where a test fails
pub every_start : (t : ℕ → Bool) → every 0 t ≡ true
unfolding every
every_start t = refl

pub every_turn : (n : ℕ) (t : ℕ → Bool) → every n t ≡ true → t n ≡ true → every (n + 1) t ≡ true
unfolding every
every_turn n t e f = rw (add-one n, e, f)

pub every_fails : (n : ℕ) (t : ℕ → Bool) (i : ℕ) → i < n → t i ≡ false → every n t ≡ false
unfolding every
every_fails zero t i l e = absurd (omega arith)
every_fails (suc n) t i l e = elim (ℕ_discrete i n) [
  | yes o ↦ rw ((sym (ap t o) ∙ e), and-false)
  | no o ↦ rw (every_fails n t i (omega arith) e)
]

-- a test of the first n elements
pub every_taken : {A : Type 0} (test : A → Bool) (d : A) (l : List A) (n : ℕ) → n ≤ length l → list_all test (take n l) ≡ every n (λ i. test (get_or l i d))
unfolding every
every_taken test d l zero h = refl
every_taken test d l (suc n) h = rw (← add-one n, list_all_more test l n d (omega arith), every_taken test d l n (omega arith))
