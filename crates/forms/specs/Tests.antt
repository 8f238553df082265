-- The laws of tests and questions, once each: when they hold, when they are fine, and which refusal they come to.
use Rattle.std.specs.Prelude.{◌≡◌, refl, Bool, true, false, cond, ◌&&◌, ℕ, zero, suc, ◌+◌, ◌≤◌, ◌<◌, T, eqb}
use Rattle.std.proofs.Common.{sym, ◌∙◌, ap, ap₂, subst, add-zero, add-suc, arith}
use Rattle.std.proofs.Math.Decide.{ℕ_discrete}
use Rattle.std.proofs.Math.Dec.{eqb_refl}
use Rattle.forms.specs.Numbers.{total, every}
use Rattle.forms.specs.Answers.{Asked, fine, refuse, ◌then◌, ask, each}

pub equal_holds : (x y : ℕ) → x ≡ y → T (eqb x y)
equal_holds x y e = subst (λ (z : ℕ). T (eqb x z)) e (eqb_refl x)

pub and_parts : (a b : Bool) → T (a && b) → T a × T b
and_parts true b t = (tt, t)
and_parts false b t = absurd t

pub and_holds : (a b : Bool) → T a → T b → T (a && b)
and_holds true b s t = t
and_holds false b s t = absurd s

module _ {A : Type 0} where
  pub cond_holds : (b : Bool) (x y : A) → T b → cond b x y ≡ x
  cond_holds true x y t = refl
  cond_holds false x y t = absurd t

  pub cond_fails : (b : Bool) (x y : A) → (T b → ⊥) → cond b x y ≡ y
  cond_fails true x y h = absurd (h tt)
  cond_fails false x y h = refl

pub every_at : (n : ℕ) (t : ℕ → Bool) → T (every n t) → (i : ℕ) → i < n → T (t i)
unfolding every
every_at zero t h i l = absurd (omega arith)
every_at (suc n) t h i l = elim (ℕ_discrete i n) [
  | yes e ↦ subst (λ (x : ℕ). T (t x)) (sym e) (and_parts (every n t) (t n) h).1
  | no m ↦ every_at n t (and_parts (every n t) (t n) h).0 i (omega arith)
]

pub every_holds : (n : ℕ) (t : ℕ → Bool) → ((i : ℕ) → i < n → T (t i)) → T (every n t)
unfolding every
every_holds zero t h = tt
every_holds (suc n) t h = and_holds (every n t) (t n) (every_holds n t (λ i l. h i (omega arith))) (h n (omega arith))

pub total_suc : (n : ℕ) (f : ℕ → ℕ) → total (suc n) f ≡ total n f + f n
unfolding total
total_suc n f = refl

pub total_equal : (n : ℕ) (f g : ℕ → ℕ) → ((i : ℕ) → i < n → f i ≡ g i) → total n f ≡ total n g
unfolding total
total_equal zero f g h = refl
total_equal (suc n) f g h = ap₂ ◌+◌ (total_equal n f g (λ i l. h i (omega arith))) (h n (omega arith))

pub total_of_zeros : (n : ℕ) (f : ℕ → ℕ) → ((i : ℕ) → i < n → f i ≡ 0) → total n f ≡ 0
unfolding total
total_of_zeros zero f h = refl
total_of_zeros (suc n) f h = ap₂ ◌+◌ (total_of_zeros n f (λ i l. h i (omega arith))) (h n (omega arith))

-- nothing is added from m on
pub total_short : (m : ℕ) (f : ℕ → ℕ) → ((i : ℕ) → m ≤ i → f i ≡ 0) → (d : ℕ) → total (m + d) f ≡ total m f
total_short m f h zero = ap (λ (x : ℕ). total x f) (add-zero m)
total_short m f h (suc d) = ap (λ (x : ℕ). total x f) (add-suc m d) ∙ total_suc (m + d) f ∙ ap₂ ◌+◌ (total_short m f h d) (h (m + d) (omega arith)) ∙ add-zero _

-- a refusal is not fine
pub refuse_not_fine : (number place : ℕ) → refuse number place ≡ fine → ⊥
refuse_not_fine number place e = let q : refuse number place ≡ fine = e in let w : ◌≡◌ {A = ℕ} 0 1 = cc in omega arith

pub ask_fine : (b : Bool) (number place : ℕ) → ask b number place ≡ fine → T b
unfolding ask
ask_fine true number place e = tt
ask_fine false number place e = refuse_not_fine number place e

pub fine_ask : (b : Bool) (number place : ℕ) → T b → ask b number place ≡ fine
unfolding ask
fine_ask b number place t = cond_holds b fine (refuse number place) t

pub refuse_ask : (b : Bool) (number place : ℕ) → (T b → ⊥) → ask b number place ≡ refuse number place
unfolding ask
refuse_ask b number place h = cond_fails b fine (refuse number place) h

pub then_fine : (s t : Asked) → (s then t) ≡ fine → (s ≡ fine) × (t ≡ fine)
then_fine fine t e = (refl, e)
then_fine (refuse number place) t e = absurd (refuse_not_fine number place e)

pub fine_then : {s t : Asked} → s ≡ fine → (s then t) ≡ t
fine_then {s} {t} e = ap (λ (x : Asked). x then t) e

pub refuse_then : {s : Asked} (t : Asked) {number place : ℕ} → s ≡ refuse number place → (s then t) ≡ refuse number place
refuse_then t e = ap (λ (x : Asked). x then t) e

pub each_fine : (n : ℕ) (t : ℕ → Asked) → each n t ≡ fine → (k : ℕ) → k < n → t k ≡ fine
unfolding each
each_fine zero t e k l = absurd (omega arith)
each_fine (suc n) t e k l = elim (ℕ_discrete k n) [
  | yes q ↦ ap t q ∙ (then_fine (each n t) (t n) e).1
  | no q ↦ each_fine n t (then_fine (each n t) (t n) e).0 k (omega arith)
]

pub fine_each : (n : ℕ) (t : ℕ → Asked) → ((k : ℕ) → k < n → t k ≡ fine) → each n t ≡ fine
unfolding each
fine_each zero t h = refl
fine_each (suc n) t h = fine_then (fine_each n t (λ k l. h k (omega arith))) ∙ h n (omega arith)

-- the first that refuses decides
pub refuse_each : (n : ℕ) (t : ℕ → Asked) (k number place : ℕ) → k < n → ((i : ℕ) → i < k → t i ≡ fine) → t k ≡ refuse number place → each n t ≡ refuse number place
unfolding each
refuse_each zero t k number place l h e = absurd (omega arith)
refuse_each (suc n) t k number place l h e = elim (ℕ_discrete k n) [
  | yes q ↦ fine_then (fine_each n t (λ i m. h i (omega arith))) ∙ ap t (sym q) ∙ e
  | no q ↦ refuse_then (t n) (refuse_each n t k number place (omega arith) h e)
]

-- questions of one number are refused by that number
pub each_number : (n : ℕ) (b : ℕ → Bool) (number : ℕ) (place : ℕ → ℕ) (x y : ℕ) → each n (λ k. ask (b k) number (place k)) ≡ refuse x y → number ≡ x
unfolding each ask
each_number zero b number place x y e = absurd (refuse_not_fine x y (sym e))
each_number (suc n) b number place x y e = go (each n (λ k. ask (b k) number (place k))) (each_number n b number place x y) (b n) e
  where
    go : (s : Asked) → (s ≡ refuse x y → number ≡ x) → (c : Bool) → (s then ask c number (place n)) ≡ refuse x y → number ≡ x
    go (refuse u v) h c w = h w
    go fine h true w = absurd (refuse_not_fine x y (sym w))
    go fine h false w = let r : refuse number (place n) ≡ refuse x y = w in cc
