-- Rule 7 in code: the entry of F that D asks is looked for block by block, and compared with that of FB.
use Rattle.std.specs.Prelude.{◌≡◌, refl, ◌≢◌, Bool, true, false, cond, List, ℕ, suc, ◌+◌, ◌*◌, ◌-◌, ◌%◌, ◌≤◌, ◌<◌, eqb, length}
use Rattle.std.specs.Int.{from_bool}
use Rattle.std.proofs.Common.{sym, ◌∙◌, ap, ap₂, add-one, mod-eq_of_lt, arith, eqb→eq}
use Rattle.forms.specs.Numbers.{at}
use Rattle.forms.specs.Polynomials.{Coefficients, degree}
use Rattle.forms.specs.Matrices.{matrix, diagonal, unit}
use Rattle.forms.specs.Frobenius.{companion, blocks, frobenius}
use Rattle.forms.specs.Tests.{cond_holds, cond_fails, equal_holds}
use Rattle.forms.proofs.Bounds.{frobenius_small}
use Rattle.forms.proofs.FrobeniusEntries.{blocks_first, blocks_behind, blocks_above, blocks_below}

pub companion_last : (p m : ℕ) (f : Coefficients) (i j x : ℕ) → j + 1 ≡ m → f i ≡ x → (p - x) % p ≡ companion p m f i j
unfolding companion
companion_last p m f i j x e g = ap (λ (y : ℕ). (p - y) % p) (sym g) ∙ sym (cond_holds (eqb (suc j) m) _ _ (equal_holds (suc j) m (omega arith)))

pub companion_before : (p m : ℕ) (f : Coefficients) (i j x : ℕ) → j + 1 ≢ m → x ≡ from_bool (eqb i (j + 1)) → x ≡ companion p m f i j
unfolding companion unit
companion_before p m f i j x o e = e ∙ as_number (eqb i (j + 1)) ∙ ap (λ (k : ℕ). unit i k) (add-one j) ∙ sym (cond_fails (eqb (suc j) m) _ _ (λ t. o (let w = eqb→eq (suc j) m t in omega arith)))
  where
    as_number : (b : Bool) → from_bool b ≡ cond b 1 0
    as_number true = refl
    as_number false = refl

-- what is left of the entry (i, j) once b blocks are passed: the entry (row, column) of the blocks behind
abbrev pub Behind : ℕ → ℕ → (ℕ → Coefficients) → ℕ → ℕ → ℕ → ℕ → ℕ → Type 0
Behind p n f i j b row column = frobenius p n f i j ≡ blocks p n f (n - b) b row column

pub behind_none : (p n : ℕ) (f : ℕ → Coefficients) (i j : ℕ) → Behind p n f i j 0 i j
unfolding frobenius
behind_none p n f i j = ap (λ (r : ℕ). blocks p n f r 0 i j) whole
  where
    whole : n ≡ n - 0
    whole = omega arith

module _ (p n : ℕ) (f : ℕ → Coefficients) (i j b row column m : ℕ) (h : Behind p n f i j b row column) (is : m ≡ degree n (f b)) where
  one_more : b < n → n - b ≡ suc (n - (b + 1))
  one_more l = omega arith

  opened : b < n → frobenius p n f i j ≡ blocks p n f (suc (n - (b + 1))) b row column
  opened l = h ∙ ap (λ (r : ℕ). blocks p n f r b row column) (one_more l)

  pub behind_here : b < n → row < m → column < m → companion p m (f b) row column ≡ frobenius p n f i j
  behind_here l x y = ap (λ (z : ℕ). companion p z (f b) row column) is ∙ sym (opened l ∙ blocks_first p n f (n - (b + 1)) b row column (omega arith) (omega arith))

  pub behind_above : b < n → row < m → m ≤ column → 0 ≡ frobenius p n f i j
  behind_above l x y = sym (opened l ∙ blocks_above p n f (n - (b + 1)) b row column (omega arith) (omega arith))

  pub behind_below : b < n → m ≤ row → column < m → 0 ≡ frobenius p n f i j
  behind_below l x y = sym (opened l ∙ blocks_below p n f (n - (b + 1)) b row column (omega arith) (omega arith))

  pub behind_more : b < n → m ≤ row → m ≤ column → Behind p n f i j (b + 1) (row - m) (column - m)
  behind_more l x y = opened l ∙ blocks_behind p n f (n - (b + 1)) b row column (omega arith) (omega arith)
      ∙ ap₂ (λ (c z : ℕ). blocks p n f (n - (b + 1)) c (row - z) (column - z)) (suc_is b) (sym is)
    where
      suc_is : (b : ℕ) → suc b ≡ b + 1
      suc_is b = omega arith

pub behind_all : (p n : ℕ) (f : ℕ → Coefficients) (i j b row column : ℕ) → Behind p n f i j b row column → n ≤ b → 0 ≡ frobenius p n f i j
unfolding blocks
behind_all p n f i j b row column h l = sym (h ∙ ap (λ (r : ℕ). blocks p n f r b row column) none)
  where
    none : n - b ≡ 0
    none = omega arith

-- the payloads of D and F
pub record FrobeniusPayloads (p n : ℕ) (d f : List ℕ) : Type 0 where
  pub small : (k : ℕ) → at d k < p
  pub long : length f ≡ n * n
  pub field_small : (k : ℕ) → at f k < p
  pub large : 1 < p

-- the entry (i, j) of FB is that of F
abbrev pub built_test : ℕ → ℕ → List ℕ → List ℕ → ℕ → ℕ → Bool
built_test p n d f i j = eqb (matrix n f i j % p) (frobenius p n (diagonal n d) i j % p)

pub built_entry : (p n : ℕ) (d f : List ℕ) → FrobeniusPayloads p n d f → (i j y x : ℕ) → y ≡ at f (i * n + j) → x ≡ frobenius p n (diagonal n d) i j → eqb y x ≡ built_test p n d f i j
unfolding matrix
built_entry p n d f h i j y x e g = ap₂ eqb (e ∙ sym (mod-eq_of_lt (h.field_small (i * n + j)))) (g ∙ sym (mod-eq_of_lt (frobenius_small p n (diagonal n d) h.large i j)))
