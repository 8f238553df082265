-- The test by powers whether the polynomial of a block kills e_j: B^m e_j against the combination of the powers before it.
use Rattle.std.specs.Prelude.{◌≡◌, refl, Bool, true, List, [], ℕ, ◌+◌, ◌-◌, ◌≤◌, ◌<◌, get_or, set}
use Rattle.std.proofs.Common.{sym, ◌∙◌, ap, ap₂, add-one}
use Rattle.std.proofs.Math.Path.{fun_ext}
use Rattle.forms.specs.Numbers.{order_limit}
use Rattle.algebra.specs.Ring.{zero_plus}
use Rattle.algebra.specs.Sum.{sum, sum_nil, sum_suc, sum_equal, delta}
use Rattle.algebra.specs.Matrix.{Matrix, Vector, vector_equal, apply, apply_at, apply_product, apply_upto}
use Rattle.algebra.specs.Modular.{residue, modulo, residue_times, residue_remainder}
use Rattle.algebra.specs.Action.{power, power_suc}
use Rattle.matrices.specs.Filling.{filled, filled_inside}
use Rattle.matrices.specs.Matrices.{cell, vector, matrix, vector_inside, vector_upto, matrix_inside, matrix_within, zero_row}
use Rattle.forms.specs.Rings.{total_residue}
use Rattle.matrices.specs.Rows.{plus_row}
use Rattle.splitting.specs.Killing.{corner, Kills, kills_by_powers, unit_upto, power_none, power_one}
use Rattle.basis.specs.Searches.{column_of, column_of_at}
use Rattle.basis.specs.State.{Array, plus_row_vector, single_vector, column_vector}
use Rattle.basis.specs.Steps.{entry_of}

-- b g
abbrev pub applied : (p n : ℕ) → Array → List ℕ → List ℕ
applied p n b g = filled n (λ i. entry_of p n (get_or b i []) g) zero_row

applied_vector : (p n : ℕ) (b : Array) (g : List ℕ) → 0 < p → vector p n (applied p n b g) ≡ apply (modulo p) n (matrix p n b) (vector p n g)
applied_vector p n b g h = vector_equal (modulo p) n _ _ (vector_upto p n _) (apply_upto (modulo p) n _ _ (matrix_within p n b)) (λ i l.
    vector_inside p n (applied p n b g) i l ∙ ap (residue p) (filled_inside n (λ i. entry_of p n (get_or b i []) g) zero_row 0 i l) ∙ residue_remainder p _ h ∙ total_residue p n _
    ∙ sum_equal (modulo p) _ _ n (λ k q. residue_times p _ _ ∙ ap₂ (modulo p).times (sym (matrix_inside p n b i k l q)) (sym (vector_inside p n g k q))) ∙ sym (apply_at (modulo p) n _ _ i))

-- g is B^e e_j, and v the combination of the powers before it
pub record Powered (p n m j : ℕ) (b : Array) (e : ℕ) (g v : List ℕ) : Type 0 where
  pub power_is : vector p n g ≡ apply (modulo p) n (power (modulo p) n (matrix p n b) e) (delta (modulo p) j)
  pub sum_is : (i : ℕ) → vector p n v i ≡ sum (modulo p) (λ k. (modulo p).times (matrix p n b k (m - 1)) (apply (modulo p) n (power (modulo p) n (matrix p n b) k) (delta (modulo p) j) i)) e

-- the polynomial of the block of m kills e_j
abbrev pub KillsUnit : (p n m : ℕ) → Array → ℕ → Type 0
KillsUnit p n m b j = Kills (modulo p) n (matrix p n b) (corner (modulo p) m (matrix p n b)) (delta (modulo p) j)

-- where the answer is yes, the polynomial of the block of m kills e_j
pub record KilledTest (p n m j : ℕ) (b : Array) (r : Bool) : Type 0 where
  pub kills : r ≡ true → KillsUnit p n m b j

module _ (p n m j : ℕ) (b : Array) (h : 0 < p) (o : n ≤ order_limit) (l : j < n) where
  -- B e_j is column j, and the combination of the one power before it has one entry
  pub powered_start : 0 < n → m - 1 < n → Powered p n m j b 1 (column_of n b j) (set zero_row j (cell b 0 (m - 1)))
  powered_start zn mn = record {
    power_is = fun_ext (column_vector p n j b (column_of n b j) l (column_of_at n b j)) ∙ sym (power_one (modulo p) n (matrix p n b) j l);
    sum_is = λ i. single_vector p n j (cell b 0 (m - 1)) o l i ∙ ap₂ (modulo p).times (sym (matrix_inside p n b 0 (m - 1) zn mn)) (ap (λ (w : Vector (modulo p)). w i) (sym (power_none (modulo p) n (matrix p n b) j l)))
        ∙ sym (sum_suc (modulo p) _ 0 ∙ ap₂ (modulo p).plus (sum_nil (modulo p) _) refl ∙ zero_plus (modulo p) _);
  }

  pub powered_turn : (e : ℕ) (g v : List ℕ) → e < n → m - 1 < n → Powered p n m j b e g v → Powered p n m j b (e + 1) (applied p n b g) (plus_row p order_limit v (cell b e (m - 1)) g)
  powered_turn e g v en mn x = rw (add-one e) (record {
    power_is = applied_vector p n b g h ∙ ap (apply (modulo p) n (matrix p n b)) x.power_is
        ∙ sym (ap (λ (M : Matrix (modulo p)). apply (modulo p) n M (delta (modulo p) j)) (power_suc (modulo p) n (matrix p n b) e) ∙ apply_product (modulo p) n _ _ _);
    sum_is = λ i. plus_row_vector p n v (cell b e (m - 1)) g h o i
        ∙ ap₂ (modulo p).plus (x.sum_is i) (ap₂ (modulo p).times (sym (matrix_inside p n b e (m - 1) en mn)) (ap (λ (w : Vector (modulo p)). w i) x.power_is)) ∙ sym (sum_suc (modulo p) _ e);
  })

  pub powered_kills : (g v : List ℕ) → Powered p n m j b m g v → ((i : ℕ) → i < n → get_or g i 0 ≡ get_or v i 0) → KillsUnit p n m b j
  powered_kills g v x e = kills_by_powers (modulo p) n m (matrix p n b) (λ i. matrix p n b i (m - 1)) (delta (modulo p) j) (matrix_within p n b) (unit_upto (modulo p) n (matrix p n b) j l) (λ i.
      ap (λ (w : Vector (modulo p)). w i) (sym x.power_is ∙ vector_equal (modulo p) n _ _ (vector_upto p n g) (vector_upto p n v) (λ i l. vector_inside p n g i l ∙ ap (residue p) (e i l) ∙ sym (vector_inside p n v i l))) ∙ x.sum_is i)
