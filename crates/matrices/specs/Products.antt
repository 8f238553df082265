-- The product of two field matrices: entry by entry a sum of numbers, of which the remainder is taken once.
use Rattle.std.specs.Prelude.{◌≡◌, List, [], ℕ, ◌*◌, ◌%◌, ◌<◌, get_or}
use Rattle.std.proofs.Common.{sym, ◌∙◌, ap, mod-lt}
use Rattle.std.proofs.Math.Nat.{mod-mod}
use Rattle.forms.specs.Numbers.{total}
use Rattle.forms.specs.Matrices.{field_product}
use Rattle.forms.specs.Words.{FieldEqual}
use Rattle.forms.specs.Rings.{field_of_equal, field_of_product}
use Rattle.algebra.specs.Matrix.{product}
use Rattle.algebra.specs.Modular.{modulo}
use Rattle.matrices.specs.Filling.{filled, filled_inside}
use Rattle.matrices.specs.Matrices.{cell, matrix, FieldMatrix, Square, field_matrix_determined, zero_row, zero_rows, filled_row, filled_cell, filled_field}

-- r is the product of a and b
pub record Multiplied (p n : ℕ) (a b r : List (List ℕ)) : Type 0 where
  pub is : matrix p n r ≡ product (modulo p) n (matrix p n a) (matrix p n b)
  pub field : FieldMatrix p n r

-- any two answers are the same, byte by byte
pub multiplied_determined : (p n : ℕ) (a b r s : List (List ℕ)) → Square r → Square s → Multiplied p n a b r → Multiplied p n a b s → r ≡ s
multiplied_determined p n a b r s u v x y = field_matrix_determined p n r s u v x.field y.field (x.is ∙ sym y.is)

-- the row v times b
abbrev pub product_row : ℕ → ℕ → List ℕ → List (List ℕ) → List ℕ
product_row p n v b = filled n (λ j. total n (λ k. get_or v k 0 * cell b k j) % p) zero_row

abbrev pub product_rows : ℕ → ℕ → List (List ℕ) → List (List ℕ) → List (List ℕ)
product_rows p n a b = filled n (λ i. product_row p n (get_or a i []) b) zero_rows

product_entry : (p n : ℕ) (a b : List (List ℕ)) → FieldEqual p n (cell (product_rows p n a b)) (field_product n (cell a) (cell b))
unfolding field_product
product_entry p n a b i j l g = ap (λ (x : ℕ). x % p) (filled_cell n (λ i. product_row p n (get_or a i []) b) i j l ∙ filled_inside n (λ j. total n (λ k. cell a i k * cell b k j) % p) zero_row 0 j g) ∙ mod-mod _ p

pub product_multiplies : (p n : ℕ) (a b r : List (List ℕ)) → 0 < p → r ≡ product_rows p n a b → Multiplied p n a b r
unfolding matrix
product_multiplies p n a b r h e = rw e (record {
  is = field_of_equal p n _ _ h (product_entry p n a b) ∙ field_of_product p n (cell a) (cell b);
  field = filled_field p n _ (λ i l. filled_row p n _ (λ j g. mod-lt _ h));
})
