-- Rules 8 and 9 in code: matrices taken from payloads, multiplied, and compared entry by entry.
use Rattle.std.specs.Prelude.{◌≡◌, Bool, List, ℕ, ◌*◌, ◌%◌, ◌<◌, eqb, length}
use Rattle.std.proofs.Common.{sym, ◌∙◌, ap, ap₂, mod-eq_of_lt}
use Rattle.algebra.specs.Matrix.{Matrix, product}
use Rattle.algebra.specs.Modular.{modulo, equal_residue}
use Rattle.forms.specs.Numbers.{every}
use Rattle.forms.specs.Matrices as definitions
use Rattle.forms.specs.Matrices.{Entries, unit, field_product}
use Rattle.forms.specs.Rules.{field_equal}
use Rattle.forms.specs.Rings.{field, field_inside, field_of_product, field_of_unit}
use Rattle.matrices.specs.Loading.{loaded, loaded_is}
use Rattle.matrices.specs.Matrices.{cell, matrix, matrix_inside, FieldMatrix}
use Rattle.matrices.specs.Products.{Multiplied}
use Rattle.matrices.specs.Rows.{IsIdentity}
use Rattle.products.specs.Searches.{every_equal}

-- all entries are the same
abbrev pub same_cells : ℕ → List (List ℕ) → List (List ℕ) → Bool
same_cells n a b = every n (λ i. every n (λ j. eqb (cell a i j) (cell b i j)))

-- field matrices with the entries A and B modulo p are the same exactly where the rules' test says so
module _ (p n : ℕ) (positive : 0 < p) where
  cell_is : (a : List (List ℕ)) (A : Entries) → FieldMatrix p n a → matrix p n a ≡ field p n A → (i j : ℕ) → i < n → j < n → cell a i j ≡ A i j % p
  cell_is a A h e i j l g = sym (mod-eq_of_lt (h.small i j l g))
      ∙ equal_residue p (cell a i j) (A i j) positive (sym (matrix_inside p n a i j l g) ∙ ap (λ (M : Matrix (modulo p)). M i j) e ∙ field_inside p n A i j l g)

  pub cells_test : (a b : List (List ℕ)) (A B : Entries) → FieldMatrix p n a → FieldMatrix p n b → matrix p n a ≡ field p n A → matrix p n b ≡ field p n B → same_cells n a b ≡ field_equal p n A B
  cells_test a b A B x y e f = every_equal n _ _ (λ i l. every_equal n _ _ (λ j g. ap₂ eqb (cell_is a A x e i j l g) (cell_is b B y f i j l g)))

  -- a product of matrices taken from payloads
  pub payload_product : (s t : List ℕ) (a b r : List (List ℕ)) → a ≡ loaded n s → b ≡ loaded n t → Multiplied p n a b r → matrix p n r ≡ field p n (field_product n (definitions.matrix n s) (definitions.matrix n t))
  payload_product s t a b r h q m = m.is ∙ ap₂ (product (modulo p) n) (ap (matrix p n) h ∙ loaded_is p n s) (ap (matrix p n) q ∙ loaded_is p n t) ∙ sym (field_of_product p n _ _)

  pub identity_is : (r : List (List ℕ)) → IsIdentity n r → matrix p n r ≡ field p n unit
  identity_is r h = h.is p ∙ sym (field_of_unit p n)

-- the payloads of T and its inverse, and of A, T and F
pub record BasePayloads (p n : ℕ) (s t : List ℕ) : Type 0 where
  pub large : 1 < p
  pub base_long : length s ≡ n * n
  pub back_long : length t ≡ n * n

pub record SimilarPayloads (n : ℕ) (a s f : List ℕ) : Type 0 where
  pub matrix_long : length a ≡ n * n
  pub base_long : length s ≡ n * n
  pub form_long : length f ≡ n * n
