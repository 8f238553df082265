-- The test for the zero matrix, which no inverse is.
use Rattle.std.specs.Prelude.{◌≡◌, Bool, Some, List, [], ℕ, ◌<◌, T, eqb, get_or}
use Rattle.std.proofs.Common.{sym, ◌∙◌, ap, eqb→eq}
use Rattle.forms.specs.Numbers.{every}
use Rattle.forms.specs.Tests.{every_at, every_holds, equal_holds}
use Rattle.algebra.specs.Ring.{zero_times}
use Rattle.algebra.specs.Sum.{sum_of_zeros, delta_same}
use Rattle.algebra.specs.Matrix.{Matrix, product_at, identity_inside, matrix_zero}
use Rattle.algebra.specs.Inverse.{Inverse}
use Rattle.algebra.specs.Modular.{modulo, residue_zero, residue_injective, Prime, one_is_not_zero}
use Rattle.matrices.specs.Matrices.{cell, matrix, matrix_inside, matrix_of_zeros, FieldMatrix}
use Rattle.inversion.specs.Inversion.{Inverted}

-- n zeros
abbrev pub zero_entries : ℕ → List ℕ → Bool
zero_entries n v = every n (λ j. eqb (get_or v j 0) 0)

-- k rows of n zeros
abbrev pub zero_lines : ℕ → List (List ℕ) → ℕ → Bool
zero_lines n m k = every k (λ i. zero_entries n (get_or m i []))

unfoldable pub is_zero : ℕ → List (List ℕ) → Bool
is_zero n m = zero_lines n m n

-- on a field matrix the test holds exactly where it is zero
pub test_of_zero : (p n : ℕ) (m : List (List ℕ)) → 0 < p → FieldMatrix p n m → matrix p n m ≡ matrix_zero (modulo p) → T (is_zero n m)
unfolding is_zero matrix_zero
test_of_zero p n m h f e = every_holds n _ (λ i l. every_holds n _ (λ j g. equal_holds _ 0 (residue_injective p (cell m i j) 0 (f.small i j l g) h
    (sym (matrix_inside p n m i j l g) ∙ ap (λ (M : Matrix (modulo p)). M i j) e ∙ sym (residue_zero p)))))

pub zero_of_test : (p n : ℕ) (m : List (List ℕ)) → T (is_zero n m) → matrix p n m ≡ matrix_zero (modulo p)
unfolding is_zero
zero_of_test p n m t = matrix_of_zeros p n m (λ i j l g. eqb→eq _ 0 (every_at n _ (every_at n (λ i. zero_entries n (get_or m i [])) t i l) j g))

inverse_is_not_zero : (p n : ℕ) (A B : Matrix (modulo p)) → Prime p → 0 < n → Inverse (modulo p) n A B → ¬ (B ≡ matrix_zero (modulo p))
unfolding matrix_zero
inverse_is_not_zero p n A B P l i z = one_is_not_zero p P (
    sym (delta_same (modulo p) 0) ∙ sym (identity_inside (modulo p) n 0 0 l) ∙ sym (ap (λ (M : Matrix (modulo p)). M 0 0) i.left) ∙ product_at (modulo p) n B A 0 0
    ∙ sum_of_zeros (modulo p) _ n (λ k g. ap (λ (M : Matrix (modulo p)). (modulo p).times (M 0 k) (A k 0)) z ∙ zero_times (modulo p) (A k 0)))

-- no inverse is zero
pub inverted_not_zero : (p n : ℕ) (a r : List (List ℕ)) → Prime p → 0 < n → Inverted p n a (Some r) → ¬ T (is_zero n r)
inverted_not_zero p n a r P l x t = inverse_is_not_zero p n _ _ P l x.inverse (zero_of_test p n r t)
