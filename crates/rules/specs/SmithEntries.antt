-- The entries of D QI, each one product of polynomials, and the test of rule 6 in code, which compares those of P(XE-A) with them.
use Rattle.std.specs.Prelude.{◌≡◌, refl, ◌≢◌, Bool, List, ℕ, zero, suc, ◌+◌, ◌*◌, ◌-◌, ◌<◌, eqb, length, replicate}
use Rattle.std.proofs.Common.{sym, ◌∙◌, ap, ap₂, add-zero, zero-add, zero-mul, arith, eqb→eq}
use Rattle.std.proofs.Math.Path.{fun_ext}
use Rattle.std.proofs.Math.Decide.{ℕ_discrete}
use Rattle.forms.specs.Numbers.{at, total}
use Rattle.forms.specs.Polynomials.{Coefficients, convolution}
use Rattle.forms.specs.Matrices.{PolynomialEntries, matrix, polynomial_matrix, diagonal, diagonal_matrix, characteristic, polynomial_product}
use Rattle.forms.specs.Tests.{cond_holds, cond_fails, equal_holds, total_suc, total_equal, total_of_zeros}
use Rattle.products.specs.Sums.{term_limit, Plus}
use Rattle.products.specs.Products.{same_modulo, Holding, holding_nothing, holding_plus}

-- a sum with one term
total_single : (n : ℕ) (f : ℕ → ℕ) (i : ℕ) → i < n → ((l : ℕ) → l ≢ i → f l ≡ 0) → total n f ≡ f i
total_single zero f i l h = absurd (omega arith)
total_single (suc n) f i l h = total_suc n f ∙ elim (ℕ_discrete i n) [
  | yes e ↦ ap₂ ◌+◌ (total_of_zeros n f (λ m q. h m (omega arith))) (ap f (sym e)) ∙ zero-add _
  | no o ↦ ap₂ ◌+◌ (total_single n f i (omega arith) h) (h n (λ e. o (sym e))) ∙ add-zero _
]

-- the entry (i, j) of D Q is f_i times that of Q
diagonal_entry : (n : ℕ) (f : ℕ → Coefficients) (Q : PolynomialEntries) (i j : ℕ) → i < n → polynomial_product n (diagonal_matrix f) Q i j ≡ convolution (f i) (Q i j)
unfolding polynomial_product diagonal_matrix convolution
diagonal_entry n f Q i j l = fun_ext (λ k.
    total_single n _ i l (λ m o. total_of_zeros (suc k) _ (λ a q. ap (λ (x : ℕ). x * Q m j (k - a)) (cond_fails (eqb i m) (f i a) 0 (λ t. o (sym (eqb→eq i m t)))) ∙ zero-mul _))
    ∙ total_equal (suc k) _ _ (λ a q. ap (λ (x : ℕ). x * Q i j (k - a)) (cond_holds (eqb i i) (f i a) 0 (equal_holds i i refl))))

-- P(XE-A) and D QI, from the payloads
abbrev pub moved_entries : ℕ → ℕ → List ℕ → List ℕ → PolynomialEntries
moved_entries p n s a = polynomial_product n (polynomial_matrix n s) (characteristic p (matrix n a))

abbrev pub returned_entries : ℕ → List ℕ → List ℕ → PolynomialEntries
returned_entries n d t = polynomial_product n (diagonal_matrix (diagonal n d)) (polynomial_matrix n t)

pub returned_entry : (n i j : ℕ) (d s f g after : List ℕ) → i < n → at f ≡ diagonal n d i → at g ≡ polynomial_matrix n s i j → Plus after (replicate term_limit 0) (convolution (at f) (at g)) → Holding after (returned_entries n d s i j)
returned_entry n i j d s f g after l e o q =
    let h = holding_plus after (replicate term_limit 0) (λ k. 0) _ holding_nothing q in
    record {
      long = h.long;
      each = λ k. h.each k ∙ zero-add _ ∙ ap₂ (λ (x y : Coefficients). convolution x y k) e o ∙ ap (λ (x : Coefficients). x k) (sym (diagonal_entry n (diagonal n d) (polynomial_matrix n s) i j l));
    }

-- the payloads of P, A and QI
pub record SmithPayloads (p n : ℕ) (s a t : List ℕ) : Type 0 where
  pub left_long : length s ≡ n * n * n
  pub matrix_long : length a ≡ n * n
  pub right_long : length t ≡ n * n * n
  pub small : (k : ℕ) → at a k < p

-- the entry (i, j) of P(XE-A) is that of D QI
abbrev pub smith_entry_test : ℕ → ℕ → List ℕ → List ℕ → List ℕ → List ℕ → ℕ → ℕ → Bool
smith_entry_test p n s a d t i j = same_modulo p (suc (2 * n)) (moved_entries p n s a i j) (returned_entries n d t i j)
