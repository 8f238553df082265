-- The answer of the code is the test by which the definitions say rule 2, where f is monic.
use Rattle.std.specs.Prelude.{◌≡◌, refl, ◌↔◌, Bool, true, false, ℕ, suc, ◌<◌, T}
use Rattle.std.proofs.Common.{◌∙◌, ap}
use Rattle.algebra.specs.Divides.{Divides}
use Rattle.algebra.specs.Polynomial.{polynomials}
use Rattle.algebra.specs.Modular.{residue, modulo}
use Rattle.forms.specs.Numbers.{at}
use Rattle.forms.specs.Polynomials.{Coefficients, degree, divides}
use Rattle.forms.specs.Bounds.{Short}
use Rattle.forms.specs.Remainders.{test_divides}
use Rattle.polynomials.specs.declared.Polynomial.{Polynomial}
use Rattle.polynomials.specs.Canonical.{polynomial, polynomial_of_at}

-- two tests that hold alike are the same
pub same_answer : (a b : Bool) → (T a → T b) → (T b → T a) → a ≡ b
same_answer true true h k = refl
same_answer true false h k = absurd (h tt)
same_answer false true h k = absurd (k tt)
same_answer false false h k = refl

-- f and g, of degree at most n, as they are held in x and y
pub answer_is_test : (p n : ℕ) (f g : Coefficients) (x y : Polynomial) (answer : Bool) → 0 < p → f (degree n f) ≡ 1 → Short (suc n) f → ((k : ℕ) → g k < p) → Short (suc n) g
    → ((k : ℕ) → at x.coefficients k ≡ f k) → ((k : ℕ) → at y.coefficients k ≡ g k)
    → T answer ↔ Divides (polynomials (modulo p)) (polynomial p x) (polynomial p y) → answer ≡ divides p n f g
answer_is_test p n f g x y answer positive one f_short small g_short x_is y_is h =
    let test = test_divides p positive n f g one f_short small g_short (polynomial p x) (polynomial p y)
    (λ k. polynomial_of_at p x.coefficients k ∙ ap (residue p) (x_is k)) (λ k. polynomial_of_at p y.coefficients k ∙ ap (residue p) (y_is k)) in
    same_answer answer (divides p n f g) (λ t. test.1 (h.0 t)) (λ t. h.1 (test.0 t))
