-- Each rule as the code tests it, on the payloads that it was lent, is the rule of the definitions.
use Rattle.std.specs.Prelude.{◌≡◌, refl, Bool, ℕ, suc, ◌-◌, T, eqb, Result}
use Rattle.std.proofs.Common.{◌∙◌, lit<}
use Rattle.std.proofs.Math.Path.{ap}
use mathlib.Core.List.{List}
use Rattle.forms.specs.Numbers.{at, total, every}
use Rattle.forms.specs.Answers.{fine}
use Rattle.forms.specs.Polynomials.{degree, monic, divides}
use Rattle.forms.specs.Matrices.{matrix, polynomial_matrix, diagonal, unit, polynomial_unit, diagonal_matrix, characteristic, field_product, polynomial_product}
use Rattle.forms.specs.Frobenius.{frobenius}
use Rattle.forms.specs.Certificate.{Certificate, part}
use Rattle.forms.specs.Reading.{reading, certificate_of}
use Rattle.forms.specs.Rules.{field_equal, polynomial_equal, rule}
use Rattle.forms.specs.Tests.{total_equal}
use Rattle.forms.specs.Primes.{prime_means}
use Rattle.products.specs.Searches.{failing}
use Rattle.rules.specs.Diagonal.{Degrees}
use Rattle.rules.specs.Smith.{smith_test}
use Rattle.verdict.specs.NineRules.{Searched, rules_asked, held_none, searched_next, rule_held}
use Rattle.verdict.specs.ReadPayloads.{some_order, prime_p}

-- what a rule's search answers
abbrev Answer : Type 0
Answer = Result (Unit {0}) ℕ

-- p and n are those of the header
module _ (s : List ℕ) {p n : ℕ} (ep : p ≡ at s 4) (en : n ≡ at s 5) where
  abbrev c : Certificate
  c = certificate_of s

  module _ (d : List ℕ) (is : d ≡ part (at s 5) 2 s) where
    pub monic_is : failing (every n (λ i. monic n (diagonal n d i))) 1 ≡ failing (rule c 0) 1
    unfolding rule certificate_of
    monic_is = rw (en, is) refl

    pub monic_searched : {r : Answer} → r ≡ failing (every n (λ i. monic n (diagonal n d i))) 1 → Searched c 1 r
    monic_searched e = searched_next c 0 _ (held_none c) (e ∙ monic_is)

    pub chain_is : failing (every (n - 1) (λ i. divides p n (diagonal n d i) (diagonal n d (suc i)))) 2 ≡ failing (rule c 1) 2
    unfolding rule certificate_of
    chain_is = rw (en, ep, is) refl

    pub chain_searched : {r : Answer} → rules_asked c 1 ≡ fine → r ≡ failing (every (n - 1) (λ i. divides p n (diagonal n d i) (diagonal n d (suc i)))) 2 → Searched c 2 r
    chain_searched h e = searched_next c 1 _ h (e ∙ chain_is)

    degree_sum_is : failing (eqb (total n (λ i. degree n (diagonal n d i))) n) 3 ≡ failing (rule c 2) 3
    unfolding rule certificate_of
    degree_sum_is = rw (en, is) refl

    -- the same of any table of the degrees
    pub degrees_are : (degrees : List ℕ) → Degrees n d degrees → failing (eqb (total n (at degrees)) n) 3 ≡ failing (rule c 2) 3
    degrees_are degrees h = ap (λ (x : ℕ). failing (eqb x n) 3) (total_equal n _ _ h) ∙ degree_sum_is

    pub degrees_searched : {r : Answer} → rules_asked c 2 ≡ fine → r ≡ failing (eqb (total n (λ i. degree n (diagonal n d i))) n) 3 → Searched c 3 r
    degrees_searched h e = searched_next c 2 _ h (e ∙ degree_sum_is)

    pub smith_is : (P A I : List ℕ) → P ≡ part (at s 5) 3 s → A ≡ part (at s 5) 1 s → I ≡ part (at s 5) 6 s → reading s ≡ fine → T (rule c 4)
        → failing (polynomial_equal p n (polynomial_product n (polynomial_matrix n P) (characteristic p (matrix n A))) (polynomial_product n (diagonal_matrix (diagonal n d)) (polynomial_matrix n I))) 6
        ≡ failing (rule c 5) 6
    unfolding rule certificate_of
    smith_is P A I e f g read t = rw (en, ep, is, e, f, g) (ap (λ (b : Bool). failing b 6)
        (smith_test (at s 4) (prime_means (at s 4) (prime_p s read {p = at s 4} {n = at s 5} refl refl)) (at s 5) (matrix (at s 5) (part (at s 5) 1 s))
        (part (at s 5) 3 s) (part (at s 5) 5 s) (part (at s 5) 6 s) (part (at s 5) 2 s) (some_order s read {p = at s 4} {n = at s 5} refl refl) t))

    pub smith_searched : {r : Answer} (P A I : List ℕ) → P ≡ part (at s 5) 3 s → A ≡ part (at s 5) 1 s → I ≡ part (at s 5) 6 s → reading s ≡ fine → rules_asked c 5 ≡ fine
        → r ≡ failing (polynomial_equal p n (polynomial_product n (polynomial_matrix n P) (characteristic p (matrix n A))) (polynomial_product n (diagonal_matrix (diagonal n d)) (polynomial_matrix n I))) 6
        → Searched c 6 r
    smith_searched P A I f g h read held e = searched_next c 5 _ held (e ∙ smith_is P A I f g h read (rule_held c 5 held 4 (lit< tt)))

    pub built_is : (f : List ℕ) → f ≡ part (at s 5) 7 s → failing (field_equal p n (matrix n f) (frobenius p n (diagonal n d))) 7 ≡ failing (rule c 6) 7
    unfolding rule certificate_of
    built_is f e = rw (en, ep, is, e) refl

    pub built_searched : {r : Answer} (f : List ℕ) → f ≡ part (at s 5) 7 s → rules_asked c 6 ≡ fine → r ≡ failing (field_equal p n (matrix n f) (frobenius p n (diagonal n d))) 7 → Searched c 7 r
    built_searched f g h e = searched_next c 6 _ h (e ∙ built_is f g)

  pub left_inverse_is : (a b : List ℕ) → a ≡ part (at s 5) 3 s → b ≡ part (at s 5) 4 s → failing (polynomial_equal p n (polynomial_product n (polynomial_matrix n a) (polynomial_matrix n b)) polynomial_unit) 4 ≡ failing (rule c 3) 4
  unfolding rule certificate_of
  left_inverse_is a b e f = rw (en, ep, e, f) refl

  pub left_searched : {r : Answer} (a b : List ℕ) → a ≡ part (at s 5) 3 s → b ≡ part (at s 5) 4 s → rules_asked c 3 ≡ fine
      → r ≡ failing (polynomial_equal p n (polynomial_product n (polynomial_matrix n a) (polynomial_matrix n b)) polynomial_unit) 4 → Searched c 4 r
  left_searched a b f g h e = searched_next c 3 _ h (e ∙ left_inverse_is a b f g)

  pub right_inverse_is : (a b : List ℕ) → a ≡ part (at s 5) 5 s → b ≡ part (at s 5) 6 s → failing (polynomial_equal p n (polynomial_product n (polynomial_matrix n a) (polynomial_matrix n b)) polynomial_unit) 5 ≡ failing (rule c 4) 5
  unfolding rule certificate_of
  right_inverse_is a b e f = rw (en, ep, e, f) refl

  pub right_searched : {r : Answer} (a b : List ℕ) → a ≡ part (at s 5) 5 s → b ≡ part (at s 5) 6 s → rules_asked c 4 ≡ fine
      → r ≡ failing (polynomial_equal p n (polynomial_product n (polynomial_matrix n a) (polynomial_matrix n b)) polynomial_unit) 5 → Searched c 5 r
  right_searched a b f g h e = searched_next c 4 _ h (e ∙ right_inverse_is a b f g)

  pub base_is : (a b : List ℕ) → a ≡ part (at s 5) 8 s → b ≡ part (at s 5) 9 s → failing (field_equal p n (field_product n (matrix n a) (matrix n b)) unit) 8 ≡ failing (rule c 7) 8
  unfolding rule certificate_of
  base_is a b e f = rw (en, ep, e, f) refl

  pub base_searched : {r : Answer} (a b : List ℕ) → a ≡ part (at s 5) 8 s → b ≡ part (at s 5) 9 s → rules_asked c 7 ≡ fine
      → r ≡ failing (field_equal p n (field_product n (matrix n a) (matrix n b)) unit) 8 → Searched c 8 r
  base_searched a b f g h e = searched_next c 7 _ h (e ∙ base_is a b f g)

  pub similar_is : (a b f : List ℕ) → a ≡ part (at s 5) 1 s → b ≡ part (at s 5) 8 s → f ≡ part (at s 5) 7 s
      → failing (field_equal p n (field_product n (matrix n a) (matrix n b)) (field_product n (matrix n b) (matrix n f))) 9 ≡ failing (rule c 8) 9
  unfolding rule certificate_of
  similar_is a b f e g h = rw (en, ep, e, g, h) refl

  pub similar_searched : {r : Answer} (a b f : List ℕ) → a ≡ part (at s 5) 1 s → b ≡ part (at s 5) 8 s → f ≡ part (at s 5) 7 s → rules_asked c 8 ≡ fine
      → r ≡ failing (field_equal p n (field_product n (matrix n a) (matrix n b)) (field_product n (matrix n b) (matrix n f))) 9 → Searched c 9 r
  similar_searched a b f e g h held q = searched_next c 8 _ held (q ∙ similar_is a b f e g h)
