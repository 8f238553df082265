-- Answers that look right and are refuted: the rational answer of case e reduced modulo 2, telling loops apart by the product of
-- their polynomials and the last of them, and a diagonal without the dividing chain.
use Rattle.std.specs.Prelude.{◌≡◌, refl, ◌≢◌, List, [], ◌∷◌, ℕ, ◌<◌, T, eqb, ltb}
use Rattle.std.proofs.Common.{sym, ◌∙◌, ap, subst, arith, eqb→eq, ltb→lt, lit<}
use Rattle.std.proofs.Math.Decide.{dec_lt}
use Rattle.forms.specs.Numbers.{at, total, every}
use Rattle.forms.specs.Polynomials.{Coefficients, convolution, degree, remainder}
use Rattle.forms.specs.Matrices.{diagonal}
use Rattle.forms.specs.Certificate.{Certificate}
use Rattle.forms.specs.Words.{PolynomialDivides, Certified, LaidOut, Similar}
use Rattle.forms.specs.Tests.{every_at}
use Rattle.forms.specs.Bounds.{Short, convolution_short, diagonal_short}
use Rattle.forms.specs.Remainders.{divides_means}
use Rattle.forms.proofs.Uniqueness.{frobenius_unique}
use Rattle.forms.proofs.Similarity.{similar_iff_same_forms}
use Rattle.forms.specs.Starred.{Printed, starred}
use Rattle.forms.proofs.Starred.{starred_as_printed}
use Rattle.forms.specs.ListedErrors.{chainless_D, e_A, entries_product, h_A, i_A, rational_D}

-- what is printed of a matrix holds of every certificate of it
pub printed_of_each : {p n : ℕ} {A D F : List ℕ} {leading : ℕ} → Printed p n A D F leading → (c : Certificate) → LaidOut c → Certified p n A c → (c.DF ≡ D) × (c.FB ≡ F)
printed_of_each {p} {n} {A} row c laid h =
    let same = frobenius_unique p n A c row.certificate laid row.laid h row.certified in (same.0 ∙ row.D_is, same.1 ∙ row.F_is)

pub rational_answer_refuted : (c : Certificate) → LaidOut c → Certified 2 3 e_A c → c.DF ≢ rational_D
unfolding starred
rational_answer_refuted c laid h e =
    let w : ◌≡◌ {A = ℕ} 0 1 = ap (λ (D : List ℕ). at D 5) (sym e ∙ (printed_of_each starred_as_printed.1.1.1.1.0 c laid h).0) in omega arith

abbrev h_D : List ℕ
h_D = 1 ∷ 0 ∷ 0 ∷ 0 ∷ 0 ∷ 1 ∷ 0 ∷ 0 ∷ 0 ∷ 0 ∷ 0 ∷ 0 ∷ 1 ∷ 0 ∷ 0 ∷ 0 ∷ 0 ∷ 1 ∷ 0 ∷ 0 ∷ []

abbrev i_D : List ℕ
i_D = 1 ∷ 0 ∷ 0 ∷ 0 ∷ 0 ∷ 0 ∷ 1 ∷ 0 ∷ 0 ∷ 0 ∷ 0 ∷ 1 ∷ 0 ∷ 0 ∷ 0 ∷ 0 ∷ 0 ∷ 1 ∷ 0 ∷ 0 ∷ []

h_D_is : (c : Certificate) → LaidOut c → Certified 2 4 h_A c → c.DF ≡ h_D
unfolding starred
h_D_is c laid h = (printed_of_each starred_as_printed.1.1.1.1.1.1.1.0 c laid h).0

i_D_is : (c : Certificate) → LaidOut c → Certified 2 4 i_A c → c.DF ≡ i_D
unfolding starred
i_D_is c laid h = (printed_of_each starred_as_printed.1.1.1.1.1.1.1.1.0 c laid h).0

entries_product_short : (s : List ℕ) → Short 20 (entries_product (diagonal 4 s))
unfolding entries_product
entries_product_short s k l = convolution_short 15 5 _ _ (λ k l. convolution_short 10 5 _ _ (λ k l. convolution_short 5 5 _ _ (diagonal_short 4 s 0) (diagonal_short 4 s 1) k (omega arith)) (diagonal_short 4 s 2) k (omega arith)) (diagonal_short 4 s 3) k (omega arith)

coefficients_tested : (m : ℕ) (f g : Coefficients) → Short m f → Short m g → T (every m (λ k. eqb (f k) (g k))) → (k : ℕ) → f k ≡ g k
coefficients_tested m f g a b t k = elim (dec_lt k m) [ yes l ↦ eqb→eq (f k) (g k) (every_at m _ t k l) | no l ↦ a k (omega arith) ∙ sym (b k (omega arith)) ]

-- they share the last polynomial and the product of all
pub h_and_i_share : (c d : Certificate) → LaidOut c → LaidOut d → Certified 2 4 h_A c → Certified 2 4 i_A d → (j : ℕ)
    → (diagonal 4 c.DF 3 j ≡ diagonal 4 d.DF 3 j) × (entries_product (diagonal 4 c.DF) j ≡ entries_product (diagonal 4 d.DF) j)
unfolding every diagonal entries_product convolution total
h_and_i_share c d u v h k j =
    let x = h_D_is c u h in let y = i_D_is d v k in (
      ap (λ (D : List ℕ). diagonal 4 D 3 j) x ∙ coefficients_tested 5 (diagonal 4 h_D 3) (diagonal 4 i_D 3) (diagonal_short 4 h_D 3) (diagonal_short 4 i_D 3) tt j
          ∙ sym (ap (λ (D : List ℕ). diagonal 4 D 3 j) y),
      ap (λ (D : List ℕ). entries_product (diagonal 4 D) j) x
          ∙ coefficients_tested 20 (entries_product (diagonal 4 h_D)) (entries_product (diagonal 4 i_D)) (entries_product_short h_D) (entries_product_short i_D) tt j
          ∙ sym (ap (λ (D : List ℕ). entries_product (diagonal 4 D) j) y),
    )

-- and are not similar
pub told_apart : Similar 2 4 h_A i_A → ⊥
unfolding starred
told_apart s =
    let x = starred_as_printed.1.1.1.1.1.1.1.0 in
    let y = starred_as_printed.1.1.1.1.1.1.1.1.0 in
    let same = (similar_iff_same_forms 2 4 h_A i_A x.certificate y.certificate x.laid y.laid x.certified y.certified).0 s in
    let w : ◌≡◌ {A = ℕ} 0 1 = ap (λ (D : List ℕ). at D 6) (sym x.D_is ∙ same.0 ∙ y.D_is) in
    omega arith

chainless_small : (k : ℕ) → diagonal 3 chainless_D 2 k < 3
unfolding diagonal every
chainless_small k = elim (dec_lt k 4) [
  | yes l ↦ ltb→lt _ _ (every_at 4 (λ k. ltb (diagonal 3 chainless_D 2 k) 3) tt k l)
  | no l ↦ omega (arith, diagonal_short 3 chainless_D 2 k (omega arith))
]

pub chainless_diagonal_refuted : (A : List ℕ) (c : Certificate) → Certified 3 3 A c → c.DF ≢ chainless_D
unfolding diagonal degree remainder every
chainless_diagonal_refuted A c h e =
    let f = diagonal 3 chainless_D in
    (divides_means 3 (lit< tt) 3 (f 1) (f 2) refl (diagonal_short 3 chainless_D 1) chainless_small (diagonal_short 3 chainless_D 2)
    ).1 (subst (λ (D : List ℕ). PolynomialDivides 3 3 (diagonal 3 D 1) (diagonal 3 D 2)) e (h.chain 1 (lit< tt)))
