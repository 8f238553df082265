-- Demand 3: matrices are similar exactly when their certificates have the same D and F. So a renaming of the states leaves both.
use Rattle.std.specs.Prelude.{◌≡◌, ◌↔◌, List, ℕ, ◌*◌}
use Rattle.std.proofs.Common.{sym, ◌∙◌, subst, subst₂, arith}
use Rattle.std.proofs.Math.Path.{ap}
use Rattle.algebra.specs.Ring.{Ring}
use Rattle.algebra.specs.Matrix.{Matrix, Within, matrix_equal, product_within}
use Rattle.algebra.specs.Inverse.{Basis, inverse_symmetric}
use Rattle.algebra.specs.Similarity.{basis_back, basis_compose}
use Rattle.algebra.specs.Shapes.{Permutes, permutation, permutation_within, permutation_inverse, product_permutation, permutation_product}
use Rattle.algebra.specs.Smith.{smith_similar}
use Rattle.algebra.specs.Polynomial.{Polynomial, polynomials}
use Rattle.algebra.specs.Characteristic.{scalars, scalars_inverse, characteristic_within, characteristic_similar}
use Rattle.algebra.specs.Modular.{Residue, residue, residue_of_value, modulo, Prime, positive}
use Rattle.forms.specs.Matrices.{matrix}
use Rattle.forms.specs.Certificate.{Certificate}
use Rattle.forms.specs.Words.{Certified, Residues, LaidOut, Similar}
use Rattle.forms.specs.Rings.{field, field_within, field_inside, field_of_product, equal_of_field}
use Rattle.forms.specs.Inverses.{field_basis, inverse_field}
use Rattle.forms.specs.Listed.{matrix_listed, matrix_of_listed, matrix_listed_residues}
use Rattle.forms.specs.Uniqueness.{Laid}
use Rattle.forms.proofs.Uniqueness.{laid_at, XE_minus, entry, certified_smith, forms_equal}
use Rattle.forms.specs.Similarity.{Renamed}

module _ (p : ℕ) (prime : Prime p) (n : ℕ) where
  abbrev K : Ring (Residue p)
  K = modulo p

  abbrev L : Ring (Polynomial K)
  L = polynomials K

  abbrev over : List ℕ → Matrix K
  over s = field p n (matrix n s)

  -- a matrix over F_p as a payload
  values : Matrix K → List ℕ
  values M = matrix_listed n (λ i j. (M i j).0)

  values_residues : (M : Matrix K) → Residues p (n * n) (values M)
  unfolding values
  values_residues M = matrix_listed_residues p n _ (positive p prime) (λ i j. omega (arith, (M i j).1, positive p prime))

  values_over : (M : Matrix K) → Within K n M → over (values M) ≡ M
  unfolding values
  values_over M w = matrix_equal K n _ M (field_within p n _) w (λ i j l g. field_inside p n _ i j l g ∙ ap (residue p) (matrix_of_listed n _ i j l g) ∙ residue_of_value p (M i j))

  pub similar_basis : (A B : List ℕ) (s : Similar p n A B) → Basis K n (over A) (over B) (over s.C) (over s.CI)
  similar_basis A B s = field_basis p prime n (matrix n A) (matrix n B) (matrix n s.C) (matrix n s.CI) s.C_CI s.A_C

  pub basis_similar : (A B : List ℕ) (T I : Matrix K) → Basis K n (over A) (over B) T I → Similar p n A B
  basis_similar A B T I s =
      let listed : Basis K n (over A) (over B) (over (values T)) (over (values I)) =
      subst₂ (Basis K n (over A) (over B)) (sym (values_over T s.inverse.within)) (sym (values_over I s.inverse.inverse_within)) s in
      record {
        C = values T;
        CI = values I;
        C_residues = values_residues T;
        CI_residues = values_residues I;
        C_CI = inverse_field p prime n _ _ listed.inverse;
        CI_C = inverse_field p prime n _ _ (inverse_symmetric K n _ _ listed.inverse);
        A_C = equal_of_field p n _ _ (positive p prime) (field_of_product p n _ _ ∙ listed.moves ∙ sym (field_of_product p n _ _));
      }

  pub certified_basis : (A : List ℕ) (c : Certificate) → Certified p n A c → Basis K n (over A) (over c.FB) (over c.TB) (over c.TI)
  certified_basis A c h = field_basis p prime n (matrix n A) (matrix n c.FB) (matrix n c.TB) (matrix n c.TI) h.T_TI h.A_T

  module _ (A B : List ℕ) (c d : Certificate) (h : Certified p n A c) (k : Certified p n B d) where
    similar_same : Laid p n c → Laid p n d → Similar p n A B → (c.DF ≡ d.DF) × (c.FB ≡ d.FB)
    similar_same u v s =
        let S = similar_basis A B s in
        forms_equal p prime n A B c d u v h k (certified_smith p prime n A c h (subst (Residues p (n * n)) h.given.2 u.A))
        (smith_similar L n (XE_minus p prime n A) (XE_minus p prime n B) (scalars K (over s.C)) (scalars K (over s.CI)) (entry p prime n d.DF)
        (characteristic_within K n (over A) (field_within p n _)) (characteristic_within K n (over B) (field_within p n _))
        (scalars_inverse K n _ _ S.inverse) (characteristic_similar K n (over A) (over B) (over s.C) (field_within p n _) S.moves)
        (certified_smith p prime n B d k (subst (Residues p (n * n)) k.given.2 v.A)))

    -- with C = T_A T_B⁻¹
    same_similar : c.FB ≡ d.FB → Similar p n A B
    same_similar e = basis_similar A B _ _ (basis_compose K n (over A) (over c.FB) (over B) _ _ _ _ (certified_basis A c h)
        (basis_back K n (over B) (over c.FB) _ _ (field_within p n _) (subst (λ (F : List ℕ). Basis K n (over B) (over F) (over d.TB) (over d.TI)) (sym e) (certified_basis B d k))))

pub similar_iff_same_forms : (p n : ℕ) (A B : List ℕ) (c d : Certificate) → LaidOut c → LaidOut d → Certified p n A c → Certified p n B d
    → Similar p n A B ↔ ((c.DF ≡ d.DF) × (c.FB ≡ d.FB))
similar_iff_same_forms p n A B c d u v h k =
    let x = laid_at p n c u h.given.0 h.given.1 in
    let y = laid_at p n d v k.given.0 k.given.1 in
    (similar_same p x.prime n A B c d h k x y, (λ e. same_similar p x.prime n A B c d h k e.1))

pub renamed_similar : (p : ℕ) → Prime p → (n : ℕ) (σ τ : ℕ → ℕ) → Permutes n σ τ → (A B : List ℕ) → Renamed n σ A B → Similar p n A B
renamed_similar p prime n σ τ S A B e = basis_similar p prime n A B (permutation (modulo p) n σ) (permutation (modulo p) n τ) (record {
  within = field_within p n _;
  inverse = permutation_inverse (modulo p) n σ τ S;
  moves = matrix_equal (modulo p) n _ _ (product_within (modulo p) n _ _ (field_within p n _) (permutation_within (modulo p) n σ)) (product_within (modulo p) n _ _ (permutation_within (modulo p) n σ) (field_within p n _)) (λ i j l g.
      product_permutation (modulo p) n σ τ S _ i j g ∙ field_inside p n _ i (σ j) l (S.below j g)
      ∙ ap (residue p) (ap (λ (x : ℕ). matrix n A x (σ j)) (sym (S.forth i l)) ∙ sym (e (τ i) j (S.back_below i l) g))
      ∙ sym (permutation_product (modulo p) n σ τ S _ i j l ∙ field_inside p n _ (τ i) j (S.back_below i l) g));
})

-- σ a permutation of the states, with τ back
pub renaming : (p n : ℕ) (σ τ : ℕ → ℕ) → Permutes n σ τ → (A B : List ℕ) → Renamed n σ A B → (c d : Certificate) → LaidOut c → LaidOut d → Certified p n A c → Certified p n B d
    → (c.DF ≡ d.DF) × (c.FB ≡ d.FB)
renaming p n σ τ S A B e c d u v h k = (similar_iff_same_forms p n A B c d u v h k).0
    (renamed_similar p (laid_at p n c u h.given.0 h.given.1).prime n σ τ S A B e)
