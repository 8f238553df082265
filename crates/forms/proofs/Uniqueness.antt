-- Two certificates of one matrix have the same D and F, byte by byte: the Smith form of XE-A with monic entries is unique, and F is
-- built from it.
use Rattle.std.specs.Prelude.{◌≡◌, List, ℕ, suc, ◌*◌, ◌<◌}
use Rattle.std.proofs.Common.{sym, ◌∙◌, ap, subst, subst₂}
use Rattle.algebra.specs.Ring.{Ring}
use Rattle.algebra.specs.Divides.{divides_chain}
use Rattle.algebra.specs.Matrix.{Matrix, product_associative}
use Rattle.algebra.specs.Smith.{SmithForm}
use Rattle.algebra.specs.SmithUnique.{smith_unique}
use Rattle.algebra.specs.Polynomial.{Polynomial, polynomials, Monic}
use Rattle.algebra.specs.Characteristic.{characteristic, characteristic_within}
use Rattle.algebra.specs.Modular.{Residue, residue_injective, modulo, Prime, positive}
use Rattle.algebra.specs.PrimeField.{prime_field}
use Rattle.forms.specs.Matrices.{matrix, polynomial_matrix, diagonal}
use Rattle.forms.specs.Frobenius.{frobenius}
use Rattle.forms.specs.Certificate.{Certificate}
use Rattle.forms.specs.Words.{Certified, Residues, LaidOut}
use Rattle.forms.proofs.Payloads.{MA_residues, DF_residues, FB_residues}
use Rattle.forms.specs.Primes.{prime_means}
use Rattle.forms.specs.Bounds.{polynomial_matrix_short, diagonal_short, matrix_small, diagonal_small}
use Rattle.forms.specs.Rings.{field, field_within, polynomial, polynomial_coefficient, Over, lift, lift_over, product_over, over_equal, diagonal_over}
use Rattle.forms.proofs.Rings.{characteristic_over}
use Rattle.forms.specs.Remainders.{Reduces, reduces_monic, divides_over}
use Rattle.forms.specs.Inverses.{polynomial_inverse}
use Rattle.forms.specs.Listed.{matrix_determines, diagonal_determines}
use Rattle.forms.specs.Uniqueness.{Laid}

pub laid_at : (p n : ℕ) (c : Certificate) → LaidOut c → c.p ≡ p → c.n ≡ n → Laid p n c
laid_at p n c h e g = subst₂ (λ (p n : ℕ). Laid p n c) e g (record {
  prime = prime_means c.p h.prime_p;
  low = h.low;
  A = MA_residues c h;
  D = DF_residues c h;
  F = FB_residues c h;
})

module _ (p : ℕ) (prime : Prime p) (n : ℕ) where
  abbrev K : Ring (Residue p)
  K = modulo p

  abbrev L : Ring (Polynomial K)
  L = polynomials K

  -- XE-A over F_p[X]
  abbrev pub XE_minus : List ℕ → Matrix L
  XE_minus A = characteristic K n (field p n (matrix n A))

  -- f_i over F_p
  pub entry : List ℕ → ℕ → Polynomial K
  entry s i = polynomial p (suc n) (diagonal n s i) (diagonal_short n s i)

  entry_is : (s : List ℕ) (i : ℕ) → Reduces p (positive p prime) (diagonal n s i) (entry s i)
  unfolding entry
  entry_is s i = polynomial_coefficient p (suc n) (diagonal n s i) (diagonal_short n s i)

  abbrev entries : List ℕ → Matrix L
  entries s = lift p n n (polynomial_matrix n s) (polynomial_matrix_short n s)

  entries_over : (s : List ℕ) → Over p n (entries s) (polynomial_matrix n s)
  entries_over s = lift_over p n n (polynomial_matrix n s) (polynomial_matrix_short n s)

  module _ (A : List ℕ) (c : Certificate) (h : Certified p n A c) where
    pub certified_monic : (i : ℕ) → i < n → Monic K (h.degree i) (entry c.DF i).0
    certified_monic i l = reduces_monic p (positive p prime) (h.degree i) (diagonal n c.DF i) (entry c.DF i) (entry_is c.DF i) (h.monic i l) (λ k. h.above i k l)

    pub certified_smith : Residues p (n * n) A → SmithForm L n (XE_minus A) (entry c.DF)
    certified_smith r = record {
      P = entries c.PL;
      PI = entries c.PI;
      Q = entries c.QR;
      QI = entries c.QI;
      P_inverse = polynomial_inverse p prime n _ _ _ _ (entries_over c.PL) (entries_over c.PI) h.P_PI;
      Q_inverse = polynomial_inverse p prime n _ _ _ _ (entries_over c.QR) (entries_over c.QI) h.Q_QI;
      is = sym (product_associative L n _ _ _) ∙ over_equal p n _ _ _ _ (positive p prime)
          (product_over p n _ _ _ _ (product_over p n _ _ _ _ (entries_over c.PL) (characteristic_over p n (matrix n A) (λ i j l g. matrix_small p n A r i j))) (entries_over c.QR))
          (diagonal_over p n (entry c.DF) (diagonal n c.DF) (λ i k l. entry_is c.DF i k)) h.smith;
      chain = divides_chain L (entry c.DF) n (λ i l. divides_over p (positive p prime) n _ _ _ _ (entry_is c.DF i) (entry_is c.DF (suc i)) (h.chain i l));
    }

  -- certificates whose D are Smith forms of one matrix
  pub forms_equal : (A B : List ℕ) (c d : Certificate) → Laid p n c → Laid p n d → Certified p n A c → Certified p n B d
      → SmithForm L n (XE_minus A) (entry c.DF) → SmithForm L n (XE_minus A) (entry d.DF) → (c.DF ≡ d.DF) × (c.FB ≡ d.FB)
  forms_equal A B c d u v h k s t =
      let same = smith_unique K (prime_field p prime) n (XE_minus A) (entry c.DF) (entry d.DF) h.degree k.degree
      (characteristic_within K n _ (field_within p n (matrix n A))) s t (certified_monic A c h) (certified_monic B d k) in
      let e : c.DF ≡ d.DF = diagonal_determines p n c.DF d.DF u.D v.D (λ i x l g.
      residue_injective p _ _ (diagonal_small p n c.DF (positive p prime) u.D i x) (diagonal_small p n d.DF (positive p prime) v.D i x)
      (sym (entry_is c.DF i x) ∙ ap (λ (f : Polynomial K). f.0 x) (same i l) ∙ entry_is d.DF i x)) in (
        e,
        matrix_determines p n c.FB d.FB u.low u.F v.F (λ i j l g.
            h.built i j l g ∙ ap (λ (D : List ℕ). frobenius p n (diagonal n D) i j) e ∙ sym (k.built i j l g)),
      )

pub frobenius_unique : (p n : ℕ) (A : List ℕ) (c d : Certificate) → LaidOut c → LaidOut d → Certified p n A c → Certified p n A d → (c.DF ≡ d.DF) × (c.FB ≡ d.FB)
frobenius_unique p n A c d u v h k =
    let x = laid_at p n c u h.given.0 h.given.1 in
    let y = laid_at p n d v k.given.0 k.given.1 in
    let r : Residues p (n * n) A = subst (Residues p (n * n)) h.given.2 x.A in
    forms_equal p x.prime n A A c d x y h k (certified_smith p x.prime n A c h r) (certified_smith p x.prime n A d k r)
