-- D, F and T, as an analysis delivers them, and the certificate that they make with the closed forms for P, Q and their inverses.
use Rattle.std.specs.Prelude.{◌≡◌, List, ℕ, suc, ◌*◌, ◌<◌}
use Rattle.forms.specs.Numbers.{total}
use Rattle.forms.specs.Polynomials.{degree}
use Rattle.forms.specs.Matrices.{matrix, diagonal, unit, field_product}
use Rattle.forms.specs.Frobenius.{frobenius}
use Rattle.forms.specs.Certificate.{Certificate}
use Rattle.forms.specs.Words.{FieldEqual, PolynomialDivides, Residues}
use Rattle.forms.specs.LegalRequests.{Legal}
use Rattle.forms.specs.Listed.{polynomials_listed}
use Rattle.forms.specs.ClosedForms.{closed_P, closed_PI, closed_Q, closed_QI}

-- the payloads DF, FB, TB and TI of A: D monic, a chain, its degrees adding up to n, F built from D, T with its inverse, A T = T F
pub record Decomposes (p n : ℕ) (A DF FB TB TI : List ℕ) : Type 0 where
  pub legal : Legal p n A
  pub DF_residues : Residues p (n * suc n) DF
  pub FB_residues : Residues p (n * n) FB
  pub TB_residues : Residues p (n * n) TB
  pub TI_residues : Residues p (n * n) TI
  pub monic : (i : ℕ) → i < n → diagonal n DF i (degree n (diagonal n DF i)) ≡ 1
  pub chain : (i : ℕ) → suc i < n → PolynomialDivides p n (diagonal n DF i) (diagonal n DF (suc i))
  pub degrees : total n (λ i. degree n (diagonal n DF i)) ≡ n
  pub built : (i j : ℕ) → i < n → j < n → matrix n FB i j ≡ frobenius p n (diagonal n DF) i j
  pub T_TI : FieldEqual p n (field_product n (matrix n TB) (matrix n TI)) unit
  pub A_T : FieldEqual p n (field_product n (matrix n A) (matrix n TB)) (field_product n (matrix n TB) (matrix n FB))

unfoldable pub closed_certificate : ℕ → ℕ → List ℕ → List ℕ → List ℕ → List ℕ → List ℕ → Certificate
closed_certificate p n A DF FB TB TI = record {
  p = p;
  n = n;
  MA = A;
  DF = DF;
  PL = polynomials_listed n (closed_P n (diagonal n DF) (matrix n TI));
  PI = polynomials_listed n (closed_PI p n (diagonal n DF) (matrix n TB));
  QR = polynomials_listed n (closed_Q p n (diagonal n DF) (matrix n TB));
  QI = polynomials_listed n (closed_QI p n (diagonal n DF) (matrix n TI));
  FB = FB;
  TB = TB;
  TI = TI;
}
