-- The starred matrices of document 01 as one table: p, n, A, D, F and the lead. That they are as printed is proved in proofs/Starred.
use Rattle.std.specs.Prelude.{◌≡◌, List, [], ◌∷◌, ℕ}
use Rattle.forms.specs.Matrices.{diagonal}
use Rattle.forms.specs.Frobenius.{lead}
use Rattle.forms.specs.Certificate.{Certificate}
use Rattle.forms.specs.Words.{Certified, LaidOut}

-- p, n, A, D (n + 1 coefficients each), F and the lead
pub data Case : Type 0 where
  case : ℕ → ℕ → List ℕ → List ℕ → List ℕ → ℕ → Case

-- D and F of A, and its lead, are as the case says: some certificate of A has them
pub record Printed (p n : ℕ) (A D F : List ℕ) (leading : ℕ) : Type 0 where
  pub certificate : Certificate
  pub laid : LaidOut certificate
  pub certified : Certified p n A certificate
  pub D_is : certificate.DF ≡ D
  pub F_is : certificate.FB ≡ F
  pub lead_is : lead n (diagonal n D) ≡ leading

abbrev pub AsPrinted : Case → Type 0
AsPrinted (case p n A D F leading) = Printed p n A D F leading

unfoldable pub starred : List Case
starred =
    -- a: (1)
    (case 2 1 (1 ∷ []) (1 ∷ 1 ∷ []) (1 ∷ []) 0) ∷
    -- b: (2 1 / 0 3)
    (case 5 2 (2 ∷ 1 ∷ 0 ∷ 3 ∷ []) (1 ∷ 0 ∷ 0 ∷ 1 ∷ 0 ∷ 1 ∷ []) (0 ∷ 4 ∷ 1 ∷ 0 ∷ []) 0) ∷
    -- c: b with states swapped
    (case 5 2 (3 ∷ 0 ∷ 1 ∷ 2 ∷ []) (1 ∷ 0 ∷ 0 ∷ 1 ∷ 0 ∷ 1 ∷ []) (0 ∷ 4 ∷ 1 ∷ 0 ∷ []) 0) ∷
    -- d: document 000's example
    (case 7 3 (4 ∷ 1 ∷ 6 ∷ 0 ∷ 3 ∷ 0 ∷ 6 ∷ 1 ∷ 4 ∷ []) (1 ∷ 0 ∷ 0 ∷ 0 ∷ 1 ∷ 0 ∷ 0 ∷ 0 ∷ 4 ∷ 4 ∷ 3 ∷ 1 ∷ []) (0 ∷ 0 ∷ 3 ∷ 1 ∷ 0 ∷ 3 ∷ 0 ∷ 1 ∷ 4 ∷ []) 0) ∷
    -- e: the same modulo 2
    (case 2 3 (0 ∷ 1 ∷ 1 ∷ 0 ∷ 1 ∷ 0 ∷ 1 ∷ 1 ∷ 0 ∷ []) (1 ∷ 0 ∷ 0 ∷ 0 ∷ 1 ∷ 1 ∷ 0 ∷ 0 ∷ 1 ∷ 0 ∷ 1 ∷ 0 ∷ []) (1 ∷ 0 ∷ 0 ∷ 0 ∷ 0 ∷ 1 ∷ 0 ∷ 1 ∷ 0 ∷ []) 0) ∷
    -- f: the same modulo 5
    (case 5 3 (4 ∷ 1 ∷ 4 ∷ 0 ∷ 3 ∷ 0 ∷ 4 ∷ 1 ∷ 4 ∷ []) (1 ∷ 0 ∷ 0 ∷ 0 ∷ 1 ∷ 0 ∷ 0 ∷ 0 ∷ 0 ∷ 4 ∷ 4 ∷ 1 ∷ []) (0 ∷ 0 ∷ 0 ∷ 1 ∷ 0 ∷ 1 ∷ 0 ∷ 1 ∷ 1 ∷ []) 1) ∷
    -- g: zero
    (case 3 3 (0 ∷ 0 ∷ 0 ∷ 0 ∷ 0 ∷ 0 ∷ 0 ∷ 0 ∷ 0 ∷ []) (0 ∷ 1 ∷ 0 ∷ 0 ∷ 0 ∷ 1 ∷ 0 ∷ 0 ∷ 0 ∷ 1 ∷ 0 ∷ 0 ∷ []) (0 ∷ 0 ∷ 0 ∷ 0 ∷ 0 ∷ 0 ∷ 0 ∷ 0 ∷ 0 ∷ []) 3) ∷
    -- h: two blocks (0 0 / 1 0)
    (case 2 4 (0 ∷ 0 ∷ 0 ∷ 0 ∷ 1 ∷ 0 ∷ 0 ∷ 0 ∷ 0 ∷ 0 ∷ 0 ∷ 0 ∷ 0 ∷ 0 ∷ 1 ∷ 0 ∷ []) (1 ∷ 0 ∷ 0 ∷ 0 ∷ 0 ∷ 1 ∷ 0 ∷ 0 ∷ 0 ∷ 0 ∷ 0 ∷ 0 ∷ 1 ∷ 0 ∷ 0 ∷ 0 ∷ 0 ∷ 1 ∷ 0 ∷ 0 ∷ []) (0 ∷ 0 ∷ 0 ∷ 0 ∷ 1 ∷ 0 ∷ 0 ∷ 0 ∷ 0 ∷ 0 ∷ 0 ∷ 0 ∷ 0 ∷ 0 ∷ 1 ∷ 0 ∷ []) 4) ∷
    -- i: one such block and zeros
    (case 2 4 (0 ∷ 0 ∷ 0 ∷ 0 ∷ 1 ∷ 0 ∷ 0 ∷ 0 ∷ 0 ∷ 0 ∷ 0 ∷ 0 ∷ 0 ∷ 0 ∷ 0 ∷ 0 ∷ []) (1 ∷ 0 ∷ 0 ∷ 0 ∷ 0 ∷ 0 ∷ 1 ∷ 0 ∷ 0 ∷ 0 ∷ 0 ∷ 1 ∷ 0 ∷ 0 ∷ 0 ∷ 0 ∷ 0 ∷ 1 ∷ 0 ∷ 0 ∷ []) (0 ∷ 0 ∷ 0 ∷ 0 ∷ 0 ∷ 0 ∷ 0 ∷ 0 ∷ 0 ∷ 0 ∷ 0 ∷ 0 ∷ 0 ∷ 0 ∷ 1 ∷ 0 ∷ []) 4) ∷
    -- j: diag(1 1 2)
    (case 3 3 (1 ∷ 0 ∷ 0 ∷ 0 ∷ 1 ∷ 0 ∷ 0 ∷ 0 ∷ 2 ∷ []) (1 ∷ 0 ∷ 0 ∷ 0 ∷ 2 ∷ 1 ∷ 0 ∷ 0 ∷ 2 ∷ 0 ∷ 1 ∷ 0 ∷ []) (1 ∷ 0 ∷ 0 ∷ 0 ∷ 0 ∷ 1 ∷ 0 ∷ 1 ∷ 0 ∷ []) 0) ∷
    -- k: diag(1 2 2)
    (case 3 3 (1 ∷ 0 ∷ 0 ∷ 0 ∷ 2 ∷ 0 ∷ 0 ∷ 0 ∷ 2 ∷ []) (1 ∷ 0 ∷ 0 ∷ 0 ∷ 1 ∷ 1 ∷ 0 ∷ 0 ∷ 2 ∷ 0 ∷ 1 ∷ 0 ∷ []) (2 ∷ 0 ∷ 0 ∷ 0 ∷ 0 ∷ 1 ∷ 0 ∷ 1 ∷ 0 ∷ []) 0) ∷
    []
