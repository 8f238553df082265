-- The bytes of a certificate of its matrix.
use Rattle.std.specs.Prelude.{◌≡◌, List, ℕ}
use Rattle.forms.specs.Certificate.{Certificate, layout}
use Rattle.forms.specs.Words.{Certified, LaidOut}

-- s is the layout of c, and c is a certificate of its matrix
pub record CertificateBytes (s : List ℕ) (c : Certificate) : Type 0 where
  pub laid : LaidOut c
  pub certified : Certified c.p c.n c.MA c
  pub bytes : s ≡ layout c
