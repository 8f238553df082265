-- The output of an analysis that has written, and the records that the matrix determines.
use Rattle.std.specs.Prelude.{◌≡◌, List, ◌++◌, ℕ, drop}
use Rattle.forms.specs.Certificate.{Certificate, layout, certificate_length}
use Rattle.forms.specs.Words.{LaidOut}

-- on success: an output that is the layout of the certificate c, with the old bytes behind it
pub record Output (n : ℕ) (before after : List ℕ) (c : Certificate) : Type 0 where
  pub laid : LaidOut c
  pub order : c.n ≡ n
  pub bytes : after ≡ layout c ++ drop (certificate_length n) before

-- the records that A determines: HD, MA, DF and FB
pub data Fixed : ℕ → Type 0 where
  HD_fixed : Fixed 0
  MA_fixed : Fixed 1
  DF_fixed : Fixed 2
  FB_fixed : Fixed 7
