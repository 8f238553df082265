-- What a certificate that is laid out has of residues.
use Rattle.std.specs.Prelude.{ℕ, suc, ◌*◌, ◌≤◌}
use Rattle.algebra.specs.Modular.{Prime}
use Rattle.forms.specs.Certificate.{Certificate}
use Rattle.forms.specs.Words.{Residues}

-- what a certificate of order n modulo p that is laid out has of residues
pub record Laid (p n : ℕ) (c : Certificate) : Type 0 where
  pub prime : Prime p
  pub low : 1 ≤ n
  pub A : Residues p (n * n) c.MA
  pub D : Residues p (n * suc n) c.DF
  pub F : Residues p (n * n) c.FB
