-- The test that no mark stands for two records.
use Rattle.std.specs.Prelude.{Bool, cond, not, ℕ, eqb}
use Rattle.forms.specs.Certificate.{mark}
use Rattle.forms.specs.Operations.{is_mark}

-- no mark stands for two records
abbrev pub same_mark : ℕ → ℕ → Bool
same_mark i k = cond (is_mark (mark i) k) (eqb i k) (not (eqb i k))
