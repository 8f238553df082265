-- Entries of the Frobenius form are residues.
use Rattle.std.specs.Prelude.{Bool, true, false, cond, ◌&&◌, ℕ, zero, suc, ◌-◌, ◌%◌, ◌<◌, eqb, ltb, leb}
use Rattle.std.proofs.Common.{mod-lt, arith}
use Rattle.forms.specs.Polynomials.{Coefficients, degree}
use Rattle.forms.specs.Matrices.{unit}
use Rattle.forms.specs.Frobenius.{companion, blocks, frobenius}

blocks_small : (p n : ℕ) (f : ℕ → Coefficients) → 1 < p → (r b i j : ℕ) → blocks p n f r b i j < p
unfolding blocks companion unit
blocks_small p n f l zero b i j = omega arith
blocks_small p n f l (suc r) b i j = at_tests (ltb i m && ltb j m) (leb m i && leb m j) (eqb (suc j) m) (eqb i (suc j)) (blocks_small p n f l r (suc b) (i - m) (j - m))
  where
    m : ℕ
    m = degree n (f b)

    rest : ℕ
    rest = blocks p n f r (suc b) (i - m) (j - m)

    at_tests : (x y u v : Bool) → rest < p → cond x (cond u ((p - f b i) % p) (cond v 1 0)) (cond y rest 0) < p
    at_tests true y true v h = mod-lt _ (omega arith)
    at_tests true y false true h = l
    at_tests true y false false h = omega arith
    at_tests false true u v h = h
    at_tests false false u v h = omega arith

pub frobenius_small : (p n : ℕ) (f : ℕ → Coefficients) → 1 < p → (i j : ℕ) → frobenius p n f i j < p
unfolding frobenius
frobenius_small p n f l i j = blocks_small p n f l n 0 i j
