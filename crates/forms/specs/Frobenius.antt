-- The Frobenius form, built from D: the companion blocks of f1 .. fn one after the other, and none for degree 0.
use Rattle.std.specs.Prelude.{cond, ◌&&◌, ℕ, zero, suc, ◌-◌, ◌%◌, eqb, ltb, leb}
use Rattle.forms.specs.Numbers.{total}
use Rattle.forms.specs.Polynomials.{Coefficients, degree, exponent}
use Rattle.forms.specs.Matrices.{Entries, unit}

-- of f, monic of degree m: ones just below the diagonal, and the last column -a0, .., -a(m-1)
unfoldable pub companion : ℕ → ℕ → Coefficients → Entries
companion p m f i j = cond (eqb (suc j) m) ((p - f i) % p) (unit i (suc j))

-- the blocks of f b, f (b+1), .., r of them
unfoldable pub blocks : ℕ → ℕ → (ℕ → Coefficients) → ℕ → ℕ → Entries
blocks p n f zero b i j = 0
blocks p n f (suc r) b i j =
    let m = degree n (f b) in
    let rest = blocks p n f r (suc b) (i - m) (j - m) in
    cond (ltb i m && ltb j m) (companion p m (f b) i j) (cond (leb m i && leb m j) rest 0)

unfoldable pub frobenius : ℕ → ℕ → (ℕ → Coefficients) → Entries
frobenius p n f = blocks p n f n 0

-- how many steps pass before every state is in its cycle: the exponent of X in f1 .. fn
unfoldable pub lead : ℕ → (ℕ → Coefficients) → ℕ
lead n f = total n (λ i. exponent (suc n) (f i))
