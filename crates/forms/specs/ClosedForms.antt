-- P, Q and their inverses in closed form, from D, T and T's inverse: no product of polynomials is computed. Row i of the Frobenius form
-- belongs to row or column `to i` of D; each form is given there by i, with its coefficients reduced modulo p.
use Rattle.std.specs.Prelude.{cond, ℕ, suc, ◌+◌, ◌*◌, ◌-◌, ◌%◌, eqb, leb}
use Rattle.forms.specs.Numbers.{total}
use Rattle.forms.specs.Polynomials.{Coefficients}
use Rattle.forms.specs.Matrices.{Entries, PolynomialEntries}
use Rattle.forms.specs.BlockIndices.{degrees, block, last, position, is_head}
use Rattle.forms.specs.BlockPermutation.{from}

abbrev pub opposite : ℕ → ℕ → ℕ
opposite p x = (p - x) % p

-- a row of P: coefficient k is row i + k of T's inverse, as long as that is in the block
unfoldable pub P_row : ℕ → (ℕ → Coefficients) → Entries → ℕ → ℕ → Coefficients
P_row n f TI i c k = let m = degrees n f in cond (leb (i + k) (last m n i)) (TI (i + k) c) 0

-- a column of P's inverse: column i of T, less X times the column before; at a head column i alone
unfoldable pub PI_column : ℕ → ℕ → (ℕ → Coefficients) → Entries → ℕ → ℕ → Coefficients
PI_column p n f T r i k =
    let m = degrees n f in
    cond (eqb k 0) (T r i) (cond (eqb k 1) (cond (is_head m n i) 0 (opposite p (T r (i - 1)))) 0)

-- a column of Q: minus the column before in T; at a head coefficient k is a sum over the block
unfoldable pub Q_column : ℕ → ℕ → (ℕ → Coefficients) → Entries → ℕ → ℕ → Coefficients
Q_column p n f T r i k =
    let m = degrees n f in let b = block m n i in
    let at_head = total (m b) (λ s. T r (i + s) * f b (suc s + k)) % p in
    cond (is_head m n i) at_head (cond (eqb k 0) (opposite p (T r (i - 1))) 0)

-- a row of Q's inverse, from the rows of T's inverse: the last of the block times f from the position of i on, less the row before;
-- at a head the last of the block alone
unfoldable pub QI_row : ℕ → ℕ → (ℕ → Coefficients) → Entries → ℕ → ℕ → Coefficients
QI_row p n f TI i c k =
    let m = degrees n f in let end = TI (last m n i) c in
    let other = (f (block m n i) (position m n i + k) * end + cond (eqb k 0) (p - TI (i - 1) c) 0) % p in
    cond (is_head m n i) (cond (eqb k 0) end 0) other

-- each in the order of D
unfoldable pub closed_P : ℕ → (ℕ → Coefficients) → Entries → PolynomialEntries
closed_P n f TI r c = P_row n f TI (from (degrees n f) n r) c

unfoldable pub closed_PI : ℕ → ℕ → (ℕ → Coefficients) → Entries → PolynomialEntries
closed_PI p n f T r c = PI_column p n f T r (from (degrees n f) n c)

unfoldable pub closed_Q : ℕ → ℕ → (ℕ → Coefficients) → Entries → PolynomialEntries
closed_Q p n f T r c = Q_column p n f T r (from (degrees n f) n c)

unfoldable pub closed_QI : ℕ → ℕ → (ℕ → Coefficients) → Entries → PolynomialEntries
closed_QI p n f TI r c = QI_row p n f TI (from (degrees n f) n r) c
