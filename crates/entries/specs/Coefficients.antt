-- The coefficients of D, P, Q and their inverses as the code computes them, from F, T and the inverse of T: row i of F ends its block at row
-- `end`; `from` has the row of F for each row of D, and `last` the end of each row's block.
use Rattle.std.specs.Prelude.{cond, List, ℕ, ◌+◌, ◌*◌, ◌-◌, ◌%◌, ◌≤◌, ◌<◌, eqb, leb, replicate}
use Rattle.forms.specs.Numbers.{at, total, order_limit}
use Rattle.forms.specs.Polynomials.{Coefficients}
use Rattle.forms.specs.ClosedForms.{opposite}
use Rattle.matrices.specs.Matrices.{cell}
use Rattle.basis.specs.State.{Array}
use Rattle.basis.specs.declared.steps.State.{State}
use Rattle.heads.specs.Heads.{begins}
use Rattle.entries.specs.declared.closed.Factor.{Factor}
use Rattle.entries.specs.declared.closed.Factor.TheVariants.{P, PInverse, Q, QInverse}

-- every entry is a residue
pub record Small (p : ℕ) (m : Array) : Type 0 where
  pub entry : (i j : ℕ) → cell m i j < p

pub record SmallState (p : ℕ) (s : State) : Type 0 where
  pub F : Small p s.b
  pub T : Small p s.t
  pub TI : Small p s.back

-- the rows of F for the rows of D are below n, and each is in a block that ends below n
pub record Tables (n : ℕ) (from last : List ℕ) : Type 0 where
  pub row : (b : ℕ) → at from b < n
  pub inside : (b : ℕ) → at from b ≤ at last (at from b)
  pub end : (b : ℕ) → at last (at from b) < n

-- the polynomial of a block, with its constant term at j = the block's first row
unfoldable pub block_coefficient : ℕ → Array → ℕ → ℕ → ℕ
block_coefficient p F end j = cond (leb j end) (opposite p (cell F j end)) (cond (eqb j (end + 1)) 1 0)

unfoldable pub D_coefficient : ℕ → Array → ℕ → ℕ → ℕ → ℕ
D_coefficient p F i end k = cond (begins F i) (block_coefficient p F end (i + k)) (cond (eqb k 0) 1 0)

-- entry b of D
unfoldable pub D_entry : ℕ → Array → List ℕ → List ℕ → ℕ → Coefficients
D_entry p F from last b = let i = at from b in D_coefficient p F i (at last i)

abbrev pub zero_entry : List ℕ
zero_entry = replicate (order_limit + 1) 0

unfoldable pub P_coefficient : Array → ℕ → ℕ → ℕ → ℕ → ℕ
P_coefficient TI end i c k = cond (leb (i + k) end) (cell TI (i + k) c) 0

unfoldable pub PI_coefficient : ℕ → Array → Array → ℕ → ℕ → ℕ → ℕ
PI_coefficient p F T r i k = cond (eqb k 0) (cell T r i) (cond (eqb k 1) (cond (begins F i) 0 (opposite p (cell T r (i - 1)))) 0)

unfoldable pub head_sum : ℕ → Array → Array → ℕ → ℕ → ℕ → ℕ → ℕ
head_sum p F T end r i k = total (end + 1 - i) (λ s. cell T r (i + s) * block_coefficient p F end (i + s + 1 + k)) % p

unfoldable pub Q_coefficient : ℕ → Array → Array → ℕ → ℕ → ℕ → ℕ → ℕ
Q_coefficient p F T end r i k = cond (begins F i) (head_sum p F T end r i k) (cond (eqb k 0) (opposite p (cell T r (i - 1))) 0)

unfoldable pub QI_coefficient : ℕ → Array → Array → ℕ → ℕ → ℕ → ℕ → ℕ
QI_coefficient p F TI end i c k =
    let last = cell TI end c in
    cond (begins F i) (cond (eqb k 0) last 0) ((cond (eqb k 0) (p - cell TI (i - 1) c) 0 + block_coefficient p F end (i + k) * last) % p)

-- coefficient k of the entry (r, c) of P, Q or an inverse; row i of F belongs to row r of P and of the inverse of Q, and to column c of the
-- other two
unfoldable pub closed_coefficient : ℕ → State → ℕ → ℕ → Factor → ℕ → ℕ → ℕ → ℕ
closed_coefficient p s i end P r c k = P_coefficient s.back end i c k
closed_coefficient p s i end PInverse r c k = PI_coefficient p s.b s.t r i k
closed_coefficient p s i end Q r c k = Q_coefficient p s.b s.t end r i k
closed_coefficient p s i end QInverse r c k = QI_coefficient p s.b s.back end i c k

abbrev pub side : Factor → ℕ → ℕ → ℕ
side P r c = r
side PInverse r c = c
side Q r c = c
side QInverse r c = r

unfoldable pub closed_entry : ℕ → State → List ℕ → List ℕ → Factor → ℕ → ℕ → Coefficients
closed_entry p s from last factor r c = let i = at from (side factor r c) in closed_coefficient p s i (at last i) factor r c
