-- The diagonal of D that belongs to a Frobenius form: from the companion blocks along the diagonal of F, each polynomial dividing the next,
-- with ones in front so that there are n polynomials.
use Rattle.std.specs.Prelude.{◌≡◌, refl, cond, eqb, length}
use Rattle.std.proofs.Math.Path.{sym, ap, ap₂}
use Rattle.std.proofs.Common.{◌∙◌, add-zero, zero-add, add-suc, suc-add, mod-lt, mod-eq_of_lt}
use mathlib.Core.List.{List, [], ◌∷◌}
use Prim.Native.Nat.{ℕ, suc, ◌+◌, ◌-◌, ◌%◌, ◌≤◌, ◌<◌}
use Rattle.std.proofs.Math.Decide.{ℕ_discrete, dec_lt}
use native.Mathlib.Omega.{arith}
use Rattle.std.proofs.Math.Dec.{eqb→eq}
use Rattle.algebra.specs.Ring.{Ring}
use Rattle.algebra.specs.Sum.{delta, delta_same, delta_other}
use Rattle.algebra.specs.Matrix.{Matrix}
use Rattle.algebra.specs.Polynomial.{Polynomial, polynomials, Monic, zero_coefficient}
use Rattle.algebra.specs.Modular.{Residue, residue, residue_value, residue_injective, residue_of_value, residue_remainder, residue_zero, residue_one, residue_minus, modulo, Prime, positive}
use Rattle.forms.specs.Numbers.{total}
use Rattle.forms.specs.Tests.{total_equal, equal_holds, cond_holds, cond_fails}
use Rattle.forms.specs.Polynomials.{Coefficients, degree}
use Rattle.forms.specs.Matrices.{unit}
use Rattle.forms.specs.Frobenius.{companion, blocks, frobenius}
use Rattle.forms.specs.Words.{PolynomialDivides}
use Rattle.forms.specs.Bounds.{Short, degree_is}
use Rattle.forms.specs.Remainders.{zero_value, numbers_divide}
use Rattle.forms.specs.BlockIndices.{degrees}
use Rattle.forms.specs.SmithDiagonals.{SmithDiagonal, chain_diagonal}
use Rattle.forms.proofs.FrobeniusEntries.{blocks_first, blocks_behind, blocks_above, blocks_below}
use Rattle.matrices.specs.Matrices.{cell, matrix, matrix_inside, FieldMatrix}
use Rattle.elimination.specs.Form.{Block, CompanionAt, Form}
use Rattle.basis.specs.State.{Array}
use Rattle.payloads.specs.Along.{entry, with_ones, with_ones_length, Along, along_form, along_ones, form_length, along_fits, entry_monic, entry_divides, entry_beyond, degrees_total, along_above}

-- f 0 .. f (n-1) are the diagonal of a D whose Frobenius form is m
pub record DiagonalOf (p n : ℕ) (m : Array) (f : ℕ → Coefficients) : Type 0 where
  pub smith : SmithDiagonal p n f
  pub chain : (i : ℕ) → suc i < n → PolynomialDivides p n (f i) (f (suc i))
  pub built : (i j : ℕ) → i < n → j < n → cell m i j ≡ frobenius p n f i j
  pub beyond : (b k : ℕ) → n ≤ b → f b k ≡ 0

module _ (p : ℕ) (prime : Prime p) where
  abbrev K : Ring (Residue p)
  K = modulo p

  abbrev L : Ring (Polynomial K)
  L = polynomials K

  one_value : (a : Residue p) → a ≡ K.one → a.0 ≡ 1
  one_value a e = ap (λ (x : Residue p). x.0) (e ∙ sym (residue_one p)) ∙ residue_value p 1 (positive p prime) ∙ mod-eq_of_lt prime.large

  value_small : (a : Residue p) → a.0 < p
  value_small a = let h = a.1 in let q = positive p prime in omega arith

  coefficients : Block K → Coefficients
  coefficients c k = (c.polynomial.0 k).0

  module _ (n : ℕ) (low : 0 < n) (m : Array) (field : FieldMatrix p n m) where
    abbrev B : Matrix K
    B = matrix p n m

    -- an entry K of m is the number that its residue says
    cell_is : (i j x : ℕ) → i < n → j < n → x < p → B i j ≡ residue p x → cell m i j ≡ x
    cell_is i j x l g h e = residue_injective p (cell m i j) x (field.small i j l g) h (sym (matrix_inside p n m i j l g) ∙ e)

    cell_zero : (i j : ℕ) → i < n → j < n → B i j ≡ K.zero → cell m i j ≡ 0
    cell_zero i j l g e = cell_is i j 0 l g (positive p prime) (e ∙ sym (residue_zero p))

    cell_minus : (i j : ℕ) (a : Residue p) → i < n → j < n → B i j ≡ K.minus a → cell m i j ≡ (p - a.0) % p
    cell_minus i j a l g e =
        let q = positive p prime in let h = value_small a in
        cell_is i j ((p - a.0) % p) l g (mod-lt _ q) (e ∙ ap K.minus (sym (residue_of_value p a)) ∙ sym (residue_minus p a.0 (omega arith) q) ∙ sym (residue_remainder p _ q))

    module _ (f : ℕ → Coefficients) where
      companion_cell : (o : ℕ) (c : Block K) (b i j : ℕ) → CompanionAt K B o c → f b ≡ coefficients c → o ≤ i → o ≤ j → i < o + c.degree → j < o + c.degree → o + c.degree ≤ n
          → companion p c.degree (f b) (i - o) (j - o) ≡ cell m i j
      unfolding companion unit coefficients
      companion_cell o c b i j x e l g u v w = elim (ℕ_discrete (suc (j - o)) c.degree) [
        | yes q ↦ cond_holds (eqb (suc (j - o)) c.degree) (minus (f b)) (cond (eqb (i - o) (suc (j - o))) 1 0) (equal_holds _ _ q)
            ∙ ap minus e
            ∙ sym (cell_minus i j (c.polynomial.0 (i - o)) (omega arith) (omega arith) (ap₂ B (back i l) (end j g q) ∙ x.last (i - o) (omega arith)))
        | no q ↦ cond_fails (eqb (suc (j - o)) c.degree) (minus (f b)) (cond (eqb (i - o) (suc (j - o))) 1 0) (λ t. q (eqb→eq _ _ t)) ∙ elim (ℕ_discrete i (suc j)) [
          | yes h ↦ cond_holds (eqb (i - o) (suc (j - o))) 1 0 (equal_holds (i - o) (suc (j - o)) (omega arith))
              ∙ sym (cell_is i j 1 (omega arith) (omega arith) prime.large (x.unit i j g (omega arith) ∙ ap (λ (y : ℕ). delta K y i) (sym h) ∙ delta_same K i ∙ sym (residue_one p)))
          | no h ↦ cond_fails (eqb (i - o) (suc (j - o))) 1 0 (λ t. h (let z = eqb→eq (i - o) (suc (j - o)) t in omega arith))
              ∙ sym (cell_zero i j (omega arith) (omega arith) (x.unit i j g (omega arith) ∙ delta_other K (suc j) i (λ z. h (sym z))))
        ]
      ]
        where
          minus : Coefficients → ℕ
          minus y = (p - y (i - o)) % p

          back : (i : ℕ) → o ≤ i → i ≡ o + (i - o)
          back i l = omega arith

          end : (j : ℕ) → o ≤ j → suc (j - o) ≡ c.degree → j ≡ o + (c.degree - 1)
          end j g q = omega arith

      block_degree : (c : Block K) (b : ℕ) → Monic K c.degree c.polynomial.0 → c.degree ≤ n → f b ≡ coefficients c → degree n (f b) ≡ c.degree
      unfolding coefficients
      block_degree c b x l e = ap (degree n) e ∙ degree_is n (coefficients c) c.degree l (one_value _ x.lead) (λ k g. zero_value p (positive p prime) _ (x.below k g))

      -- the definitions' blocks, with those of cs from f b on, are the entries of m
      blocks_cells : (o : ℕ) (cs : List (Block K)) (b : ℕ) → Along K n B o cs → ((t : ℕ) → f (b + t) ≡ coefficients (entry K cs t)) → (i j : ℕ) → o ≤ i → o ≤ j → i < n → j < n
          → blocks p n f (length cs) b (i - o) (j - o) ≡ cell m i j
      unfolding entry
      blocks_cells o [] b x e i j l g u v = absurd (omega arith)
      blocks_cells o (c ∷ cs) b x e i j l g u v =
          let fits = along_fits K n B (o + c.degree) cs x.1.1.1 in
          let here : f b ≡ coefficients c = ap f (sym (add-zero b)) ∙ e 0 in
          let size : degree n (f b) ≡ c.degree = block_degree c b x.0 (omega arith) here in
          elim (dec_lt i (o + c.degree)) [
            | yes a ↦ elim (dec_lt j (o + c.degree)) [
              | yes h ↦ blocks_first p n f (length cs) b (i - o) (j - o) (omega arith) (omega arith) ∙ ap (λ (d : ℕ). companion p d (f b) (i - o) (j - o)) size
                  ∙ companion_cell o c b i j (x.1.0 (omega arith)) here l g a h fits
              | no h ↦ blocks_above p n f (length cs) b (i - o) (j - o) (omega arith) (omega arith) ∙ sym (cell_zero i j u v (along_above K n B (o + c.degree) cs x.1.1.1 i j a (omega arith) v))
            ]
            | no a ↦ elim (dec_lt j (o + c.degree)) [
              | yes h ↦ blocks_below p n f (length cs) b (i - o) (j - o) (omega arith) (omega arith) ∙ sym (cell_zero i j u v ((x.1.0 (omega arith)).under i j g h (omega arith)))
              | no h ↦ blocks_behind p n f (length cs) b (i - o) (j - o) (omega arith) (omega arith) ∙ ap₂ (blocks p n f (length cs) (suc b)) (further i size) (further j size)
                  ∙ blocks_cells (o + c.degree) cs (suc b) x.1.1.1 (λ t. ap f (suc-add b t ∙ sym (add-suc b t)) ∙ e (suc t)) i j (omega arith) (omega arith) u v
            ]
          ]
        where
          further : (i : ℕ) → degree n (f b) ≡ c.degree → i - o - degree n (f b) ≡ i - (o + c.degree)
          further i q = omega arith

    -- n blocks along the diagonal, degree 0 among them, give the diagonal of D
    module _ (cs : List (Block K)) (along : Along K n B 0 cs) (many : length cs ≡ n) where
      abbrev f : ℕ → Coefficients
      f b = coefficients (entry K cs b)

      entry_zero : (b k : ℕ) → n ≤ b → f b k ≡ 0
      unfolding coefficients
      entry_zero b k l = zero_value p (positive p prime) _ (ap (λ (x : Polynomial K). x.0 k) (entry_beyond K n B cs b (omega arith)) ∙ zero_coefficient K k)

      short : (b : ℕ) → Short (suc n) (f b)
      unfolding coefficients
      short b k l = elim (dec_lt b n) [
        | yes h ↦ (let (M, d) = entry_monic K n B 0 cs along b (omega arith) in zero_value p (positive p prime) _ (M.below k (omega arith)))
        | no h ↦ entry_zero b k (omega arith)
      ]

      small : (b k : ℕ) → f b k < p
      unfolding coefficients
      small b k = value_small ((entry K cs b).polynomial.0 k)

      size : (b : ℕ) → b < n → degree n (f b) ≡ (entry K cs b).degree
      size b l = let (M, d) = entry_monic K n B 0 cs along b (omega arith) in block_degree f (entry K cs b) b M d refl

      monic : (b : ℕ) → b < n → f b (degree n (f b)) ≡ 1
      unfolding coefficients
      monic b l = let (M, d) = entry_monic K n B 0 cs along b (omega arith) in ap (f b) (size b l) ∙ one_value _ M.lead

      chain : (b : ℕ) → suc b < n → PolynomialDivides p n (f b) (f (suc b))
      unfolding coefficients
      chain b l = (numbers_divide p (positive p prime) n (f b) (f (suc b)) (monic b (omega arith)) (short b) (small (suc b)) (short (suc b)) (entry K cs b).polynomial (entry K cs (suc b)).polynomial
          (λ k. sym (residue_of_value p _)) (λ k. sym (residue_of_value p _))).1 (entry_divides K n B 0 cs along b (omega arith))

      sums : total n (degrees n f) ≡ n
      sums = total_equal n _ _ size ∙ ap (λ (z : ℕ). total z (λ b. (entry K cs b).degree)) (sym many) ∙ sym (zero-add _) ∙ degrees_total K n B 0 cs along

      diagonal_of_blocks : DiagonalOf p n m f
      unfolding frobenius
      diagonal_of_blocks = record {
        smith = chain_diagonal p n prime f short monic low small chain sums;
        chain = chain;
        built = λ i j l g. sym (ap (λ (z : ℕ). blocks p n f z 0 i j) (sym many) ∙ ap₂ (blocks p n f (length cs) 0) (whole i) (whole j) ∙ blocks_cells f 0 cs 0 along (λ t. ap f (zero-add t)) i j (omega arith) (omega arith) l g);
        beyond = entry_zero;
      }
        where
          whole : (i : ℕ) → i ≡ i - 0
          whole i = omega arith

    -- a Frobenius form has a diagonal
    pub diagonal_of_form : (bs : List (Block K)) → Form K n B 0 bs → (f : ℕ → Coefficients) × DiagonalOf p n m f
    diagonal_of_form bs x =
        let h = form_length K n B 0 bs x in
        let cs = with_ones K (n - length bs) bs in
        let e : length cs ≡ n = with_ones_length K (n - length bs) bs ∙ omega arith in
        ((λ b. coefficients (entry K cs b)), diagonal_of_blocks cs (along_ones K n B (n - length bs) 0 bs (along_form K n B 0 bs x)) e)
