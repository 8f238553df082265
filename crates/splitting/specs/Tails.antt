-- A row's entries from m on with the other sign.
use Rattle.std.specs.Prelude.{◌≡◌, List, ℕ, zero, suc, ◌+◌, ◌-◌, ◌%◌, ◌≤◌, ◌<◌, get_or, set}
use Rattle.std.proofs.Common.{sym, ◌∙◌, ap, add-one, mod-lt, min, arith}
use Rattle.std.proofs.lemmas.List.{length-replicate, set-get_or}
use Rattle.forms.specs.Numbers.{order_limit}
use Rattle.std.proofs.Math.Decide.{dec_lt}
use Rattle.algebra.specs.Choice.{below, below_inside, below_outside}
use Rattle.algebra.specs.Matrix.{Upto}
use Rattle.algebra.specs.Modular.{residue, modulo, residue_zero, residue_remainder, residue_minus}
use Rattle.matrices.specs.Filling.{filled, fill_start, fill_turn, filled_inside, filled_outside}
use Rattle.matrices.specs.Matrices.{vector, vector_inside, vector_upto, FieldRow, zero_row, zero_row_at}

-- minus the entries m .. k - 1 of x, and zeros
abbrev pub tail_of : (p m k : ℕ) → List ℕ → List ℕ
tail_of p m k x = filled k (λ j. below m j 0 ((p - get_or x j 0) % p)) zero_row

-- up to m there are only zeros
pub tail_none : (p m k : ℕ) (x : List ℕ) → k ≤ m → k ≤ order_limit → zero_row ≡ tail_of p m k x
tail_none p m zero x l o = fill_start zero_row _
tail_none p m (suc k) x l o = sym (set-get_or zero_row k 0) ∙ fill_turn zero_row k _ (omega (arith, length-replicate {A = ℕ} order_limit 0)) (tail_none p m k x (omega arith) (omega arith)) (zero_row_at k ∙ sym (below_inside m k 0 ((p - get_or x k 0) % p) l))
    ∙ ap (λ (j : ℕ). tail_of p m j x) (add-one k)

-- one entry more
pub tail_turn : (p m k j : ℕ) (x r : List ℕ) → m ≤ j → j < k → k ≤ order_limit → r ≡ tail_of p m (min j k) x → set r j ((p - get_or x j 0) % p) ≡ tail_of p m (min (j + 1) k) x
tail_turn p m k j x r l h o e = fill_turn zero_row j _ (omega (arith, length-replicate {A = ℕ} order_limit 0)) (e ∙ ap (λ (i : ℕ). tail_of p m i x) (omega arith)) (sym (below_outside m j 0 ((p - get_or x j 0) % p) l))
    ∙ ap (λ (i : ℕ). tail_of p m i x) (omega arith)

module _ (p n m k : ℕ) (x : List ℕ) (h : 0 < p) (kn : k ≤ n) (f : FieldRow p n x) where
  tail_at : (t : ℕ) → t < k → get_or (tail_of p m k x) t 0 ≡ below m t 0 ((p - get_or x t 0) % p)
  tail_at t l = filled_inside k (λ j. below m j 0 ((p - get_or x j 0) % p)) zero_row 0 t l

  tail_outside : (t : ℕ) → k ≤ t → get_or (tail_of p m k x) t 0 ≡ 0
  tail_outside t l = filled_outside k _ zero_row 0 t l ∙ zero_row_at t

  pub tail_before : (t : ℕ) → t < m → get_or (tail_of p m k x) t 0 ≡ 0
  tail_before t l = elim (dec_lt t k) [ yes g ↦ tail_at t g ∙ below_inside m t _ _ l | no g ↦ tail_outside t (omega arith) ]

  residue_of_zero : (y : ℕ) → y ≡ 0 → residue p y ≡ (modulo p).zero
  residue_of_zero y e = ap (residue p) e ∙ residue_zero p

  pub tail_low : (t : ℕ) → t < m → vector p n (tail_of p m k x) t ≡ (modulo p).zero
  tail_low t l = elim (dec_lt t n) [ yes g ↦ vector_inside p n _ t g ∙ residue_of_zero _ (tail_before t l) | no g ↦ vector_upto p n _ t (omega arith) ]

  pub tail_upto : Upto (modulo p) k (vector p n (tail_of p m k x))
  tail_upto t l = elim (dec_lt t n) [ yes g ↦ vector_inside p n _ t g ∙ residue_of_zero _ (tail_outside t l) | no g ↦ vector_upto p n _ t (omega arith) ]

  pub tail_high : (t : ℕ) → m ≤ t → t < k → vector p n (tail_of p m k x) t ≡ (modulo p).minus (residue p (get_or x t 0))
  tail_high t l g = vector_inside p n _ t (omega arith) ∙ ap (residue p) (tail_at t g ∙ below_outside m t _ _ l) ∙ residue_remainder p _ h
      ∙ residue_minus p (get_or x t 0) (omega (arith, f.small t (omega arith))) h

  tail_small : (t : ℕ) → t < k → get_or (tail_of p m k x) t 0 < p
  tail_small t l = rw (tail_at t l) (elim (dec_lt t m) [ yes g ↦ rw (below_inside m t 0 ((p - get_or x t 0) % p) g) h | no g ↦ rw (below_outside m t 0 ((p - get_or x t 0) % p) (omega arith)) (mod-lt _ h) ])

  pub tail_field : FieldRow p n (tail_of p m k x)
  tail_field = record {
    small = λ t l. elim (dec_lt t k) [ yes g ↦ tail_small t g | no g ↦ rw (tail_outside t (omega arith)) h ];
    rest = λ t l. tail_outside t (omega arith);
  }
