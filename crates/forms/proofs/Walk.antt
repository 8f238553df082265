-- The walk: the loop x' = A x modulo p and its rewriting y' = F y pass through the same states, T y for y, at every step.
use Rattle.std.specs.Prelude.{◌≡◌, List}
use Rattle.std.proofs.Math.Path.{refl, sym, ap}
use Rattle.std.proofs.Common.{◌∙◌, mod-lt, arith, ext_get_or}
use Prim.Native.Nat.{ℕ, zero, suc, ◌<◌}
use Rattle.algebra.specs.Ring.{Ring}
use Rattle.algebra.specs.Sum.{sum_equal}
use Rattle.algebra.specs.Matrix.{Matrix, Vector, product, identity, apply, apply_at, apply_equal, apply_product, identity_apply_inside}
use Rattle.algebra.specs.Action.{power, power_zero, power_suc}
use Rattle.algebra.specs.Modular.{Residue, residue, residue_injective, residue_remainder, residue_times, modulo, Prime, positive}
use Rattle.forms.specs.Numbers.{at}
use Rattle.forms.specs.Matrices.{matrix}
use Rattle.forms.specs.Certificate.{Certificate}
use Rattle.forms.specs.Words.{Certified, Residues, LaidOut}
use Rattle.forms.specs.Rings.{field, field_inside, total_residue}
use Rattle.forms.specs.Listed.{listed_at, listed_residues}
use Rattle.forms.proofs.Uniqueness.{laid_at}
use Rattle.forms.proofs.Similarity.{certified_basis}
use Rattle.forms.specs.Walk.{applied, steps}

pub applied_residues : (p n : ℕ) (M x : List ℕ) → 0 < p → Residues p n (applied p n M x)
unfolding applied
applied_residues p n M x l = listed_residues p n _ l (λ k m. mod-lt _ l)

module _ (p : ℕ) (prime : Prime p) (n : ℕ) where
  abbrev K : Ring (Residue p)
  K = modulo p

  abbrev over : List ℕ → Matrix K
  over s = field p n (matrix n s)

  abbrev column : List ℕ → Vector K
  column x i = residue p (at x i)

  applied_is : (M x : List ℕ) (i : ℕ) → i < n → column (applied p n M x) i ≡ apply K n (over M) (column x) i
  unfolding applied
  applied_is M x i l = ap (residue p) (listed_at n _ i l) ∙ residue_remainder p _ (positive p prime) ∙ total_residue p n _
      ∙ sum_equal K _ _ n (λ j g. residue_times p _ _ ∙ ap (λ a. K.times a (column x j)) (sym (field_inside p n (matrix n M) i j l g)))
      ∙ sym (apply_at K n (over M) (column x) i)

  applied_twice : (M N x : List ℕ) (i : ℕ) → i < n → column (applied p n M (applied p n N x)) i ≡ apply K n (product K n (over M) (over N)) (column x) i
  applied_twice M N x i l = applied_is M (applied p n N x) i l
      ∙ ap (λ (w : Vector K). w i) (apply_equal K n (over M) _ _ (applied_is N x) ∙ sym (apply_product K n (over M) (over N) (column x)))

  column_determines : (x y : List ℕ) → Residues p n x → Residues p n y → ((i : ℕ) → i < n → column x i ≡ column y i) → x ≡ y
  column_determines x y a b h = ext_get_or 0 x y (a.many ∙ sym b.many) (λ i l. residue_injective p _ _ (a.small i) (b.small i) (h i (omega (arith, a.many))))

  -- M (N x) = M' (N' x) where M N = M' N', and M (N x) = x where M N = E
  products_apply : (M N M' N' x : List ℕ) → product K n (over M) (over N) ≡ product K n (over M') (over N') → applied p n M (applied p n N x) ≡ applied p n M' (applied p n N' x)
  products_apply M N M' N' x e = column_determines _ _ (applied_residues p n M _ (positive p prime)) (applied_residues p n M' _ (positive p prime)) (λ i l.
      applied_twice M N x i l ∙ ap (λ (A : Matrix K). apply K n A (column x) i) e ∙ sym (applied_twice M' N' x i l))

  inverse_applies : (M N x : List ℕ) → Residues p n x → product K n (over M) (over N) ≡ identity K n → applied p n M (applied p n N x) ≡ x
  inverse_applies M N x r e = column_determines _ _ (applied_residues p n M _ (positive p prime)) r (λ i l.
      applied_twice M N x i l ∙ ap (λ (A : Matrix K). apply K n A (column x) i) e ∙ identity_apply_inside K n (column x) i l)

  -- k steps are A^k over F_p
  pub steps_are_power : (A : List ℕ) (k : ℕ) (x : List ℕ) (i : ℕ) → i < n → column (steps p n A k x) i ≡ apply K n (power K n (over A) k) (column x) i
  unfolding steps
  steps_are_power A zero x i l = sym (ap (λ (M : Matrix K). apply K n M (column x) i) (power_zero K n (over A)) ∙ identity_apply_inside K n (column x) i l)
  steps_are_power A (suc k) x i l = applied_is A (steps p n A k x) i l
      ∙ ap (λ (w : Vector K). w i) (apply_equal K n (over A) _ _ (steps_are_power A k x) ∙ sym (apply_product K n (over A) (power K n (over A) k) (column x)))
      ∙ ap (λ (M : Matrix K). apply K n M (column x) i) (sym (power_suc K n (over A) k))

module _ (p n : ℕ) (A : List ℕ) (c : Certificate) (laid : LaidOut c) (h : Certified p n A c) where
  prime : Prime p
  prime = (laid_at p n c laid h.given.0 h.given.1).prime

  -- T turns states of the rewritten loop into states of the old one, and T⁻¹ turns them back
  pub turn_back : (y : List ℕ) → Residues p n y → applied p n c.TI (applied p n c.TB y) ≡ y
  turn_back y r = inverse_applies p prime n c.TI c.TB y r (certified_basis p prime n A c h).inverse.left

  pub turn_forth : (x : List ℕ) → Residues p n x → applied p n c.TB (applied p n c.TI x) ≡ x
  turn_forth x r = inverse_applies p prime n c.TB c.TI x r (certified_basis p prime n A c h).inverse.right

  -- A^k (T y) = T (F^k y)
  pub walk : (k : ℕ) (y : List ℕ) → steps p n A k (applied p n c.TB y) ≡ applied p n c.TB (steps p n c.FB k y)
  unfolding steps
  walk zero y = refl
  walk (suc k) y = ap (applied p n A) (walk k y) ∙ products_apply p prime n A c.TB c.TB c.FB (steps p n c.FB k y) (certified_basis p prime n A c h).moves

  -- A^k x = T (F^k (T⁻¹ x))
  pub walk_turned_back : (k : ℕ) (x : List ℕ) → Residues p n x → steps p n A k x ≡ applied p n c.TB (steps p n c.FB k (applied p n c.TI x))
  walk_turned_back k x r = ap (steps p n A k) (sym (turn_forth x r)) ∙ walk k (applied p n c.TI x)
