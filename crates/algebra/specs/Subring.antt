-- A subset of a ring that is closed under the operations is a ring.
use Rattle.std.specs.Prelude.{◌≡◌}
use mathlib.Core.HLevel.{Σ_prop_path, Σ_set, prop→set}
use Rattle.algebra.specs.Ring.{Ring, plus_associative, plus_commutative, zero_plus, minus_plus, times_associative, times_commutative, one_times, times_plus}

pub record Closed {R : Type 0} (K : Ring R) (P : R → Type 0) : Type 0 where
  pub proposition : (x : R) → IsProp (P x)
  pub plus : (x y : R) → P x → P y → P (K.plus x y)
  pub times : (x y : R) → P x → P y → P (K.times x y)
  pub minus : (x : R) → P x → P (K.minus x)
  pub zero : P K.zero
  pub one : P K.one

abbrev pub Subset : {R : Type 0} → (R → Type 0) → Type 0
Subset {R} P = (x : R) × P x

module _ {R : Type 0} (K : Ring R) (P : R → Type 0) (C : Closed K P) where
  pub subset_equal : (a b : Subset P) → a.0 ≡ b.0 → a ≡ b
  subset_equal a b e = Σ_prop_path C.proposition {u = a} {v = b} e

  unfoldable pub subring : Ring (Subset P)
  subring = record {
    plus = λ a b. (K.plus a.0 b.0, C.plus a.0 b.0 a.1 b.1);
    times = λ a b. (K.times a.0 b.0, C.times a.0 b.0 a.1 b.1);
    minus = λ a. (K.minus a.0, C.minus a.0 a.1);
    zero = (K.zero, C.zero);
    one = (K.one, C.one);
    is_set = Σ_set K.is_set (λ x. prop→set (C.proposition x));
    plus_associative = λ a b c. subset_equal _ _ (plus_associative K a.0 b.0 c.0);
    plus_commutative = λ a b. subset_equal _ _ (plus_commutative K a.0 b.0);
    zero_plus = λ a. subset_equal _ _ (zero_plus K a.0);
    minus_plus = λ a. subset_equal _ _ (minus_plus K a.0);
    times_associative = λ a b c. subset_equal _ _ (times_associative K a.0 b.0 c.0);
    times_commutative = λ a b. subset_equal _ _ (times_commutative K a.0 b.0);
    one_times = λ a. subset_equal _ _ (one_times K a.0);
    times_plus = λ a b c. subset_equal _ _ (times_plus K a.0 b.0 c.0);
  }
