-- The diagonal's polynomials among their bytes, their degrees as the last coefficients that are not zero, and the sum of these.
use Rattle.std.specs.Prelude.{◌≡◌, refl, List, ℕ, zero, suc, ◌+◌, ◌*◌, ◌^◌, ◌-◌, ◌≤◌, ◌<◌, T, eqb, length, take, sum}
use Rattle.std.proofs.Common.{◌∙◌, add-one, ap, ap₂, arith}
use Rattle.std.proofs.Math.Path.{fun_ext}
use Rattle.std.proofs.Math.Seq.{take-suc}
use Rattle.std.proofs.lemmas.List.Sums.{sum_by_push}
use Rattle.forms.specs.Numbers.{at, total, prime, order_limit}
use Rattle.forms.specs.Polynomials.{degree, monic}
use Rattle.forms.specs.Matrices.{diagonal}
use Rattle.forms.specs.Tests.{total_equal}
use Rattle.forms.specs.Bounds.{degree_limited, diagonal_at}
use Rattle.matrices.specs.Parts.{row_of, HasRow, has_row}
use Rattle.products.specs.Products.{slice_coefficients}

-- the payload of D is residues modulo a prime, with monic polynomials
pub record MonicPayload (p n : ℕ) (d : List ℕ) : Type 0 where
  pub prime_p : T (prime p)
  pub small : (k : ℕ) → at d k < p
  pub one : (i : ℕ) → i < n → diagonal n d i (degree n (diagonal n d i)) ≡ 1

-- s is the n + 1 coefficients of f_i
pub record CoefficientsOf (n : ℕ) (d : List ℕ) (i : ℕ) (s : List ℕ) : Type 0 where
  pub long : length s ≡ suc n
  pub coefficient : (k : ℕ) → at s k ≡ diagonal n d i k

-- s begins with them
pub record HasCoefficients (n : ℕ) (d : List ℕ) (i : ℕ) (s : List ℕ) : Type 0 where
  pub coefficient : (k : ℕ) → k ≤ n → at s k ≡ diagonal n d i k

pub has_coefficients : {n : ℕ} {d : List ℕ} {i : ℕ} {s : List ℕ} → CoefficientsOf n d i s → HasCoefficients n d i s
has_coefficients of = record { coefficient = λ k l. of.coefficient k }

-- the degrees of f_1 .. f_n, in code counted from 0
abbrev pub Degrees : ℕ → List ℕ → List ℕ → Type 0
Degrees n d s = (i : ℕ) → i < n → at s i ≡ degree n (diagonal n d i)

pub degrees_limited : (n : ℕ) (d s : List ℕ) → Degrees n d s → (i : ℕ) → i < n → at s i ≤ n
degrees_limited n d s h i l = rw (h i l) (degree_limited _ _)

pub coefficients_are : {n : ℕ} {d : List ℕ} {i : ℕ} {s : List ℕ} → CoefficientsOf n d i s → at s ≡ diagonal n d i
coefficients_are of = fun_ext of.coefficient

pub degree_is : {n : ℕ} {d : List ℕ} {i : ℕ} {s : List ℕ} → CoefficientsOf n d i s → degree (length s - 1) (at s) ≡ degree n (diagonal n d i)
degree_is {n} {s = s} of = ap₂ degree last (coefficients_are of)
  where
    last : length s - 1 ≡ n
    last = omega (arith, of.long)

-- row i of the payload, n + 1 bytes wide
pub coefficients_row : (n : ℕ) (d : List ℕ) (i : ℕ) → length d ≡ n * suc n → i < n → HasRow d i (n + 1)
coefficients_row n d i e l = has_row d n i (n + 1) (rw (add-one n) e) l

pub coefficients_from : (n : ℕ) (d : List ℕ) (i : ℕ) → HasRow d i (n + 1) → CoefficientsOf n d i (row_of d i (n + 1))
unfolding diagonal row_of
coefficients_from n d i h = rw (add-one n) (let s = slice_coefficients (suc n) (i * suc n) d (rw (add-one n) at h) in record { long = s.0; coefficient = s.1 })

pub coefficient_small : {p n : ℕ} {d : List ℕ} {i : ℕ} {s : List ℕ} → HasCoefficients n d i s → ((k : ℕ) → at d k < p) → (k : ℕ) → k ≤ n → at s k < p
coefficient_small {p} {n} {d} {i} h small k l = rw (h.coefficient k l, diagonal_at n d i k (omega arith)) (small _)

pub monic_at : (n : ℕ) (d : List ℕ) (i m : ℕ) {s : List ℕ} → HasCoefficients n d i s → m ≡ degree n (diagonal n d i) → eqb (at s m) 1 ≡ monic n (diagonal n d i)
monic_at n d i m h e = ap (λ (x : ℕ). eqb x 1) (h.coefficient m (let l = degree_limited n (diagonal n d i) in omega arith) ∙ ap (diagonal n d i) e)

-- the sum of the first n numbers of a list
sum_is_total : (s : List ℕ) (n : ℕ) → n ≤ length s → sum (take n s) ≡ total n (at s)
unfolding total
sum_is_total s zero l = refl
sum_is_total s (suc n) l = rw (take-suc s n 0) (sum_by_push (λ (x : ℕ). x) (take n s) (at s n) ∙ ap (λ (x : ℕ). x + at s n) (sum_is_total s n (omega arith)))

-- the same of what the code has summed, and of the degrees of D
pub sum_total : (n : ℕ) (s : List ℕ) (x : ℕ) → n ≤ length s → x ≡ sum (take n s) → x ≡ total n (at s)
sum_total n s x l e = e ∙ sum_is_total s n l

pub degrees_sum : (n : ℕ) (d s : List ℕ) (x : ℕ) → Degrees n d s → n ≤ length s → x ≡ sum (take n s) → x ≡ total n (λ i. degree n (diagonal n d i))
degrees_sum n d s x h l e = sum_total n s x l e ∙ total_equal n _ _ h

total_bounded : (m n : ℕ) (f : ℕ → ℕ) → ((i : ℕ) → i < n → f i ≤ m) → total n f ≤ n * m
unfolding total
total_bounded m zero f h = omega arith
total_bounded m (suc n) f h = let r = total_bounded m n f (λ i l. h i (omega arith)) in let g = h n (omega arith) in omega arith

pub sum_fits : (s : List ℕ) (n : ℕ) → n ≤ order_limit → n ≤ length s → ((i : ℕ) → i < n → at s i ≤ n) → sum (take n s) < 2 ^ 64
sum_fits s n l g h = let e = sum_is_total s n g in let b = total_bounded order_limit n (at s) (λ i m. (let k = h i m in omega arith)) in omega arith
