-- x / p is (x f) / 2^32, where f is 2^32 / p rounded up, for p < 256 and x < 2^24.
use Rattle.std.specs.Prelude.{◌≡◌, ℕ, ◌+◌, ◌*◌, ◌-◌, ◌/◌, ◌%◌, ◌≤◌, ◌<◌}
use Rattle.std.proofs.Common.{sym, ◌∙◌, ap, div-add-mod', mod-lt, mul-le-mul, mul-le-mul_right, mul-le-mul_left, mul_assoc, mul_comm, add-mul, mul-add, one-mul, div-le_self, arith}
use Rattle.std.proofs.Math.Nat.{div-eq_of_lt-le, mod-eq-sub-div-mul}

-- 2^32 / p, rounded up
abbrev pub factor_of : ℕ → ℕ
factor_of p = 4294967295 / p + 1

module _ (x p f : ℕ) (positive : 0 < p) (small : p < 256) (bounded : x < 16777216) (is : f ≡ factor_of p) where
  -- f p is 2^32 and less than p more
  over : f * p + 4294967295 % p ≡ 4294967295 + p
  over = omega (arith, div-add-mod' 4294967295 p, ap (λ z. z * p) is ∙ add-mul (4294967295 / p) 1 p ∙ ap (λ z. 4294967295 / p * p + z) (one-mul p))

  rest : 4294967295 % p < p
  rest = mod-lt 4294967295 positive

  parts : x * f ≡ x / p * (f * p) + x % p * f
  parts = ap (λ z. z * f) (sym (div-add-mod' x p)) ∙ add-mul (x / p * p) (x % p) f ∙ ap (λ z. z + x % p * f) (mul_assoc (x / p) p f ∙ ap (λ z. x / p * z) (mul_comm p f))

  at_least : x / p * 4294967296 ≤ x / p * (f * p)
  at_least = mul-le-mul_left (x / p) (omega (arith, over, rest))

  at_most : x / p * (f * p) ≤ x / p * 4294967295 + x / p * p
  at_most = omega (arith, mul-le-mul_left {m = f * p} {n = 4294967295 + p} (x / p) (omega (arith, over)), mul-add (x / p) 4294967295 p)

  last : x % p * f + f ≤ f * p
  last = omega (arith, mul-le-mul_right f (mod-lt x positive), add-mul (x % p) 1 f ∙ ap (λ z. x % p * f + z) (one-mul f), mul_comm p f)

  large : 16842751 < f
  large = omega (arith, mul-le-mul_left {m = p} {n = 255} f (omega arith), over, rest)

  quotient_is : x * f / 4294967296 ≡ x / p
  quotient_is = div-eq_of_lt-le 4294967296 (omega (arith, parts, at_least)) (omega (arith, parts, at_most, last, over, large, bounded, small, div-add-mod' x p))

  pub product_fits : x * f < 18446744073709551616
  product_fits = omega (arith, mul-le-mul {n₁ = x} {m₁ = f} {n₂ = 16777215} {m₂ = 4294967296} (omega arith) (omega (arith, is, div-le_self 4294967295 p)))

  pub multiple_below : x * f / 4294967296 * p ≤ x
  multiple_below = omega (arith, ap (λ z. z * p) quotient_is, div-add-mod' x p)

  pub remainder_is : x - x * f / 4294967296 * p ≡ x % p
  remainder_is = ap (λ z. x - z * p) quotient_is ∙ sym (mod-eq-sub-div-mul x p)
