-- Polynomials: their coefficients, constant term first. All arithmetic is modulo p.
use Rattle.std.specs.Prelude.{Bool, cond, ℕ, zero, suc, ◌+◌, ◌*◌, ◌-◌, ◌%◌, eqb}
use Rattle.forms.specs.Numbers.{total, every}

abbrev pub Coefficients : Type 0
Coefficients = ℕ → ℕ

-- coefficient k of f g
unfoldable pub convolution : Coefficients → Coefficients → Coefficients
convolution f g k = total (suc k) (λ i. f i * g (k - i))

-- the last k ≤ n with f k not 0; else 0
unfoldable pub degree : ℕ → Coefficients → ℕ
degree zero f = 0
degree (suc n) f = cond (eqb (f (suc n)) 0) (degree n f) (suc n)

-- f, of degree at most n, has the leading coefficient 1
abbrev pub monic : ℕ → Coefficients → Bool
monic n f = eqb (f (degree n f)) 1

-- c + X f
abbrev pub prepend : ℕ → Coefficients → Coefficients
prepend c f zero = c
prepend c f (suc k) = f k

-- of g, with e coefficients, divided by f, monic of degree m
unfoldable pub remainder : ℕ → ℕ → Coefficients → ℕ → Coefficients → Coefficients
remainder p m f zero g k = 0
remainder p m f (suc e) g k = let r = prepend (g 0) (remainder p m f e (λ i. g (suc i))) in (r k + (p - r m) * f k) % p

-- f, monic, divides g, both of degree at most n
abbrev pub divides : ℕ → ℕ → Coefficients → Coefficients → Bool
divides p n f g = every n (λ k. eqb (remainder p (degree n f) f (suc n) g k) 0)

-- the exponent of X in f: the first k < n with f k not 0; else n
unfoldable pub exponent : ℕ → Coefficients → ℕ
exponent zero f = 0
exponent (suc n) f = cond (eqb (f 0) 0) (suc (exponent n (λ k. f (suc k)))) 0
