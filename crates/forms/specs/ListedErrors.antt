-- Answers that look right: of case e the rational one reduced modulo 2, cases h and i, and a diagonal without the dividing chain.
use Rattle.std.specs.Prelude.{List, [], ◌∷◌, ℕ}
use Rattle.forms.specs.Polynomials.{Coefficients, convolution}

-- case e, and 1, 1, (X+1)^3
abbrev pub e_A : List ℕ
e_A = 0 ∷ 1 ∷ 1 ∷ 0 ∷ 1 ∷ 0 ∷ 1 ∷ 1 ∷ 0 ∷ []

abbrev pub rational_D : List ℕ
rational_D = 1 ∷ 0 ∷ 0 ∷ 0 ∷ 1 ∷ 0 ∷ 0 ∷ 0 ∷ 1 ∷ 1 ∷ 1 ∷ 1 ∷ []

-- cases h and i
abbrev pub h_A : List ℕ
h_A = 0 ∷ 0 ∷ 0 ∷ 0 ∷ 1 ∷ 0 ∷ 0 ∷ 0 ∷ 0 ∷ 0 ∷ 0 ∷ 0 ∷ 0 ∷ 0 ∷ 1 ∷ 0 ∷ []

abbrev pub i_A : List ℕ
i_A = 0 ∷ 0 ∷ 0 ∷ 0 ∷ 1 ∷ 0 ∷ 0 ∷ 0 ∷ 0 ∷ 0 ∷ 0 ∷ 0 ∷ 0 ∷ 0 ∷ 0 ∷ 0 ∷ []

-- the product f1 f2 f3 f4
unfoldable pub entries_product : (ℕ → Coefficients) → Coefficients
entries_product f = convolution (convolution (convolution (f 0) (f 1)) (f 2)) (f 3)

-- case j's X-1, X-1, X-2, whatever the matrix
abbrev pub chainless_D : List ℕ
chainless_D = 2 ∷ 1 ∷ 0 ∷ 0 ∷ 2 ∷ 1 ∷ 0 ∷ 0 ∷ 1 ∷ 1 ∷ 0 ∷ 0 ∷ []
