-- The form that the elimination builds from the back: companion blocks along the diagonal, each polynomial dividing the next; in front of them
-- a window that the polynomial of the first block kills. One more block is found in the window and brought to its end.
use Rattle.std.specs.Prelude.{◌≡◌, refl, ℕ, suc, ◌+◌, ◌-◌, ◌≤◌, ◌<◌}
use Rattle.std.proofs.Math.Path.{sym, ap, ap₂, fun_ext, subst}
use Rattle.std.proofs.Common.{◌∙◌, arith}
use mathlib.Core.List.{List, [], ◌∷◌}
use Rattle.std.proofs.Math.Decide.{dec_lt, ℕ_discrete}
use Rattle.algebra.specs.Ring.{Ring, minus_minus}
use Rattle.algebra.specs.Sum.{delta, delta_same, delta_other}
use Rattle.algebra.specs.Matrix.{Matrix, Vector, Within, identity}
use Rattle.algebra.specs.Inverse.{basis_start}
use Rattle.algebra.specs.Divides.{Divides}
use Rattle.algebra.specs.Polynomial.{Polynomial, polynomials, Monic}
use Rattle.basis.specs.Frame.{Frame, FrameWithin, In, column, Window}
use Rattle.splitting.specs.Killing.{monic_of_low, monic_of_monic, corner, Kills, kills_span, kills_out_of_frame, corner_divides}
use Rattle.ordering.specs.Rotation.{rotation, rotation_low, rotation_middle, rotation_high, rotation_below, rotated_change}
use Rattle.ordering.specs.Reordering.{Reordered}
use Rattle.splitting.specs.Probe.{Split}

module _ {R : Type 0} (K : Ring R) where
  open K use {minus as ⊖◌, zero as 𝟘}

  infix 80 ⊖◌
  -- a polynomial and its degree
  pub record Block : Type 0 where
    pub degree : ℕ
    pub polynomial : Polynomial K

  -- rows and columns o .. o + m - 1 of B are the companion block of f, monic of degree m: ones just below the diagonal and the last column
  -- -f_0 .. -f_(m-1); above and below it the columns are zero
  pub record CompanionAt (B : Matrix K) (o : ℕ) (b : Block) : Type 0 where
    pub some : 0 < b.degree
    pub monic : Monic K b.degree b.polynomial.0
    pub unit : (i t : ℕ) → o ≤ t → suc t < o + b.degree → B i t ≡ delta K (suc t) i
    pub last : (i : ℕ) → i < b.degree → B (o + i) (o + (b.degree - 1)) ≡ ⊖ (b.polynomial.0 i)
    pub above : (i t : ℕ) → o ≤ t → t < o + b.degree → i < o → B i t ≡ 𝟘
    pub under : (i t : ℕ) → o ≤ t → t < o + b.degree → o + b.degree ≤ i → B i t ≡ 𝟘

  -- the polynomial of b divides that of the first of bs
  abbrev pub Dividing : Block → List Block → Type 0
  Dividing b [] = Unit {0}
  Dividing b (c ∷ cs) = Divides (polynomials K) b.polynomial c.polynomial

  -- from row and column o on B is the block diagonal of these blocks, up to n
  abbrev pub Form : ℕ → Matrix K → ℕ → List Block → Type 0
  Form n B o [] = o ≡ n
  Form n B o (b ∷ bs) = CompanionAt B o b × (Dividing b bs × Form n B (o + b.degree) bs)

  -- the polynomial of the first block kills the first k basis vectors
  abbrev pub Top : ℕ → Matrix K → Matrix K → ℕ → List Block → Type 0
  Top n A T k [] = Unit {0}
  Top n A T k (b ∷ bs) = (q : ℕ) → q < k → Kills K n A b.polynomial (column K T q)

  form_equal : (n : ℕ) (B C : Matrix K) (k o : ℕ) (bs : List Block) → k ≤ o → ((i t : ℕ) → k ≤ t → C i t ≡ B i t) → Form n B o bs → Form n C o bs
  form_equal n B C k o [] l e x = x
  form_equal n B C k o (b ∷ bs) l e x = (
    record {
      some = x.0.some;
      monic = x.0.monic;
      unit = λ i t a g. e i t (omega arith) ∙ x.0.unit i t a g;
      last = λ i g. e _ _ (omega arith) ∙ x.0.last i g;
      above = λ i t a g h. e i t (omega arith) ∙ x.0.above i t a g h;
      under = λ i t a g h. e i t (omega arith) ∙ x.0.under i t a g h;
    },
    (x.1.0, form_equal n B C k (o + b.degree) bs (omega arith) e x.1.1),
  )

  -- the elimination of A down to the window [0,k)
  pub record Stage (n k : ℕ) (A : Matrix K) (X : Frame K) : Type 0 where
    pub basis : In K n A X
    pub window : Window K k X.B
    pub blocks : List Block
    pub form : Form n X.B k blocks
    pub top : Top n A X.T k blocks

  pub stage_start : (n : ℕ) (A : Matrix K) (X : Frame K) → Within K n A → X.B ≡ A → X.T ≡ identity K n → X.I ≡ identity K n → Stage n n A X
  stage_start n A X a b t i = record {
    basis = rw (b, t, i) (basis_start K n A a);
    window = rw b (record { right = λ i j x y. a.columns i j y; down = λ i j x y. a.rows i j x });
    blocks = [];
    form = refl;
    top = tt;
  }

  -- a block of m is found in the window, which makes Y, and brought to its end, which makes Z
  module _ (n k m : ℕ) (A : Matrix K) (X Y Z : Frame K) (kn : k ≤ n) (y : FrameWithin K n Y) (z : FrameWithin K n Z) (x : Stage n k A X) (s : Split K n k X m Y)
      (r : Reordered K n (rotation m k) Y Z) where
    some : 0 < m
    some = s.headed.some

    fits : m ≤ k
    fits = s.headed.fits

    window : Window K k Y.B
    window = s.headed.window

    σ : ℕ → ℕ
    σ = rotation m k

    in_block : (t : ℕ) → k - m ≤ t → t < k → σ t ≡ t - (k - m)
    unfolding σ
    in_block t a b = rotation_middle m k t a b

    in_window : (t : ℕ) → t < k - m → σ t ≡ t + m
    unfolding σ
    in_window t a = rotation_low m k t a

    behind : (t : ℕ) → k ≤ t → σ t ≡ t
    unfolding σ
    behind t a = rotation_high m k t a

    -- the entries of Z, in the orders that matter
    at : (i t : ℕ) → i < n → t < n → Z.B i t ≡ Y.B (σ i) (σ t)
    unfolding σ
    at = r.B

    outside : (i t : ℕ) → n ≤ i → Z.B i t ≡ 𝟘
    outside i t g = z.B.rows i t g

    corner_unit : (i t : ℕ) → k - m ≤ t → suc t < k → delta K (suc (t - (k - m))) (σ i) ≡ delta K (suc t) i
    corner_unit i t a b = elim (ℕ_discrete (suc t) i) [
      | yes q ↦ subst (λ (y : ℕ). delta K (suc (t - (k - m))) (σ y) ≡ delta K (suc t) y) q (ap (delta K (suc (t - (k - m)))) (in_block (suc t) (omega arith) b ∙ omega arith) ∙ delta_same K _ ∙ sym (delta_same K _))
      | no q ↦ delta_other K _ _ (λ e. q (elim (dec_lt i (k - m)) [
        | yes v ↦ omega (arith, in_window i v, e)
        | no v ↦ elim (dec_lt i k) [ yes u ↦ omega (arith, in_block i (omega arith) u, e) | no u ↦ omega (arith, behind i (omega arith), e) ]
      ])) ∙ sym (delta_other K (suc t) i q)
    ]

    unit_at : (i t : ℕ) → k - m ≤ t → suc t < k → Z.B i t ≡ delta K (suc t) i
    unit_at i t a b = elim (dec_lt i n) [
      | yes l ↦ at i t l (omega arith) ∙ ap (Y.B (σ i)) (in_block t a (omega arith)) ∙ s.headed.columns.unit (σ i) (t - (k - m)) (omega (arith, fits)) ∙ corner_unit i t a b
      | no l ↦ outside i t (omega arith) ∙ sym (delta_other K (suc t) i (omega arith))
    ]

    above_at : (i t : ℕ) → k - m ≤ t → t < k → i < k - m → Z.B i t ≡ 𝟘
    above_at i t a b c = at i t (omega arith) (omega arith) ∙ ap₂ Y.B (in_window i c) (in_block t a b) ∙ s.headed.columns.low (i + m) (t - (k - m)) (omega arith) (omega (arith, fits))

    under_at : (i t : ℕ) → k - m ≤ t → t < k → k ≤ i → Z.B i t ≡ 𝟘
    under_at i t a b c = elim (dec_lt i n) [
      | yes l ↦ at i t l (omega arith) ∙ ap₂ Y.B (behind i c) (in_block t a b) ∙ s.headed.columns.low i (t - (k - m)) (omega (arith, fits)) (omega (arith, fits))
      | no l ↦ outside i t (omega arith)
    ]

    block : Block
    block = record { degree = m; polynomial = corner K m Y.B }

    companion : CompanionAt Z.B (k - m) block
    unfolding block
    companion = let e : k - m + m ≡ k = omega (arith, fits) in record {
      some = some;
      monic = monic_of_monic K m _;
      unit = λ i t a b. unit_at i t a (omega arith);
      last = λ i l. at (k - m + i) (k - m + (m - 1)) (omega (arith, some)) (omega (arith, some))
          ∙ ap₂ Y.B (in_block (k - m + i) (omega arith) (omega arith) ∙ omega arith) (in_block (k - m + (m - 1)) (omega arith) (omega (arith, some)) ∙ omega arith)
          ∙ sym (ap ⊖◌ (monic_of_low K m _ i l) ∙ minus_minus K _);
      above = λ i t a b c. above_at i t a (omega arith) c;
      under = λ i t a b c. under_at i t a (omega arith) (omega arith);
    }

    next_window : Window K (k - m) Z.B
    next_window = record {
      right = λ i t a b. elim (dec_lt t k) [
        | yes g ↦ above_at i t b g a
        | no g ↦ elim (dec_lt t n) [
          | yes l ↦ at i t (omega arith) l ∙ ap₂ Y.B (in_window i a) (behind t (omega arith)) ∙ window.right (i + m) t (omega (arith, fits)) (omega arith)
          | no l ↦ z.B.columns i t (omega arith)
        ]
      ];
      down = λ i t a b. elim (dec_lt i k) [
        | yes g ↦ at i t (omega arith) (omega arith) ∙ ap₂ Y.B (in_block i a g) (in_window t b) ∙ s.flat.right (i - (k - m)) (t + m) (omega (arith, some, fits)) (omega arith)
        | no g ↦ elim (dec_lt i n) [
          | yes l ↦ at i t l (omega arith) ∙ ap₂ Y.B (behind i (omega arith)) (in_window t b) ∙ window.down i (t + m) (omega arith) (omega (arith, fits))
          | no l ↦ outside i t (omega arith)
        ]
      ];
    }

    -- the columns behind the window are as they were
    rest : (i t : ℕ) → k ≤ t → Z.B i t ≡ X.B i t
    unfolding σ
    rest i t g = elim (dec_lt i k) [
      | yes a ↦ elim (dec_lt t n) [
        | yes l ↦ at i t (omega arith) l ∙ ap (Y.B (σ i)) (behind t g) ∙ window.right (σ i) t (stays i a) g ∙ sym (x.window.right i t a g)
        | no l ↦ z.B.columns i t (omega arith) ∙ sym (x.window.right i t a g)
      ]
      | no a ↦ elim (dec_lt i n) [
        | yes l ↦ elim (dec_lt t n) [
          | yes h ↦ at i t l h ∙ ap₂ Y.B (behind i (omega arith)) (behind t g) ∙ s.change.rest i t (omega arith) g
          | no h ↦ z.B.columns i t (omega arith) ∙ sym (x.basis.within.columns i t (omega arith))
        ]
        | no l ↦ outside i t (omega arith) ∙ sym (x.basis.within.rows i t (omega arith))
      ]
    ]
      where
        stays : (i : ℕ) → i < k → σ i < k
        stays i a = rotation_below m k i fits a

    basis_Y : In K n A Y
    basis_Y = s.change.basis A x.basis

    dividing : (bs : List Block) → Top n A X.T k bs → Dividing block bs
    unfolding block
    dividing [] h = tt
    dividing (b ∷ bs) h = corner_divides K n m Y.B some (omega (arith, fits)) y.B s.headed.columns b.polynomial
        (kills_out_of_frame K n A Y b.polynomial 0 (omega (arith, some, fits)) basis_Y
        (kills_span K n k A b.polynomial X.T s.change.by Y.T s.change.span h 0 (omega (arith, some, fits))))

    T_column : (q : ℕ) → q < n → column K Y.T (σ q) ≡ column K Z.T q
    unfolding σ
    T_column q l = fun_ext (λ i. elim (dec_lt i n) [ yes g ↦ sym (r.T i q g l) | no g ↦ y.T.rows i (rotation m k q) (omega arith) ∙ sym (z.T.rows i q (omega arith)) ])

    pub stage_turn : Stage n (k - m) A Z
    unfolding block σ
    stage_turn = record {
      basis = (rotated_change K n m k k Y Z fits (omega arith) kn y z r).basis A basis_Y;
      window = next_window;
      blocks = block ∷ x.blocks;
      form = (companion, (dividing x.blocks x.top, subst (λ (o : ℕ). Form n Z.B o x.blocks) (omega (arith, fits)) (form_equal n X.B Z.B k k x.blocks (omega arith) rest x.form)));
      top = λ q l. subst (λ (v : Vector K). Kills K n A (corner K m Y.B) v) (T_column q (omega arith)) (s.kills A x.basis (rotation m k q) (rotation_below m k q fits (omega arith)));
    }
