-- A row of a product: the sums of its entries side by side, and what is added to each of the first n.
use Rattle.std.specs.Prelude.{◌≡◌, refl, ◌≢◌, Bool, List, [], ℕ, ◌+◌, ◌*◌, ◌≤◌, ◌<◌, length, get_or, set, replicate}
use Rattle.std.proofs.Common.{sym, ◌∙◌, ap, add_assoc, arith, length-set, get_or-set_same, get_or-set_other}
use Rattle.std.proofs.Math.Decide.{ℕ_discrete}
use Rattle.std.proofs.lemmas.List.{get_or-replicate, length-replicate}
use Rattle.forms.specs.Numbers.{at, order_limit}
use Rattle.forms.specs.Polynomials.{Coefficients, convolution}
use Rattle.forms.specs.Matrices.{PolynomialEntries, polynomial_product}
use Rattle.forms.specs.Bounds.{Short, ShortEntries}
use Rattle.products.specs.Sums.{term_limit, product_limit, room, shifted, Plus, plus_nothing, products, products_none, products_more, products_skip, products_low, products_all}
use Rattle.products.specs.Products.{Holding, holding_is, same_modulo, partial, partial_none, partial_more, partial_all, partial_low, ByteEntries}

-- each of the first n entries has room for b more in every coefficient
pub record RoomFor (n b : ℕ) (line : List (List ℕ)) : Type 0 where
  pub long : length line ≡ order_limit
  pub entries_long : (j : ℕ) → j < n → length (get_or line j []) ≡ term_limit
  pub low : (j : ℕ) → j < n → (k : ℕ) → at (get_or line j []) k + b ≤ room

-- row l of a matrix, scaled by x and shifted, is added to a row
pub record ScalingLine (x shift l n : ℕ) (s : List ℕ) (line : List (List ℕ)) : Type 0 where
  pub byte : x ≤ 255
  pub inside : shift < n
  pub row : l < n
  pub right_long : length s ≡ n * n * n
  pub has_room : RoomFor n product_limit line

-- f times row l of a matrix is added to a row
pub record MultiplyingLine (l n : ℕ) (f t : List ℕ) (line : List (List ℕ)) : Type 0 where
  pub row : l < n
  pub left_long : length f ≡ n
  pub right_long : length t ≡ n * n * n
  pub has_room : RoomFor n (n * product_limit) line

-- after is line with f j added to the entry j for each j < n, and the entries behind as they were
pub record PlusLine (n : ℕ) (after line : List (List ℕ)) (f : ℕ → Coefficients) : Type 0 where
  pub long : length after ≡ length line
  pub each : (j : ℕ) → j < n → Plus (get_or after j []) (get_or line j []) (f j)
  pub rest : (j : ℕ) → n ≤ j → get_or after j [] ≡ get_or line j []

-- the first n entries are the coefficients f
pub record HoldingLine (n : ℕ) (line : List (List ℕ)) (f : ℕ → Coefficients) : Type 0 where
  pub long : length line ≡ order_limit
  pub each : (j : ℕ) → j < n → Holding (get_or line j []) (f j)

-- a test of an entry of the row is one of the coefficients that it holds
pub line_test : (p z n : ℕ) (line : List (List ℕ)) (f : ℕ → Coefficients) → HoldingLine n line f → (j : ℕ) → j < n → (g : Coefficients) (answer : Bool) → answer ≡ same_modulo p z (at (get_or line j [])) g → same_modulo p z (f j) g ≡ answer
line_test p z n line f h j l g answer e = sym (e ∙ ap (λ (x : Coefficients). same_modulo p z x g) (holding_is (h.each j l)))

-- the loop over the entries of a row: one more of them
pub line_more : (n : ℕ) (before line : List (List ℕ)) (f : ℕ → Coefficients) → PlusLine n line before f → n < length line → (sums : List ℕ) → Plus sums (get_or line n []) (f n) → PlusLine (n + 1) (set line n sums) before f
line_more n before line f h l sums p = record {
  long = simp length-set h.long;
  each = λ j m. elim (ℕ_discrete j n) [
    | yes e ↦ rw (e, get_or-set_same line n sums [] l) (rw (h.rest n (omega arith)) at p)
    | no o ↦ rw (get_or-set_other line n j sums [] o) (h.each j (omega arith))
  ];
  rest = λ j m. get_or-set_other line n j sums [] (omega arith) ∙ h.rest j (omega arith);
}

-- the next entry is as it was
pub line_ahead : (n m b : ℕ) (before line : List (List ℕ)) (f : ℕ → Coefficients) → PlusLine m line before f → m < n → RoomFor n b before → (length (get_or line m []) ≡ term_limit) × ((k : ℕ) → at (get_or line m []) k + b ≤ room)
line_ahead n m b before line f h l r = rw (h.rest m (omega arith)) (r.entries_long m l, r.low m l)

-- one entry is added to
pub line_one : (n i : ℕ) (line : List (List ℕ)) (f : ℕ → Coefficients) (sums : List ℕ) → i < n → i < length line → Plus sums (get_or line i []) (f i) → ((j k : ℕ) → j ≢ i → f j k ≡ 0) → PlusLine n (set line i sums) line f
line_one n i line f sums inside l p e = record {
  long = simp length-set;
  each = λ j m. elim (ℕ_discrete j i) [
    | yes q ↦ rw (q, get_or-set_same line i sums [] l) p
    | no o ↦ rw (get_or-set_other line i j sums [] o) (plus_nothing (get_or line j []) (f j) (λ k. e j k o))
  ];
  rest = λ j m. get_or-set_other line i j sums [] (omega arith);
}

-- two additions
pub line_then : (n : ℕ) (before line after : List (List ℕ)) (f g h : ℕ → Coefficients) → PlusLine n line before f → PlusLine n after line g → ((j k : ℕ) → f j k + g j k ≡ h j k) → PlusLine n after before h
line_then n before line after f g h p q e = record {
  long = q.long ∙ p.long;
  each = λ j l. record {
    long = (q.each j l).long ∙ (p.each j l).long;
    each = λ k. (q.each j l).each k ∙ ap (λ (x : ℕ). x + g j k) ((p.each j l).each k) ∙ add_assoc _ _ _ ∙ ap (λ (x : ℕ). at (get_or before j []) k + x) (e j k);
  };
  rest = λ j l. q.rest j l ∙ p.rest j l;
}

-- what is added takes its part of the room
pub line_room : (n b d : ℕ) (line after : List (List ℕ)) (f : ℕ → Coefficients) → PlusLine n after line f → ((j k : ℕ) → f j k ≤ b) → RoomFor n (b + d) line → RoomFor n d after
line_room n b d line after f p small r = record {
  long = p.long ∙ r.long;
  entries_long = λ j l. (p.each j l).long ∙ r.entries_long j l;
  low = λ j l k. omega (arith, (p.each j l).each k, small j k, r.low j l k);
}

-- the loop over the coefficients of f, which adds f times each g j
module _ (n : ℕ) (f : Coefficients) (g : ℕ → Coefficients) where
  pub line_products_none : (line : List (List ℕ)) → PlusLine n line line (λ j. products 0 f (g j))
  line_products_none line = record { long = refl; each = λ j l. products_none f (g j) _; rest = λ j l. refl }

  module _ (m : ℕ) (before line : List (List ℕ)) (h : PlusLine n line before (λ j. products m f (g j))) where
    pub line_products_more : (x : ℕ) → x ≡ f m → (after : List (List ℕ)) → PlusLine n after line (λ j k. x * shifted m (g j) k) → PlusLine n after before (λ j. products (m + 1) f (g j))
    line_products_more x e after q = record {
      long = q.long ∙ h.long;
      each = λ j l. products_more f (g j) m _ _ (h.each j l) x e _ (q.each j l);
      rest = λ j l. q.rest j l ∙ h.rest j l;
    }

    pub line_products_skip : f m ≡ 0 → PlusLine n line before (λ j. products (m + 1) f (g j))
    line_products_skip e = record { long = h.long; each = λ j l. products_skip f (g j) m _ _ (h.each j l) e; rest = h.rest }

    -- there is room for the next product
    pub line_products_room : ((i : ℕ) → f i ≤ 255) → ((j i : ℕ) → g j i ≤ 255) → m < n → RoomFor n (n * product_limit) before → RoomFor n product_limit line
    line_products_room x y l r = record {
      long = h.long ∙ r.long;
      entries_long = λ j i. (h.each j i).long ∙ r.entries_long j i;
      low = λ j i. products_low f (g j) m _ _ (h.each j i) x (y j) n l (r.low j i);
    }

    pub line_products_all : m ≤ n → n ≤ m → Short n f → PlusLine n line before (λ j. convolution f (g j))
    line_products_all a b short = record { long = h.long; each = λ j l. products_all f (g j) m _ _ (h.each j l) n a b short; rest = h.rest }

-- the loop over the inner index, which sums row i of P Q
module _ (P Q : PolynomialEntries) (n i : ℕ) where
  pub line_partial_none : n ≤ order_limit → HoldingLine n (replicate order_limit (replicate {A = ℕ} term_limit 0)) (partial 0 P Q i)
  line_partial_none order = record {
    long = length-replicate order_limit (replicate {A = ℕ} term_limit 0);
    each = λ j l. rw (get_or-replicate order_limit j (replicate {A = ℕ} term_limit 0) [] (omega arith)) (partial_none P Q i j);
  }

  module _ (l : ℕ) (line : List (List ℕ)) (h : HoldingLine n line (partial l P Q i)) where
    pub line_partial_more : (after : List (List ℕ)) (f : Coefficients) → f ≡ P i l → PlusLine n after line (λ j. convolution f (Q l j)) → HoldingLine n after (partial (l + 1) P Q i)
    line_partial_more after f e q = record { long = q.long ∙ h.long; each = λ j m. partial_more P Q i j l _ _ (h.each j m) f e (q.each j m) }

    pub line_partial_all : l ≤ n → n ≤ l → HoldingLine n line (polynomial_product n P Q i)
    line_partial_all a b = record { long = h.long; each = λ j m. partial_all P Q i j n l _ a b (h.each j m) }

    -- there is room for the next product of an entry and a row
    pub line_partial_room : ShortEntries n P → ByteEntries P → ByteEntries Q → n ≤ order_limit → l ≤ n → RoomFor n (n * product_limit) line
    line_partial_room short x y order inside = record {
      long = h.long;
      entries_long = λ j m. (h.each j m).long;
      low = λ j m. partial_low P Q n l i j _ short x y order inside (h.each j m);
    }
