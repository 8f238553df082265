-- Entries put into an output that is zero there, as statements of the whole output: what stands before and behind them stays.
use Rattle.std.specs.Prelude.{◌≡◌, ℕ, zero, suc, ◌+◌, ◌*◌, ◌-◌, ◌≤◌, ◌<◌, length, take, drop, set, get_or, replicate}
use Rattle.std.proofs.Math.Path.{sym, ap}
use Rattle.std.proofs.Common.{◌∙◌, ap₂, subst, add-zero, suc-mul, mul-le-mul, add-one, arith, length-append, length-take-le, take_at, drop_at, get_or-append-add, get_or-drop, get_or-take}
use mathlib.Core.List.{List, [], ◌∷◌, ◌++◌, append_assoc}
use Rattle.std.proofs.lemmas.List.{length-replicate, get_or-replicate, set-get_or}
use Rattle.std.proofs.Math.ListN.{get_or-append}
use Rattle.forms.specs.Numbers.{at}
use Rattle.forms.specs.Polynomials.{Coefficients}
use Rattle.forms.specs.Certificate.{joined}
use Rattle.forms.specs.Listed.{listed, listed_length}
use Rattle.writing.specs.Put.{put, Puts, length_put, put_put, put_nothing, set_is_put, puts_then, puts_bytes}
use Rattle.entries.specs.Listing.{listed_append}
use Rattle.entries.specs.PutRows.{joined_rows_length}

-- the coefficients of f are put at start, as far as they can be other than zero; n would have room
pub record ShortPut (start n : ℕ) (f : Coefficients) (before after : List ℕ) : Type 0 where
  pub many : ℕ
  pub few : many ≤ n
  pub written : after ≡ put before start (listed many f)
  pub none : (k : ℕ) → many ≤ k → f k ≡ 0

listed_more : (k : ℕ) (f : Coefficients) → listed (k + 1) f ≡ listed k f ++ (f k ∷ [])
unfolding listed
listed_more k f = listed_append k 1 f ∙ ap (λ (x : ℕ). listed k f ++ (f x ∷ [])) (add-zero k)

-- nothing is put yet, one more coefficient, and the end
module _ (f : Coefficients) {start : ℕ} {before : List ℕ} where
  pub coefficients_none : Puts start (listed 0 f) before before start
  unfolding listed
  coefficients_none = record { written = sym (put_nothing before start); ends = sym (add-zero start) }

  pub coefficients_more : {k next end v : ℕ} {between after : List ℕ} → Puts start (listed k f) before between next → v ≡ f k → Puts next (v ∷ []) between after end → start + k ≤ length before → Puts start (listed (k + 1) f) before after end
  coefficients_more {k} p e q l = puts_bytes (ap (λ (x : ℕ). listed k f ++ (x ∷ [])) e ∙ sym (listed_more k f)) (puts_then p q (omega (arith, listed_length k f)))

  pub coefficients_next : (k : ℕ) {next : ℕ} {between : List ℕ} → Puts start (listed k f) before between next → next ≡ start + k
  coefficients_next k p = p.ends ∙ ap (λ (x : ℕ). start + x) (listed_length k f)

  pub coefficients_end : {n k next : ℕ} {after : List ℕ} → Puts start (listed k f) before after next → k ≤ n → ((j : ℕ) → k ≤ j → f j ≡ 0) → ShortPut start n f before after
  coefficients_end {n} {k} p l z = record { many = k; few = l; written = p.written; none = z }

  pub one_coefficient : {n next v : ℕ} {after : List ℕ} → Puts start (v ∷ []) before after next → v ≡ f 0 → 1 ≤ n → start ≤ length before → ((j : ℕ) → 1 ≤ j → f j ≡ 0) → ShortPut start n f before after
  one_coefficient p e l r z = coefficients_end (coefficients_more coefficients_none e p (omega arith)) l z

-- behind what was put all is as before
pub put_beyond : (d : List ℕ) (start : ℕ) (xs : List ℕ) (k : ℕ) → start + length xs ≤ length d → at (put d start xs) (start + length xs + k) ≡ at d (start + length xs + k)
unfolding put
put_beyond d start xs k h =
    let p : List ℕ = take start d ++ xs in
    let l : length p ≡ start + length xs = length-append (take start d) xs ∙ ap (λ (x : ℕ). x + length xs) (length-take-le start d (omega arith)) in
    ap (λ (i : ℕ). get_or (p ++ drop (start + length xs) d) (i + k) 0) (sym l) ∙ get_or-append-add p (drop (start + length xs) d) k 0 ∙ get_or-drop (start + length xs) d k 0

-- the n bytes from start on are zero
pub record Zeros (start n : ℕ) (out : List ℕ) : Type 0 where
  pub room : start + n ≤ length out
  pub zero_at : (k : ℕ) → k < n → at out (start + k) ≡ 0

module _ (start n : ℕ) (f : Coefficients) (before : List ℕ) (zeros : Zeros start n before) where
  one_zero : (m : ℕ) → m < n → f m ≡ 0 → put before start (listed (m + 1) f) ≡ put before start (listed m f)
  one_zero m l z =
      let e = listed_length m f in
      let r = zeros.room in
      let whole = length_put before start (listed m f) (omega arith) in
      let same : at (put before start (listed m f)) (start + m) ≡ 0 = ap (at (put before start (listed m f))) (omega arith) ∙ put_beyond before start (listed m f) 0 (omega arith) ∙ ap (at before) (omega arith) ∙ zeros.zero_at m l in
      ap (put before start) (listed_more m f) ∙ sym (put_put before start (start + m) (listed m f) (f m ∷ []) (omega arith) (omega arith))
      ∙ sym (set_is_put (put before start (listed m f)) (start + m) (f m) (omega arith))
      ∙ ap (set (put before start (listed m f)) (start + m)) (z ∙ sym same) ∙ set-get_or (put before start (listed m f)) (start + m) 0

  more_zeros : (m d : ℕ) → m + d ≤ n → ((k : ℕ) → m ≤ k → f k ≡ 0) → put before start (listed (m + d) f) ≡ put before start (listed m f)
  more_zeros m zero l z = ap (λ (x : ℕ). put before start (listed x f)) (add-zero m)
  more_zeros m (suc d) l z = ap (λ (x : ℕ). put before start (listed x f)) (omega arith) ∙ one_zero (m + d) (omega arith) (z (m + d) (omega arith)) ∙ more_zeros m d (omega arith) z

  -- where it was zero, all n coefficients stand
  pub short_put_whole : {after : List ℕ} → ShortPut start n f before after → Puts start (listed n f) before after (start + n)
  short_put_whole s = record {
    written = s.written ∙ sym (ap (λ (x : ℕ). put before start (listed x f)) (let l = s.few in omega arith) ∙ more_zeros s.many (n - s.many) (let l = s.few in omega arith) s.none);
    ends = ap (λ (x : ℕ). start + x) (sym (listed_length n f));
  }

-- what was put first is lost where as much is put again
pub put_again : (d : List ℕ) (start : ℕ) (xs ys : List ℕ) → length xs ≡ length ys → start ≤ length d → put (put d start xs) start ys ≡ put d start ys
unfolding put
put_again d start xs ys e l =
    let t : length (take start d) ≡ start = length-take-le start d l in
    let p : List ℕ = take start d ++ xs in
    let q : length p ≡ start + length ys = length-append (take start d) xs ∙ ap₂ ◌+◌ t e in
    ap₂ (λ (a b : List ℕ). a ++ ys ++ b)
    (ap (take start) (append_assoc (take start d) xs (drop (start + length xs) d)) ∙ take_at (take start d) (xs ++ drop (start + length xs) d) start t)
    (drop_at p (drop (start + length xs) d) (start + length ys) q ∙ ap (λ (x : ℕ). drop (start + x) d) e)

-- zeros put at start
zeros_put : (d : List ℕ) (start m size : ℕ) → m ≤ size → start + m ≤ length d → Zeros start m (put d start (take m (replicate size 0)))
unfolding put
zeros_put d start m size l h =
    let zs : List ℕ = take m (replicate size 0) in
    let many : length zs ≡ m = length-take-le m (replicate size 0) (omega (arith, length-replicate {A = ℕ} size 0)) in
    let front : length (take start d) ≡ start = length-take-le start d (omega arith) in
    record {
      room = omega (arith, length_put d start zs (omega arith));
      zero_at = λ k g. ap (λ (x : List ℕ). get_or x (start + k) 0) (append_assoc (take start d) zs (drop (start + length zs) d))
          ∙ ap (λ (x : ℕ). get_or (take start d ++ (zs ++ drop (start + length zs) d)) (x + k) 0) (sym front) ∙ get_or-append-add (take start d) (zs ++ drop (start + length zs) d) k 0
          ∙ get_or-append zs (drop (start + length zs) d) 0 k (omega arith) ∙ get_or-take m (replicate size 0) k 0 g ∙ get_or-replicate size k 0 0 (omega arith);
    }

pub zeros_there : (size : ℕ) {start m end : ℕ} {d out : List ℕ} → Puts start (take m (replicate size 0)) d out end → m ≤ size → start + m ≤ length d → Zeros start m out
zeros_there size {start} {m} {end} {d} p l h = subst (Zeros start m) (sym p.written) (zeros_put d start m size l h)

-- a line of m entries of n bytes, put over zeros one after the other
pub line_start : (t : ℕ → List ℕ) (start : ℕ) (before : List ℕ) → before ≡ put before start (joined 0 t)
unfolding joined
line_start t start before = sym (put_nothing before start)

module _ (t : ℕ → List ℕ) (m : ℕ) {start n : ℕ} {before : List ℕ} (long : (i : ℕ) → length (t i) ≡ n) (zeros : Zeros start (m * n) before) where
  module _ {c : ℕ} {out : List ℕ} (l : c < m) (line : out ≡ put before start (joined c t)) where
    many : length (joined c t) ≡ c * n
    many = joined_rows_length n t long c

    inside : c * n + n ≤ m * n
    inside = let f = suc-mul c n in let h : suc c * n ≤ m * n = mul-le-mul {n₁ = suc c} {m₁ = n} {n₂ = m} {m₂ = n} l (omega arith) in omega arith

    whole : length out ≡ length before
    whole = ap length line ∙ length_put before start (joined c t) (let r = zeros.room in let h = inside in let w = many in omega arith)

    pub line_zeros : Zeros (start + c * n) n out
    line_zeros =
        let w = many in let h = inside in let r = zeros.room in let e = whole in
        record {
          room = omega arith;
          zero_at = λ k g. ap (λ (s : List ℕ). at s (start + c * n + k)) line ∙ ap (at (put before start (joined c t))) (omega arith)
              ∙ put_beyond before start (joined c t) k (omega arith) ∙ ap (at before) (omega arith) ∙ zeros.zero_at (c * n + k) (omega arith);
        }

    pub line_turn : {after : List ℕ} {end : ℕ} → Puts (start + c * n) (t c) out after end → after ≡ put before start (joined (c + 1) t)
    unfolding joined
    line_turn more =
        let w = many in let h = inside in let r = zeros.room in
        more.written ∙ ap (λ (d : List ℕ). put d (start + c * n) (t c)) line ∙ put_put before start (start + c * n) (joined c t) (t c) (omega arith) (omega arith)
        ∙ ap (λ (x : ℕ). put before start (joined x t)) (sym (add-one c))

-- all m entries, over zeros that were put there
pub line_end : (t : ℕ → List ℕ) {start m n c end : ℕ} (zs : List ℕ) {d between out : List ℕ} → ((i : ℕ) → length (t i) ≡ n) → length zs ≡ m * n → start + m * n ≤ length d → c ≤ m → m ≤ c
    → Puts start zs d between end → out ≡ put between start (joined c t) → Puts start (joined m t) d out end
line_end t {start} {m} {n} {c} {end} zs {d} long many room a b first line =
    let w = joined_rows_length n t long m in
    record {
      written = line ∙ ap₂ (λ (y : List ℕ) (x : ℕ). put y start (joined x t)) first.written (omega arith) ∙ put_again d start zs (joined m t) (omega arith) (omega arith);
      ends = first.ends ∙ ap (λ (x : ℕ). start + x) (omega arith);
    }
