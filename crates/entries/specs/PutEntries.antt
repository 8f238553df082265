-- Entries put into a line of the output that was filled with zeros: only the coefficients that can be other than zero are put, and all of them stand.
use Rattle.std.specs.Prelude.{◌≡◌, ℕ, ◌+◌, ◌*◌, ◌-◌, ◌≤◌, ◌<◌, length, take, drop, set, replicate}
use Rattle.std.proofs.Math.Path.{refl, sym, ap}
use Rattle.std.proofs.Common.{◌∙◌, ap₂, subst, add_comm, zero-mul, suc-mul, add-one, arith, length-append, length-drop, length-take-le, take_at, drop_at, ext_get_or}
use mathlib.Core.List.{List, ◌++◌, append_assoc}
use Rattle.std.proofs.lemmas.List.{length-replicate, get_or-replicate, replicate-append-replicate, append-nil}
use Rattle.std.proofs.Math.Decide.{dec_lt}
use Rattle.forms.specs.Numbers.{at}
use Rattle.forms.specs.Polynomials.{Coefficients}
use Rattle.forms.specs.Certificate.{joined}
use Rattle.forms.specs.Listed.{listed, listed_length, listed_at}
use Rattle.matrices.specs.Filling.{filled, fill_start, fill_turn, filled_inside, filled_outside}
use Rattle.writing.specs.Put.{put, Puts, middle_is_put}
use Rattle.entries.specs.PutRows.{joined_rows_length}

-- the coefficients of f are put into the entry, as far as they can be other than zero
pub record ShortPut (f : Coefficients) (before after : List ℕ) : Type 0 where
  pub many : ℕ
  pub few : many ≤ length before
  pub written : after ≡ filled many f before
  pub none : (k : ℕ) → many ≤ k → f k ≡ 0

-- nothing is put yet, one more coefficient, and the end
module _ (f : Coefficients) (before : List ℕ) where
  pub coefficients_none : {k : ℕ} → k ≡ 0 → before ≡ filled k f before
  coefficients_none e = rw e (fill_start before f)

  pub coefficients_more : (k : ℕ) {next place v : ℕ} {between : List ℕ} → between ≡ filled k f before → v ≡ f k → place ≡ k → next ≡ k + 1 → k < length before → set between place v ≡ filled next f before
  coefficients_more k e g q h l = rw (q, h) (fill_turn before k f l e g)

pub coefficients_end : {f : Coefficients} {before after : List ℕ} (k : ℕ) → after ≡ filled k f before → k ≤ length before → ((j : ℕ) → k ≤ j → f j ≡ 0) → ShortPut f before after
coefficients_end k e l z = record { many = k; few = l; written = e; none = z }

pub one_coefficient : {f : Coefficients} {before : List ℕ} {v : ℕ} → v ≡ f 0 → 1 ≤ length before → ((j : ℕ) → 1 ≤ j → f j ≡ 0) → ShortPut f before (set before 0 v)
one_coefficient {f} {before} e l z = coefficients_end 1 (fill_turn before 0 f l (fill_start before f) e) l z

abbrev pub zeros : ℕ → List ℕ
zeros n = replicate n 0

-- an entry of n zeros is all n coefficients afterwards
pub short_put_whole : {n : ℕ} {f : Coefficients} {after : List ℕ} → length after ≡ n → ShortPut f (zeros n) after → after ≡ listed n f
short_put_whole {n} {f} {after} e s = ext_get_or 0 after (listed n f) (e ∙ sym (listed_length n f)) (λ k l. ap (λ (x : List ℕ). at x k) s.written ∙ one k (omega arith) ∙ sym (listed_at n f k (omega arith)))
  where
    one : (k : ℕ) → k < n → at (filled s.many f (zeros n)) k ≡ f k
    one k l = elim (dec_lt k s.many) [
      | yes g ↦ filled_inside s.many f (zeros n) 0 k g
      | no g ↦ filled_outside s.many f (zeros n) 0 k (omega arith) ∙ get_or-replicate n k 0 0 l ∙ sym (s.none k (omega arith))
    ]

-- of xs, zs and rest, which were put at a place, zs is read and overwritten
module _ (d : List ℕ) (place : ℕ) (xs zs rest : List ℕ) {next : ℕ} (room : place ≤ length d) (e : next ≡ place + length xs) where
  abbrev front : List ℕ
  front = take place d ++ xs

  front_length : length front ≡ next
  front_length = length-append (take place d) xs ∙ ap (λ (x : ℕ). x + length xs) (length-take-le place d room) ∙ sym e

  abbrev back : List ℕ → List ℕ
  back ys = rest ++ drop (place + length (xs ++ (ys ++ rest))) d

  split : (ys : List ℕ) → put d place (xs ++ (ys ++ rest)) ≡ front ++ (ys ++ back ys)
  unfolding put
  split ys = simp append_assoc refl

  part_read : {n : ℕ} → length zs ≡ n → take n (drop next (put d place (xs ++ (zs ++ rest)))) ≡ zs
  part_read {n} h = rw (split zs, drop_at front (zs ++ back zs) next front_length) (take_at zs (back zs) n h)

  part_written : (ys : List ℕ) → length ys ≡ length zs → put (put d place (xs ++ (zs ++ rest))) next ys ≡ put d place (xs ++ (ys ++ rest))
  unfolding put
  part_written ys h =
      rw (split zs, split ys, take_at front (zs ++ back zs) next front_length, ← append_assoc front zs (back zs), drop_at (front ++ zs) (back zs) (next + length ys) (omega (arith, front_length, length-append front zs)))
      (append_assoc front ys (back zs) ∙ ap (λ (x : ℕ). front ++ (ys ++ (rest ++ drop (place + x) d))) (simp (length-append, h) refl))

-- the first c of n entries of n coefficients, and zeros for the others
pub line : (n : ℕ) → (ℕ → Coefficients) → ℕ → List ℕ
line n f c = joined c (λ i. listed n (f i)) ++ zeros ((n - c) * n)

module _ (n : ℕ) (f : ℕ → Coefficients) where
  abbrev done : ℕ → List ℕ
  done c = joined c (λ i. listed n (f i))

  done_length : (c : ℕ) → length (done c) ≡ c * n
  done_length = joined_rows_length n _ (λ i. listed_length n (f i))

  module _ (d : List ℕ) (place : ℕ) (room : place + n * n ≤ length d) where
    pub line_start : {many : ℕ} {zs : List ℕ} → many ≡ n * n → zs ≡ zeros (length (take many (drop place d))) → take place d ++ (zs ++ drop many (drop place d)) ≡ put d place (line n f 0)
    unfolding line joined
    line_start {many} e z =
        let whole : many ≡ (n - 0) * n = e ∙ ap (λ (x : ℕ). x * n) (omega arith) in
        let taken : length (take many (drop place d)) ≡ many = length-take-le many (drop place d) (omega (arith, length-drop place d)) in
        middle_is_put d place many _ _ (whole ∙ sym (length-replicate {A = ℕ} ((n - 0) * n) 0)) (z ∙ ap zeros (taken ∙ whole))

    module _ {c : ℕ} {out : List ℕ} (l : c < n) (e : out ≡ put d place (line n f c)) where
      abbrev later : List ℕ
      later = zeros ((n - (c + 1)) * n)

      one_more : zeros ((n - c) * n) ≡ zeros n ++ later
      one_more = ap zeros (ap (λ (x : ℕ). x * n) (omega arith) ∙ suc-mul (n - (c + 1)) n ∙ add_comm _ n) ∙ sym (replicate-append-replicate {A = ℕ} n ((n - (c + 1)) * n) 0)

      parts : out ≡ put d place (done c ++ (zeros n ++ later))
      unfolding line
      parts = e ∙ ap (λ (z : List ℕ). put d place (done c ++ z)) one_more

      starts : place + c * n ≡ place + length (done c)
      starts = ap (λ (x : ℕ). place + x) (sym (done_length c))

      pub line_zeros : {many : ℕ} → many ≡ n → take many (drop (place + c * n) out) ≡ zeros n
      line_zeros h = rw (h, parts) (part_read d place (done c) (zeros n) later (omega arith) starts (length-replicate {A = ℕ} n 0))

      pub line_turn : {many : ℕ} {entry : List ℕ} → many ≡ n → length entry ≡ length (take many (drop (place + c * n) out)) → ShortPut (f c) (take many (drop (place + c * n) out)) entry
          → take (place + c * n) out ++ (entry ++ drop many (drop (place + c * n) out)) ≡ put d place (line n f (c + 1))
      unfolding line joined
      line_turn {many} {entry} h kept s =
          let zero = line_zeros h in
          let whole = short_put_whole (kept ∙ ap length zero ∙ length-replicate {A = ℕ} n 0) (subst (λ (b : List ℕ). ShortPut (f c) b entry) zero s) in
          middle_is_put out (place + c * n) many (listed n (f c)) entry (h ∙ sym (listed_length n (f c))) whole ∙ ap (λ (o : List ℕ). put o (place + c * n) (listed n (f c))) parts
          ∙ part_written d place (done c) (zeros n) later (omega arith) starts (listed n (f c)) (listed_length n (f c) ∙ sym (length-replicate {A = ℕ} n 0))
          ∙ ap (put d place) (sym (append_assoc (done c) (listed n (f c)) later) ∙ ap (λ (x : ℕ). done x ++ later) (sym (add-one c)))

    pub line_end : {c : ℕ} {out : List ℕ} → c ≤ n → n ≤ c → out ≡ put d place (line n f c) → Puts place (done n) d out (place + n * n)
    unfolding line
    line_end {c} {out} a b e = record {
      written = e ∙ ap (put d place) (ap₂ (λ (x y : ℕ). done x ++ zeros y) (omega arith) (ap (λ (x : ℕ). x * n) (omega arith) ∙ zero-mul n) ∙ append-nil (done n));
      ends = ap (λ (x : ℕ). place + x) (sym (done_length n));
    }
