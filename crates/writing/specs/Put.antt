-- Bytes put into a list at an offset: what stands before and behind them is untouched, and puts one after the other are one.
use Rattle.std.specs.Prelude.{◌≡◌, List, [], ◌∷◌, ◌++◌, ℕ, suc, ◌+◌, ◌≤◌, ◌<◌, length, take, drop, set}
use Rattle.std.proofs.Common.{sym, ◌∙◌, ap, subst, append_assoc, add_assoc, add-one, arith, length-append, length-drop, length-take-le, take_at, drop_at, drop-drop}
use Rattle.std.proofs.Math.Seq.{paste-zero, append_snoc}
use Rattle.std.proofs.lemmas.List.{set_split}

unfoldable pub put : List ℕ → ℕ → List ℕ → List ℕ
put d at bytes = take at d ++ bytes ++ drop (at + length bytes) d

-- bytes are put at an offset, and next is where they end
pub record Puts (at : ℕ) (bytes before after : List ℕ) (next : ℕ) : Type 0 where
  pub written : after ≡ put before at bytes
  pub ends : next ≡ at + length bytes

pub length_put : (d : List ℕ) (at : ℕ) (bytes : List ℕ) → at + length bytes ≤ length d → length (put d at bytes) ≡ length d
unfolding put
length_put d at bytes h = simp (length-append, length-take-le at d (omega arith), length-drop) (omega arith)

pub put_put : (d : List ℕ) (at next : ℕ) (xs ys : List ℕ) → next ≡ at + length xs → at + length xs ≤ length d → put (put d at xs) next ys ≡ put d at (xs ++ ys)
unfolding put
put_put d at next xs ys e h =
    let p : List ℕ = take at d ++ xs in
    let l : length p ≡ next = simp (length-append, length-take-le at d (omega arith)) (sym e) in
    rw (← drop-drop (length ys) next, take_at p _ next l, drop_at p _ next l, drop-drop (length ys) (at + length xs) d, length-append xs ys, add_assoc) (simp append_assoc)

pub put_nothing : (d : List ℕ) (at : ℕ) → put d at [] ≡ d
unfolding put
put_nothing d at = sym (paste-zero d at [])

pub set_is_put : (d : List ℕ) (at byte : ℕ) → at < length d → set d at byte ≡ put d at (byte ∷ [])
unfolding put
set_is_put d at byte h = rw (add-one at) (set_split d at byte h ∙ sym (append_snoc (take at d) byte (drop (suc at) d)))

-- a part in the middle, overwritten, is a put
pub middle_is_put : (d : List ℕ) (at many : ℕ) (bytes part : List ℕ) → many ≡ length bytes → part ≡ bytes → take at d ++ (part ++ drop many (drop at d)) ≡ put d at bytes
unfolding put
middle_is_put d at many bytes part e f = rw (f, e, drop-drop (length bytes) at d) (sym (append_assoc (take at d) bytes (drop (at + length bytes) d)))

-- a put, and one more where it ended
pub puts_then : {at next end : ℕ} {xs ys before between after : List ℕ} → Puts at xs before between next → Puts next ys between after end → at + length xs ≤ length before → Puts at (xs ++ ys) before after end
puts_then {at} {next} {end} {xs} {ys} {before} p q h = record {
  written = q.written ∙ ap (λ (d : List ℕ). put d next ys) p.written ∙ put_put before at next xs ys p.ends h;
  ends = q.ends ∙ (let e = p.ends in let l = length-append xs ys in omega arith);
}

-- the same bytes
pub puts_bytes : {at next : ℕ} {xs ys before after : List ℕ} → xs ≡ ys → Puts at xs before after next → Puts at ys before after next
puts_bytes {at} {next} {before = before} {after = after} e p = subst (λ (x : List ℕ). Puts at x before after next) e p
