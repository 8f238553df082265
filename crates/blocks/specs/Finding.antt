-- What finding promises to C: how long the part is and where in the certificate it starts, 0 and 0 where it is empty.
use Rattle.std.specs.Prelude.{◌≡◌, Bool, true, false, cond, not, List, [], ◌∷◌, ℕ, zero, suc, ◌+◌, ◌≤◌, ◌<◌, T, eqb, take, drop, Some, None}
use Rattle.std.proofs.Math.Path.{refl, sym, ap}
use Rattle.std.proofs.Common.{◌∙◌, ap₂, subst, arith, eqb→eq, T_not}
use Rattle.std.proofs.Math.Decide.{ℕ_discrete}
use Rattle.std.proofs.Math.Dec.{eqb_refl}
use Rattle.std.proofs.Math.ListN.{length}
use Rattle.forms.specs.Numbers.{at}
use Rattle.forms.specs.Answers.{Asked, fine, refuse}
use Rattle.forms.specs.Certificate.{mark, size, offset, part}
use Rattle.forms.specs.Reading.{reading}
use Rattle.forms.specs.Operations.{is_mark, part_marked, part_found, Finds}
use Rattle.forms.specs.Tests.{cond_fails}
use Rattle.forms.proofs.Findings.{marks_differ, nothing_found}
use Rattle.certificate.specs.Numbering.{number_of, number_small}
use Rattle.certificate.specs.declared.records.Record.{Record}
use Rattle.finding.specs.Found.{Marks, is_the_mark, found_not_empty}

-- where the part starts that m marks, among the first k records; 0 where it marks none
unfoldable pub start_marked : ℕ → List ℕ → List ℕ → ℕ
start_marked zero s m = 0
start_marked (suc k) s m = cond (is_mark m k) (offset (at s 5) k + 4) (start_marked k s m)

unfoldable pub start_found : Asked → List ℕ → List ℕ → ℕ
start_found fine s m = start_marked 10 s m
start_found (refuse number place) s m = 0

pub record PlacedFinding (s m : List ℕ) (start many : ℕ) : Type 0 where
  pub start_is : start ≡ start_found (reading s) s m
  pub many_is : many ≡ length (part_found (reading s) s m)

pub placed_finding_determined : (s m : List ℕ) (a b x y : ℕ) → PlacedFinding s m a x → PlacedFinding s m b y → (a ≡ b) × (x ≡ y)
placed_finding_determined s m a b x y g h = (g.start_is ∙ sym h.start_is, g.many_is ∙ sym h.many_is)

take_length_take : (z : ℕ) (s : List ℕ) → take (length (take z s)) s ≡ take z s
take_length_take zero s = refl
take_length_take (suc z) [] = refl
take_length_take (suc z) (x ∷ s) = ap (λ (l : List ℕ). x ∷ l) (take_length_take z s)

part_from_start : (s m : List ℕ) (r : ℕ) → take (length (part_marked r s m)) (drop (start_marked r s m) s) ≡ part_marked r s m
unfolding part_marked start_marked part
part_from_start s m zero = refl
part_from_start s m (suc r) = go (is_mark m r) (part_from_start s m r)
  where
    go : (b : Bool) → take (length (part_marked r s m)) (drop (start_marked r s m) s) ≡ part_marked r s m
        → take (length (cond b (part (at s 5) r s) (part_marked r s m))) (drop (cond b (offset (at s 5) r + 4) (start_marked r s m)) s) ≡ cond b (part (at s 5) r s) (part_marked r s m)
    go true h = take_length_take (size (at s 5) r) (drop (offset (at s 5) r + 4) s)
    go false h = h

-- the bytes from start on, as many, are what finding answers
pub placed_part : (s m : List ℕ) (start many : ℕ) → PlacedFinding s m start many → take many (drop start s) ≡ part_found (reading s) s m
unfolding start_found part_found
placed_part s m start many h = ap₂ (λ (x y : ℕ). take x (drop y s)) h.many_is h.start_is ∙ go (reading s)
  where
    go : (q : Asked) → take (length (part_found q s m)) (drop (start_found q s m) s) ≡ part_found q s m
    go fine = part_from_start s m 10
    go (refuse number place) = refl

start_of_mark : (s : List ℕ) (k : ℕ) → k < 10 → (r : ℕ) → k < r → r ≤ 10 → start_marked r s (mark k) ≡ offset (at s 5) k + 4
unfolding start_marked
start_of_mark s k l zero a b = absurd (omega arith)
start_of_mark s k l (suc r) a b = go (is_mark (mark k) r) (marks_differ k r l (omega arith)) (λ m. start_of_mark s k l r m (omega arith))
  where
    go : (b : Bool) → T (cond b (eqb k r) (not (eqb k r))) → (k < r → start_marked r s (mark k) ≡ offset (at s 5) k + 4) → cond b (offset (at s 5) r + 4) (start_marked r s (mark k)) ≡ offset (at s 5) k + 4
    go true t h = ap (λ (x : ℕ). offset (at s 5) x + 4) (sym (eqb→eq k r t))
    go false t h = h (elim (ℕ_discrete k r) [
      | yes e ↦ absurd (T_not (eqb k r) t (subst (λ (x : ℕ). T (eqb k x)) e (eqb_refl k)))
      | no e ↦ omega arith
    ])

start_of_none : (s m : List ℕ) (r : ℕ) → ((k : ℕ) → k < r → T (is_mark m k) → ⊥) → start_marked r s m ≡ 0
unfolding start_marked
start_of_none s m zero h = refl
start_of_none s m (suc r) h = cond_fails (is_mark m r) (offset (at s 5) r + 4) (start_marked r s m) (h r (omega arith)) ∙ start_of_none s m r (λ k l. h k (omega arith))

module _ (s m found : List ℕ) (finds : Finds s m found) where
  pub found_nothing : length found ≡ 0 → PlacedFinding s m 0 0
  unfolding start_found
  found_nothing e = record { start_is = sym (go (reading s) refl); many_is = sym (ap length (sym finds.answered) ∙ e) }
    where
      go : (q : Asked) → reading s ≡ q → start_found q s m ≡ 0
      go fine f = start_of_none s m 10 (λ k l t. let h = found_not_empty s m found finds f k l t in omega arith)
      go (refuse number place) f = refl

  pub found_unmarked : Marks m None → PlacedFinding s m 0 0
  found_unmarked h = found_nothing (ap length (finds.answered ∙ nothing_found s m h))

  pub found_something : (kind : Record) → Marks m (Some kind) → (length found ≡ 0 → ⊥) → {start many : ℕ} → start ≡ offset (at s 5) (number_of kind) + 4 → many ≡ length found → PlacedFinding s m start many
  unfolding part_found start_found
  found_something kind marks some e f = record { start_is = e ∙ go (reading s) refl; many_is = f ∙ ap length finds.answered }
    where
      go : (q : Asked) → reading s ≡ q → offset (at s 5) (number_of kind) + 4 ≡ start_found q s m
      go fine r = sym (ap (start_marked 10 s) (is_the_mark m (number_of kind) (number_small kind) marks) ∙ start_of_mark s (number_of kind) (number_small kind) 10 (number_small kind) (omega arith))
      go (refuse number place) r = absurd (some (ap length (finds.answered ∙ ap (λ (q : Asked). part_found q s m) r)))
