-- Finding: each mark finds the payload of its own record, which is never empty, and what is no mark finds nothing.
use Rattle.std.specs.Prelude.{◌≡◌, refl, Bool, true, false, cond, not, List, [], ℕ, zero, suc, ◌*◌, ◌≤◌, ◌<◌, T, eqb, length}
use Rattle.std.proofs.Common.{sym, ◌∙◌, ap, subst, mul-pos, arith, eqb→eq, T_not}
use Rattle.std.proofs.Math.Decide.{ℕ_discrete}
use Rattle.std.proofs.Math.Dec.{eqb_refl}
use Rattle.forms.specs.Numbers.{at, every}
use Rattle.forms.specs.Answers.{Asked, fine, refuse}
use Rattle.forms.specs.Certificate.{Certificate, mark, payload, layout, size, part}
use Rattle.forms.specs.Reading.{reading}
use Rattle.forms.specs.Words.{LaidOut}
use Rattle.forms.specs.Operations.{is_mark, part_marked, part_found}
use Rattle.forms.specs.Tests.{every_at, cond_fails}
use Rattle.forms.proofs.Records.{ten_cases}
use Rattle.forms.proofs.Payloads.{payload_length}
use Rattle.forms.proofs.Layouts.{reading_of_layout, part_there}
use Rattle.forms.specs.Findings.{same_mark}

pub marks_differ : (i k : ℕ) → i < 10 → k < 10 → T (same_mark i k)
unfolding mark every
marks_differ i k l m = every_at 10 (same_mark i) (every_at 10 (λ i. every 10 (same_mark i)) tt i l) k m

part_of_mark : (s : List ℕ) (k : ℕ) → k < 10 → (r : ℕ) → k < r → r ≤ 10 → part_marked r s (mark k) ≡ part (at s 5) k s
unfolding part_marked
part_of_mark s k l zero a b = absurd (omega arith)
part_of_mark s k l (suc r) a b = elim (ℕ_discrete k r) [
  | yes e ↦ go_same (is_mark (mark k) r) (marks_differ k r l (omega arith)) e
  | no e ↦ go_other (is_mark (mark k) r) (marks_differ k r l (omega arith)) e (part_of_mark s k l r (omega arith) (omega arith))
]
  where
    go_same : (b : Bool) → T (cond b (eqb k r) (not (eqb k r))) → k ≡ r → cond b (part (at s 5) r s) (part_marked r s (mark k)) ≡ part (at s 5) k s
    go_same true t e = ap (λ (x : ℕ). part (at s 5) x s) (sym e)
    go_same false t e = absurd (T_not (eqb k r) t (subst (λ (x : ℕ). T (eqb k x)) e (eqb_refl k)))

    go_other : (b : Bool) → T (cond b (eqb k r) (not (eqb k r))) → (k ≡ r → ⊥) → part_marked r s (mark k) ≡ part (at s 5) k s → cond b (part (at s 5) r s) (part_marked r s (mark k)) ≡ part (at s 5) k s
    go_other true t h q = absurd (h (eqb→eq k r t))
    go_other false t h q = q

pub found_by_mark : (s : List ℕ) (k : ℕ) → k < 10 → reading s ≡ fine → part_found (reading s) s (mark k) ≡ part (at s 5) k s
unfolding part_found
found_by_mark s k l e = ap (λ (r : Asked). part_found r s (mark k)) e ∙ part_of_mark s k l 10 l (omega arith)

pub found_in_layout : (c : Certificate) → LaidOut c → (k : ℕ) → k < 10 → part_found (reading (layout c)) (layout c) (mark k) ≡ payload c k
found_in_layout c h k l = found_by_mark (layout c) k l (reading_of_layout c h) ∙ part_there c h k l

nothing_marked : (s m : List ℕ) (r : ℕ) → ((k : ℕ) → k < r → T (is_mark m k) → ⊥) → part_marked r s m ≡ []
unfolding part_marked
nothing_marked s m zero h = refl
nothing_marked s m (suc r) h = cond_fails (is_mark m r) (part (at s 5) r s) (part_marked r s m) (h r (omega arith)) ∙ nothing_marked s m r (λ k l. h k (omega arith))

pub nothing_found : (s m : List ℕ) → ((k : ℕ) → k < 10 → T (is_mark m k) → ⊥) → part_found (reading s) s m ≡ []
unfolding part_found
nothing_found s m h = go (reading s)
  where
    go : (r : Asked) → part_found r s m ≡ []
    go fine = nothing_marked s m 10 h
    go (refuse number place) = refl

size_positive : (n : ℕ) → 1 ≤ n → (k : ℕ) → k < 10 → 0 < size n k
unfolding size
size_positive n l =
    let two : 0 < n * n = mul-pos l l in let three : 0 < n * n * n = mul-pos two l in
    ten_cases (λ k. 0 < size n k) (omega arith) two (mul-pos l (omega arith)) three three three three two two two

pub payload_not_empty : (c : Certificate) → LaidOut c → (k : ℕ) → k < 10 → 0 < length (payload c k)
payload_not_empty c h k l = let e = payload_length c h k l in let q = size_positive c.n h.low k l in omega arith
