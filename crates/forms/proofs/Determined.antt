-- Two answers that meet one promise are equal, but for P, Q, T and their inverses: of two analyses every byte is the same outside
-- the payloads of PL, PI, QR, QI, TB and TI.
use Rattle.std.specs.Prelude.{◌≡◌, refl, List, [], ◌∷◌, ℕ, zero, suc, ◌+◌, ◌<◌, T, ltb, length, drop, Result, Ok}
use Rattle.std.proofs.Common.{sym, ◌∙◌, ap, ap₂, subst, arith, drop_at}
use Rattle.std.proofs.Math.Decide.{ℕ_discrete}
use Rattle.std.proofs.Math.ListN.{get_or-append}
use Rattle.forms.specs.Numbers.{at, prime}
use Rattle.forms.specs.Answers.{Asked, fine, refuse, ask}
use Rattle.forms.specs.Certificate.{Certificate, payload, layout, size, offset, certificate_length}
use Rattle.forms.specs.Words.{Certified, LaidOut}
use Rattle.forms.specs.Operations.{analysis_asked, Analyses, Checks, Finds}
use Rattle.forms.specs.Reciprocals.{reciprocal_asked, InverseOf, Reciprocates}
use Rattle.forms.specs.Tests.{then_fine, ask_fine}
use Rattle.forms.specs.Primes.{prime_means}
use Rattle.forms.specs.Records.{laid_record}
use Rattle.forms.proofs.Records.{offset_within}
use Rattle.forms.proofs.Layouts.{layout_certificate_length, layout_at}
use Rattle.forms.proofs.Uniqueness.{frobenius_unique}
use Rattle.forms.specs.InversesModulo.{inverse_modulo_unique}
use Rattle.forms.specs.declared.Fault.{Fault}
use Rattle.forms.specs.declared.Refusal.{Refusal}
use Rattle.forms.specs.Determined.{DF_fixed, FB_fixed, Fixed, HD_fixed, MA_fixed, Output}

-- the check and finding
pub check_determined : (s : List ℕ) (x y : Result ℕ Fault) → Checks s x → Checks s y → x ≡ y
check_determined s x y g h = g.answered ∙ sym h.answered

pub finding_determined : (s m u v : List ℕ) → Finds s m u → Finds s m v → u ≡ v
finding_determined s m u v g h = g.answered ∙ sym h.answered

-- the reciprocal
inverse_determined : (p x r t : ℕ) → 1 < p → InverseOf p x r → InverseOf p x t → r ≡ t
inverse_determined p x r t l g h = elim (ℕ_discrete x 0) [
  | yes e ↦ g.of_zero e ∙ sym (h.of_zero e)
  | no e ↦ inverse_modulo_unique p x l r t g.small h.small (g.of_other (omega arith)) (h.of_other (omega arith))
]

reciprocal_prime : (p x : ℕ) → reciprocal_asked p x ≡ fine → T (prime p)
unfolding reciprocal_asked
reciprocal_prime p x e = ask_fine (prime p) 2 p (then_fine (ask (prime p) 2 p) (ask (ltb x p) 4 0) e).0

pub reciprocal_determined : (p x : ℕ) (a b : Result ℕ Refusal) → Reciprocates p x a → Reciprocates p x b → a ≡ b
reciprocal_determined p x a b g h = go (reciprocal_asked p x) refl
  where
    go : (s : Asked) → reciprocal_asked p x ≡ s → a ≡ b
    go (refuse number place) e = g.refused number place e ∙ sym (h.refused number place e)
    go fine e =
        let u = g.answered e in let v = h.answered e in
        u.1 ∙ ap Ok (inverse_determined p x u.0 v.0 (prime_means p (reciprocal_prime p x e)).large u.2 v.2) ∙ sym v.1

-- the analysis: number and place, and on a refusal every byte
module _ (p n : ℕ) (A before u v : List ℕ) (x y : Result ℕ Refusal) (g : Analyses p n A before u x) (h : Analyses p n A before v y) where
  pub analysis_same_answer : x ≡ y
  analysis_same_answer = go (analysis_asked p n A (length before)) refl
    where
      go : (s : Asked) → analysis_asked p n A (length before) ≡ s → x ≡ y
      go (refuse number place) e = (g.refused number place e).0 ∙ sym (h.refused number place e).0
      go fine e = (g.written e).0 ∙ sym (h.written e).0

  pub analysis_refused_same : (number place : ℕ) → analysis_asked p n A (length before) ≡ refuse number place → u ≡ v
  analysis_refused_same number place e = (g.refused number place e).1 ∙ sym (h.refused number place e).1

pub analysis_output : (p n : ℕ) (A before after : List ℕ) (x : Result ℕ Refusal) → Analyses p n A before after x → analysis_asked p n A (length before) ≡ fine
    → (c : Certificate) × Output n before after c × Certified p n A c
analysis_output p n A before after x g e = let w = (g.written e).1 in (w.0, record { laid = w.2; order = w.3.given.1; bytes = w.1 }, w.3)

module _ (n : ℕ) (before after : List ℕ) (c : Certificate) (o : Output n before after c) where
  written_length : length (layout c) ≡ certificate_length n
  written_length = layout_certificate_length c o.laid ∙ ap certificate_length o.order

  behind : drop (certificate_length n) after ≡ drop (certificate_length n) before
  behind = ap (drop (certificate_length n)) o.bytes ∙ drop_at (layout c) (drop (certificate_length n) before) (certificate_length n) written_length

  output_at : (k j : ℕ) → k < 10 → j < 4 + size n k → at after (offset n k + j) ≡ at (laid_record n k (payload c k)) j
  output_at k j l m =
      ap (λ (s : List ℕ). at s (offset n k + j)) o.bytes
      ∙ get_or-append (layout c) (drop (certificate_length n) before) 0 (offset n k + j) (let a = offset_within n k l in let b = written_length in omega arith)
      ∙ subst (λ (r : ℕ). j < 4 + size r k → at (layout c) (offset r k + j) ≡ at (laid_record r k (payload c k)) j) o.order (layout_at c o.laid k j l) m

module _ (n : ℕ) (before u v : List ℕ) (c d : Certificate) (g : Output n before u c) (h : Output n before v d) where
  pub outputs_same_behind : drop (certificate_length n) u ≡ drop (certificate_length n) v
  outputs_same_behind = behind n before u c g ∙ sym (behind n before v d h)

  -- every mark and every length
  pub outputs_same_head : (k j : ℕ) → k < 10 → j < 4 → at u (offset n k + j) ≡ at v (offset n k + j)
  outputs_same_head k j l m = output_at n before u c g k j l (omega arith) ∙ head j m ∙ sym (output_at n before v d h k j l (omega arith))
    where
      head : (j : ℕ) → j < 4 → at (laid_record n k (payload c k)) j ≡ at (laid_record n k (payload d k)) j
      head zero m = refl
      head (suc zero) m = refl
      head (suc (suc zero)) m = refl
      head (suc (suc (suc zero))) m = refl
      head (suc (suc (suc (suc j)))) m = absurd (omega arith)

  -- every byte of a record whose payloads are equal
  pub outputs_same_record : (k j : ℕ) → k < 10 → j < 4 + size n k → payload c k ≡ payload d k → at u (offset n k + j) ≡ at v (offset n k + j)
  outputs_same_record k j l m e =
      output_at n before u c g k j l m
      ∙ ap (λ (s : List ℕ). at (laid_record n k s) j) e
      ∙ sym (output_at n before v d h k j l m)

fixed_record : (k : ℕ) → Fixed k → k < 10
fixed_record _ HD_fixed = omega arith
fixed_record _ MA_fixed = omega arith
fixed_record _ DF_fixed = omega arith
fixed_record _ FB_fixed = omega arith

pub certified_same_payload : (p n : ℕ) (A : List ℕ) (c d : Certificate) → LaidOut c → LaidOut d → Certified p n A c → Certified p n A d → (k : ℕ) → Fixed k → payload c k ≡ payload d k
unfolding payload
certified_same_payload p n A c d x y g h _ HD_fixed = ap₂ (λ (x y : ℕ). x ∷ y ∷ []) (g.given.0 ∙ sym h.given.0) (g.given.1 ∙ sym h.given.1)
certified_same_payload p n A c d x y g h _ MA_fixed = g.given.2 ∙ sym h.given.2
certified_same_payload p n A c d x y g h _ DF_fixed = (frobenius_unique p n A c d x y g h).0
certified_same_payload p n A c d x y g h _ FB_fixed = (frobenius_unique p n A c d x y g h).1

-- what two analyses of one matrix may differ in is the payloads of P, Q, T and their inverses
pub analysis_same_bytes : (p n : ℕ) (A before u v : List ℕ) (x y : Result ℕ Refusal) → Analyses p n A before u x → Analyses p n A before v y → analysis_asked p n A (length before) ≡ fine
    → (drop (certificate_length n) u ≡ drop (certificate_length n) v)
    × ((k j : ℕ) → k < 10 → j < 4 → at u (offset n k + j) ≡ at v (offset n k + j))
    × ((k j : ℕ) → Fixed k → j < 4 + size n k → at u (offset n k + j) ≡ at v (offset n k + j))
analysis_same_bytes p n A before u v x y g h e =
    let a = analysis_output p n A before u x g e in let b = analysis_output p n A before v y h e in (
      outputs_same_behind n before u v a.0 b.0 a.1 b.1,
      outputs_same_head n before u v a.0 b.0 a.1 b.1,
      λ k j l m. outputs_same_record n before u v a.0 b.0 a.1 b.1 k j (fixed_record k l) m
          (certified_same_payload p n A a.0 b.0 a.1.laid b.1.laid a.2 b.2 k l),
    )
