-- What the check accepts: exactly the layouts of certificates as demand 2 says; so it accepts what the analysis writes, and what it
-- accepts of A has the analysis's D and F.
use Rattle.std.specs.Prelude.{◌≡◌, ◌↔◌, List, ◌++◌, ℕ, length, drop, Result, Ok}
use Rattle.std.proofs.Common.{sym, ◌∙◌, ap, subst}
use Rattle.forms.specs.Answers.{fine}
use Rattle.forms.specs.Certificate.{Certificate, layout, certificate_length}
use Rattle.forms.specs.Reading.{certificate_of}
use Rattle.forms.specs.Rules.{rules, verdict}
use Rattle.forms.specs.Words.{Certified, LaidOut}
use Rattle.forms.specs.Operations.{analysis_asked, Analyses}
use Rattle.forms.specs.OneRecord.{Bytes}
use Rattle.forms.proofs.Layouts.{reading_laid_out, layout_of_reading, reading_of_layout, certificate_of_layout}
use Rattle.forms.proofs.Promises.{verdict_accepted, accepted_parts}
use Rattle.forms.proofs.RulesMean.{rules_mean}
use Rattle.forms.proofs.Uniqueness.{frobenius_unique}
use Rattle.forms.specs.declared.Refusal.{Refusal}
use Rattle.forms.specs.Verdicts.{CertificateBytes}

pub layout_accepted : (c : Certificate) → LaidOut c → Certified c.p c.n c.MA c → verdict (layout c) ≡ Ok (length (layout c))
layout_accepted c l h = verdict_accepted (layout c) (reading_of_layout c l) (ap rules (certificate_of_layout c l) ∙ (rules_mean c l).1 h)

pub accepted_certificate : (s : List ℕ) (z : ℕ) → Bytes s → verdict s ≡ Ok z → CertificateBytes s (certificate_of s)
accepted_certificate s z b e =
    let a = accepted_parts s z e in
    let l : LaidOut (certificate_of s) = reading_laid_out s a.0 in
    record { laid = l; certified = (rules_mean (certificate_of s) l).0 a.1; bytes = sym (layout_of_reading s a.0 b) }

-- the check accepts exactly the certificates, with the length read as its place
pub check_iff : (s : List ℕ) → Bytes s → (verdict s ≡ Ok (length s)) ↔ ((c : Certificate) × CertificateBytes s c)
check_iff s b = (
  (λ e. (certificate_of s, accepted_certificate s (length s) b e)),
  (λ h. subst (λ (t : List ℕ). verdict t ≡ Ok (length t)) (sym h.1.bytes) (layout_accepted h.0 h.1.laid h.1.certified)),
)

-- the analysis's certificate of A
pub analysis_certificate : (p n : ℕ) (A before after : List ℕ) (answer : Result ℕ Refusal) → Analyses p n A before after answer → analysis_asked p n A (length before) ≡ fine
    → (c : Certificate) × (after ≡ layout c ++ drop (certificate_length n) before) × LaidOut c × Certified p n A c
analysis_certificate p n A before after answer g e = (g.written e).1

-- the check accepts what the analysis writes
pub check_accepts_analysis : (p n : ℕ) (A before after : List ℕ) (answer : Result ℕ Refusal) (g : Analyses p n A before after answer) (e : analysis_asked p n A (length before) ≡ fine)
    → let c = (analysis_certificate p n A before after answer g e).0 in verdict (layout c) ≡ Ok (length (layout c))
check_accepts_analysis p n A before after answer g e =
    let w = analysis_certificate p n A before after answer g e in
    let c = w.0 in
    let h : Certified p n A c = w.3 in
    layout_accepted c w.2 (own c h)
  where
    own : (c : Certificate) → Certified p n A c → Certified c.p c.n c.MA c
    own c h = subst (λ (x : ℕ). Certified x c.n c.MA c) (sym h.given.0) (subst (λ (x : ℕ). Certified p x c.MA c) (sym h.given.1) (subst (λ (x : List ℕ). Certified p n x c) (sym h.given.2) h))

-- an accepted certificate of A has the analysis's D and F
pub accepted_has_analysis_forms : (p n : ℕ) (A before after : List ℕ) (answer : Result ℕ Refusal) (g : Analyses p n A before after answer) (e : analysis_asked p n A (length before) ≡ fine)
    → (s : List ℕ) (z : ℕ) → Bytes s → verdict s ≡ Ok z → (certificate_of s).p ≡ p → (certificate_of s).n ≡ n → (certificate_of s).MA ≡ A
    → let c = (analysis_certificate p n A before after answer g e).0 in ((certificate_of s).DF ≡ c.DF) × ((certificate_of s).FB ≡ c.FB)
accepted_has_analysis_forms p n A before after answer g e s z b v ep en eA =
    let w = analysis_certificate p n A before after answer g e in
    let a = accepted_certificate s z b v in
    let d = certificate_of s in
    frobenius_unique p n A d w.0 a.laid w.2
    (subst (λ (x : ℕ). Certified x n A d) ep (subst (λ (x : ℕ). Certified d.p x A d) en (subst (λ (x : List ℕ). Certified d.p d.n x d) eA a.certified))) w.3
