-- How a promise is met: from the answer and the bytes alone, its number and place follow.
use Rattle.std.specs.Prelude.{◌≡◌, refl, List, ◌++◌, ℕ, suc, length, drop, Result, Ok, Err}
use Rattle.std.proofs.Common.{sym, ◌∙◌, ap, subst, arith}
use Rattle.forms.specs.Answers.{Asked, fine, refuse, ◌then◌, asked_number, asked_place, reason_number, reason_of, refusal_of, refused_by, analysed_number, analysed_place, verdict_number, verdict_place, reciprocal_number, reciprocal_value}
use Rattle.forms.specs.Certificate.{Certificate, layout, certificate_length}
use Rattle.forms.specs.Reading.{reading, certificate_of}
use Rattle.forms.specs.Rules.{rule, rules, verdict_of, verdict}
use Rattle.forms.specs.Words.{Certified, LaidOut}
use Rattle.forms.specs.Operations.{analysis_asked, Analyses, Checks}
use Rattle.forms.specs.Reciprocals.{reciprocal_asked, InverseOf, Reciprocates}
use Rattle.forms.specs.Tests.{refuse_not_fine, each_number}
use Rattle.forms.proofs.Reasons.{refused_is, Reasoned, analysis_reasoned, reading_reasoned, reciprocal_reasoned}
use Rattle.forms.specs.declared.Refusal.{Refusal}
use Rattle.forms.specs.declared.Fault.{Fault}
use Rattle.forms.specs.declared.Fault.TheVariants.{Form, Rule}

-- the analysis
module _ (p n : ℕ) (A before after : List ℕ) (answer : Result ℕ Refusal) where
  pub analyses_refused : (refusal : Refusal) → analysis_asked p n A (length before) ≡ refused_by refusal → answer ≡ Err refusal → after ≡ before → Analyses p n A before after answer
  analyses_refused r e a b = record {
    refused = λ x y q. (a ∙ ap Err (refused_is r x y (sym e ∙ q)), b);
    written = λ q. absurd (refuse_not_fine (reason_number r.reason) r.place (sym e ∙ q));
    number = ap analysed_number a ∙ ap asked_number (sym e);
    place = ap analysed_place a ∙ ap (λ (s : Asked). asked_place s (certificate_length n)) (sym e);
  }

  -- the same of a number and a place
  pub analyses_refused_by : (number place : ℕ) → analysis_asked p n A (length before) ≡ refuse number place → answer ≡ Err (refusal_of number place) → after ≡ before → Analyses p n A before after answer
  analyses_refused_by number place e a b =
      let h : reason_number (reason_of number) ≡ number = subst Reasoned e (analysis_reasoned p n A (length before)) in
      analyses_refused (refusal_of number place) (e ∙ ap (λ (x : ℕ). refuse x place) (sym h)) a b

  pub analyses_written : analysis_asked p n A (length before) ≡ fine → answer ≡ Ok (certificate_length n) → (c : Certificate) → after ≡ layout c ++ drop (certificate_length n) before → LaidOut c → Certified p n A c → Analyses p n A before after answer
  analyses_written e a c b l h = record {
    refused = λ x y q. absurd (refuse_not_fine x y (sym q ∙ e));
    written = λ q. (a, (c, b, l, h));
    number = ap analysed_number a ∙ ap asked_number (sym e);
    place = ap analysed_place a ∙ ap (λ (s : Asked). asked_place s (certificate_length n)) (sym e);
  }

-- the check
rules_number : (c : Certificate) (x y : ℕ) → rules c ≡ refuse x y → 11 ≡ x
unfolding rules
rules_number c x y e = each_number 9 (rule c) 11 suc x y e

verdict_of_number : (r u : Asked) (z : ℕ) → Reasoned r → ((x y : ℕ) → u ≡ refuse x y → 11 ≡ x) → verdict_number (verdict_of r u z) ≡ asked_number (r then u)
unfolding verdict_of
verdict_of_number (refuse a b) u z g h = g
verdict_of_number fine (refuse a b) z g h = h a b refl
verdict_of_number fine fine z g h = refl

verdict_of_place : (r u : Asked) (z : ℕ) → verdict_place (verdict_of r u z) ≡ asked_place (r then u) z
unfolding verdict_of
verdict_of_place (refuse a b) u z = refl
verdict_of_place fine (refuse a b) z = refl
verdict_of_place fine fine z = refl

pub checks_verdict : (s : List ℕ) (answer : Result ℕ Fault) → answer ≡ verdict s → Checks s answer
unfolding verdict
checks_verdict s answer e = record {
  answered = e;
  number = ap verdict_number e ∙ verdict_of_number (reading s) (rules (certificate_of s)) (length s) (reading_reasoned s) (rules_number (certificate_of s));
  place = ap verdict_place e ∙ verdict_of_place (reading s) (rules (certificate_of s)) (length s);
}

-- accepted exactly where neither the reading nor a rule refuses
pub verdict_accepted : (s : List ℕ) → reading s ≡ fine → rules (certificate_of s) ≡ fine → verdict s ≡ Ok (length s)
unfolding verdict verdict_of
verdict_accepted s e f = ap (λ (r : Asked). verdict_of r (rules (certificate_of s)) (length s)) e ∙ ap (λ (u : Asked). verdict_of fine u (length s)) f

verdict_of_parts : (r u : Asked) (z y : ℕ) → verdict_of r u z ≡ Ok y → (r ≡ fine) × (u ≡ fine) × (z ≡ y)
unfolding verdict_of
verdict_of_parts (refuse a b) u z y e = let q : Err (Form (reason_of a) b) ≡ Ok y = e in (cc)
verdict_of_parts fine (refuse a b) z y e = let q : Err (Rule b) ≡ Ok y = e in (cc)
verdict_of_parts fine fine z y e = let q : Ok z ≡ Ok y = e in (refl, refl, (cc))

pub accepted_parts : (s : List ℕ) (z : ℕ) → verdict s ≡ Ok z → (reading s ≡ fine) × (rules (certificate_of s) ≡ fine) × (length s ≡ z)
unfolding verdict
accepted_parts s z e = verdict_of_parts (reading s) (rules (certificate_of s)) (length s) z e

-- the reciprocal, by its number and value
pub reciprocal_number_asked : (p x : ℕ) (answer : Result ℕ Refusal) → Reciprocates p x answer → reciprocal_number answer ≡ asked_number (reciprocal_asked p x)
reciprocal_number_asked p x answer h = go (reciprocal_asked p x) refl (reciprocal_reasoned p x)
  where
    go : (s : Asked) → reciprocal_asked p x ≡ s → Reasoned s → reciprocal_number answer ≡ asked_number s
    go fine e g = ap reciprocal_number (h.answered e).1
    go (refuse number place) e g = ap reciprocal_number (h.refused number place e) ∙ g

pub reciprocal_value_refused : (p x number place : ℕ) (answer : Result ℕ Refusal) → Reciprocates p x answer → reciprocal_asked p x ≡ refuse number place → reciprocal_value answer ≡ place
reciprocal_value_refused p x number place answer h e = ap reciprocal_value (h.refused number place e)

pub reciprocal_value_inverse : (p x : ℕ) (answer : Result ℕ Refusal) → Reciprocates p x answer → reciprocal_asked p x ≡ fine → InverseOf p x (reciprocal_value answer)
reciprocal_value_inverse p x answer h e = let w = h.answered e in subst (InverseOf p x) (sym (ap reciprocal_value w.1)) w.2
