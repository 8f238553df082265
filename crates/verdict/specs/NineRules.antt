-- The rules in their order: what the search through them has seen.
use Rattle.std.specs.Prelude.{◌≡◌, refl, Bool, true, false, ℕ, zero, suc, ◌+◌, ◌<◌, T, Result, Ok, Err, IsErrAnd}
use Rattle.std.proofs.Common.{sym, ◌∙◌, ap, subst, suc-add, zero-add}
use Rattle.forms.specs.Answers.{Asked, fine, refuse, ask, each}
use Rattle.forms.specs.Certificate.{Certificate}
use Rattle.forms.specs.Rules.{rule}
use Rattle.forms.specs.Tests.{ask_fine, fine_then, refuse_then, each_fine}
use Rattle.products.specs.Searches.{failing}

-- the first k rules
abbrev pub rules_asked : Certificate → ℕ → Asked
rules_asked c k = each k (λ i. ask (rule c i) 11 (suc i))

-- nothing where the first k rules hold, and else the first that fails
abbrev pub Searched : Certificate → ℕ → Result (Unit {0}) ℕ → Type 0
Searched c k (Ok nothing) = rules_asked c k ≡ fine
Searched c k (Err rule) = rules_asked c k ≡ refuse 11 rule

pub held_none : (c : Certificate) → rules_asked c 0 ≡ fine
unfolding each
held_none c = refl

-- one more rule, number k + 1
pub searched_next : (c : Certificate) (k : ℕ) (r : Result (Unit {0}) ℕ) → rules_asked c k ≡ fine → r ≡ failing (rule c k) (suc k) → Searched c (suc k) r
unfolding each ask
searched_next c k r h e = subst (Searched c (suc k)) (sym e) (answered (rule c k) refl)
  where
    answered : (b : Bool) → rule c k ≡ b → Searched c (suc k) (failing b (suc k))
    answered true q = fine_then h ∙ ap (λ (x : Bool). ask x 11 (suc k)) q
    answered false q = fine_then h ∙ ap (λ (x : Bool). ask x 11 (suc k)) q

-- the rules hold where the search has come to nothing
pub searched_held : (c : Certificate) (k : ℕ) (r : Result (Unit {0}) ℕ) {nothing : Unit {0}} → Searched c k r → r ≡ Ok nothing → rules_asked c k ≡ fine
searched_held c k r h e = subst (Searched c k) e h

-- what has failed stays so
refused_stays : (c : Certificate) (k d number place : ℕ) → rules_asked c k ≡ refuse number place → rules_asked c (d + k) ≡ refuse number place
unfolding each
refused_stays c k zero number place h = ap (rules_asked c) (zero-add k) ∙ h
refused_stays c k (suc d) number place h = ap (rules_asked c) (suc-add d k) ∙ refuse_then (ask (rule c (d + k)) 11 (suc (d + k))) (refused_stays c k d number place h)

pub searched_stays : (c : Certificate) (k d : ℕ) (r q : Result (Unit {0}) ℕ) {failed : ℕ} → Searched c k r → r ≡ Err failed → IsErrAnd q (λ (e : ℕ). e ≡ failed) → Searched c (d + k) q
searched_stays c k d r (Ok nothing) h e g = absurd g
searched_stays c k d r (Err rule) h e g = refused_stays c k d 11 rule (subst (Searched c k) (e ∙ ap Err (sym g)) h)

pub rule_held : (c : Certificate) (k : ℕ) → rules_asked c k ≡ fine → (i : ℕ) → i < k → T (rule c i)
rule_held c k h i l = ask_fine (rule c i) 11 (suc i) (each_fine k _ h i l)
