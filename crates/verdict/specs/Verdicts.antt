-- The verdict from what was read and what the rules came to.
use Rattle.std.specs.Prelude.{◌≡◌, List, ℕ, length, Result, Ok, Err, IsErrAnd}
use Rattle.std.proofs.Common.{sym, ◌∙◌, ap₂}
use Rattle.forms.specs.Answers.{Asked, fine, refuse}
use Rattle.forms.specs.Reading.{reading, certificate_of}
use Rattle.forms.specs.Rules.{rules, verdict_of, verdict}
use Rattle.forms.specs.Operations.{Checks}
use Rattle.forms.proofs.Promises.{checks_verdict}
use Rattle.forms.specs.declared.Fault.{Fault}
use Rattle.forms.specs.declared.Fault.TheVariants.{Rule}
use Rattle.certificate.specs.ReadRecords.{read_of, error_is}
use Rattle.verdict.specs.NineRules.{Searched}

-- the fault that was read is the verdict
pub unread : (s : List ℕ) (next : ℕ) {fault : Fault} → Err fault ≡ read_of (reading s) next → (answer : Result ℕ Fault) → IsErrAnd answer (λ (e : Fault). e ≡ fault) → Checks s answer
unfolding verdict verdict_of
unread s next {fault} read answer e = checks_verdict s answer (error_is answer e ∙ go (reading s) read)
  where
    go : (q : Asked) → Err fault ≡ read_of q next → Err fault ≡ verdict_of q (rules (certificate_of s)) (length s)
    go fine f = cc
    go (refuse number place) f = cc

module _ (s : List ℕ) (read : reading s ≡ fine) where
  pub rule_verdict : (rule : ℕ) → Searched (certificate_of s) 9 (Err rule) → Checks s (Err (Rule rule))
  unfolding verdict verdict_of rules
  rule_verdict rule h = checks_verdict s _ (sym (ap₂ (λ (a b : Asked). verdict_of a b (length s)) read h))

  pub accepted_verdict : {nothing : Unit {0}} → Searched (certificate_of s) 9 (Ok nothing) → Checks s (Ok (length s))
  unfolding verdict verdict_of rules
  accepted_verdict h = checks_verdict s _ (sym (ap₂ (λ (a b : Asked). verdict_of a b (length s)) read h))
