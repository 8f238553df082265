-- The reading's own refusal, else the first rule that fails, else accepted.
use Rattle.std.proofs.Common.{subst, List, ℕ, length, Ok, Err}
use Rattle.forms.specs.Operations.{Checks}
use Rattle.forms.specs.declared.Fault.TheVariants.{Rule}
use Rattle.verdict.specs.Verdicts.{unread, rule_verdict, accepted_verdict}
use Rattle.verdict.proofs.check.check.Goals as goal

pub returns-in_err-read : goal.returns-in_err-read
returns-in_err-read c = unread c.args.certificate.now 0 c.in_err-read.ensures _ c.from_residual.ensures.1

pub returns-in-Ok : goal.returns-in-Ok
returns-in-Ok c =
    let r = c.in_ok-read.read in
    subst (λ (s : List ℕ). Checks s (Ok (length s))) c.in_ok-read.ensures (accepted_verdict r.bytes.now r.is_read c.in-Ok.ensures)

pub returns-in-Err : goal.returns-in-Err
returns-in-Err c =
    let r = c.in_ok-read.read in
    subst (λ (s : List ℕ). Checks s (Err (Rule c.in-Err.rule))) c.in_ok-read.ensures (rule_verdict r.bytes.now r.is_read c.in-Err.rule c.in-Err.ensures)
