-- The answer about n and p, as one about HD.
use Rattle.std.proofs.Common.{◌∙◌, ap, ap₂, ◌+◌}
use Rattle.forms.specs.Answers.{Asked}
use Rattle.forms.specs.Reading.{order_and_prime}
use Rattle.certificate.specs.ReadRecords.{read_of, read_refused}
use Rattle.certificate.proofs.reading.read_header.Goals as goal

pub returns : goal.returns
returns c =
    ap (λ (q : Asked). read_of q (c.args.c.at + 2)) (c.in_ok-order_and_prime.ensures ∙ ap₂ order_and_prime c.from.ensures c.from-2.ensures)

pub returns-in_err-order_and_prime : goal.returns-in_err-order_and_prime
returns-in_err-order_and_prime c =
    read_refused c.in_err-order_and_prime.field-0.0 _ _ (c.args.c.at + 2) (c.in_err-order_and_prime.ensures ∙ ap₂ order_and_prime c.from.ensures c.from-2.ensures) c.from_residual.ensures.1
