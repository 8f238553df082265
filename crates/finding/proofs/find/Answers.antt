-- A certificate that is not read and a mark of no record find nothing; else the payload of the marked record.
use Rattle.std.proofs.Common.{subst, List, ℕ}
use Rattle.forms.specs.Operations.{Finds}
use Rattle.finding.specs.Found.{found_unread, found_unmarked, found_marked}
use Rattle.finding.proofs.find.Goals as goal

pub returns-in_default : goal.returns-in_default
returns-in_default c = found_unread 0 c.in_default.ensures c.nothing.ensures

pub returns-in_default-record_marked : goal.returns-in_default-record_marked
returns-in_default-record_marked c = found_unmarked c.in_default-record_marked.ensures c.nothing-in_default-record_marked.ensures

pub returns : goal.returns
returns c =
    let read = c.in-Ok.read in
    subst (λ (s : List ℕ). Finds s c.args.mark.now c.payload.result.now) c.in-Ok.ensures (found_marked read.is_read c.in-Some.kind c.in-Some.ensures c.payload.ensures)
