-- A request that is not refused is legal: p and n fit a byte, and there is room.
use Rattle.std.proofs.Common.{arith, sym, length}
use Rattle.forms.specs.Primes.{prime_limited}
use Rattle.forms.proofs.LegalRequests.{asked_legal}
use Rattle.analysis.specs.Questions.{asked_room}
use Rattle.analysis.proofs.analysis.Goals as goal

pub overflow_cast-p : goal.overflow_cast-p
overflow_cast-p c = omega (arith, prime_limited c.args.p (asked_legal _ _ _ _ (sym c.in_ok-analysis_asked.ensures)).prime_p)

pub overflow_cast-n : goal.overflow_cast-n
overflow_cast-n c = omega (arith, (asked_legal _ _ _ _ (sym c.in_ok-analysis_asked.ensures)).high)

pub write-requires : goal.write-requires
write-requires c =
    let a = c.args in
    (asked_legal _ _ _ _ (sym c.in_ok-analysis_asked.ensures), asked_room a.p a.n a.matrix.now (length a.out.now) (sym c.in_ok-analysis_asked.ensures))
