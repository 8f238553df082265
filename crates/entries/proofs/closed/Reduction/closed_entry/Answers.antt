-- The row of F, the end of its block, and the entry of each matrix.
use Rattle.entries.specs.Coefficients.{closed_coefficient, closed_entry}
use Rattle.entries.proofs.closed.Reduction.closed_entry.Goals as goal

pub returns-in-P : goal.returns-in-P
unfolding closed_entry closed_coefficient
returns-in-P c = rw (← c.side.ensures, ← c.from-i.ensures, ← c.from-end.ensures, c.in-P.is) c.p_entry.ensures

pub returns-in-PInverse : goal.returns-in-PInverse
unfolding closed_entry closed_coefficient
returns-in-PInverse c = rw (← c.side.ensures, ← c.from-i.ensures, ← c.from-end.ensures, c.in-PInverse.is) c.pi_entry.ensures

pub returns-in-Q : goal.returns-in-Q
unfolding closed_entry closed_coefficient
returns-in-Q c = rw (← c.side.ensures, ← c.from-i.ensures, ← c.from-end.ensures, c.in-Q.is) c.q_entry.ensures

pub returns-in-QInverse : goal.returns-in-QInverse
unfolding closed_entry closed_coefficient
returns-in-QInverse c = rw (← c.side.ensures, ← c.from-i.ensures, ← c.from-end.ensures, c.in-QInverse.is) c.qi_entry.ensures
