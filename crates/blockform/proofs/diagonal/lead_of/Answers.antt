-- The sum of the exponents of the first i polynomials.
use Rattle.std.proofs.Common.{◌≡◌, sym, ◌∙◌, ap, suc, ◌+◌, arith}
use Rattle.forms.specs.Polynomials.{exponent}
use Rattle.forms.specs.Matrices.{diagonal}
use Rattle.matrices.specs.Parts.{has_row}
use Rattle.blockform.specs.Diagonal.{exponent_limited, exponents, no_exponents, next_exponent, exponents_are_lead, row_exponent}
use Rattle.blockform.proofs.diagonal.lead_of.Goals as goal
use Rattle.blockform.proofs.diagonal.lead_of.Goals.{After-exponent_of-sum}

pub loop-i-init : goal.loop-i-init
loop-i-init c = (sym (no_exponents _ _), omega arith)

-- what exponent_of answers in the loop
answered : (c : After-exponent_of-sum) → c.exponent_of-sum.result ≡ exponent (suc c.args.n) (diagonal c.args.n c.args.d.now c.loop-i.i)
answered c =
    c.exponent_of-sum.ensures ∙ row_exponent c.args.n c.args.d.now c.loop-i.i
    (has_row c.args.d.now c.args.n c.loop-i.i (c.args.n + 1) c.requires.1 (omega arith)) c.row.ensures

pub overflow_add-sum : goal.overflow_add-sum
overflow_add-sum c =
    omega (arith, answered c, exponent_limited (suc c.args.n) (diagonal c.args.n c.args.d.now c.loop-i.i))

pub loop-i-preserved : goal.loop-i-preserved
loop-i-preserved c =
    let e = answered c in
    let small = exponent_limited (suc c.args.n) (diagonal c.args.n c.args.d.now c.loop-i.i) in
    let next = next_exponent c.args.n c.args.d.now c.loop-i.i in
    (omega arith, omega arith)

pub returns : goal.returns
returns c =
    let a = c.args in
    let all : c.loop-i.i ≡ a.n = omega arith in
    c.loop-i.invariant.0 ∙ ap (exponents a.n a.d.now) all ∙ exponents_are_lead a.n a.d.now
