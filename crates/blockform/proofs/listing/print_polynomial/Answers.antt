-- The degree is below the number of coefficients, so the leading one is among them.
use Rattle.std.proofs.Common.{◌+◌, ◌-◌, arith, length, length-take-le, sym}
use Rattle.forms.specs.Numbers.{at}
use Rattle.forms.specs.Bounds.{degree_limited}
use Rattle.blockform.proofs.listing.print_polynomial.Goals as goal

pub overflow_add-end : goal.overflow_add-end
overflow_add-end g c =
    let f = c.args.f.now in
    omega (arith, c.degree_of-end.ensures, degree_limited (length f - 1) (at f))

pub slice_bounds-print_line-end-2 : goal.slice_bounds-print_line-end-2
slice_bounds-print_line-end-2 g c =
    let f = c.args.f.now in
    sym (length-take-le (c.degree_of-end.result + 1) f (omega (arith, c.degree_of-end.ensures, degree_limited (length f - 1) (at f))))
