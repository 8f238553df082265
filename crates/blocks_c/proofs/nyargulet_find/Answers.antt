-- The part is empty, or the payload of the record that the mark stands for.
use Rattle.std.proofs.Common.{refl, ◌∙◌, ap, ℕ, ◌+◌, arith}
use Rattle.forms.specs.Certificate.{offset}
use Rattle.certificate.specs.Numbering.{number_of, number_small}
use Rattle.certificate.specs.Sizes.{offset_small}
use Rattle.blocks.specs.Finding.{found_nothing, found_unmarked, found_something}
use Rattle.blocks_c.proofs.nyargulet_find.Goals as goal

pub returns-then-length-eq0 : goal.returns-then-length-eq0
returns-then-length-eq0 c =
    let a = c.args in
    found_nothing a.certificate.now a.mark.now _ c.find-length.ensures c.if-length-eq0.true

pub returns-in_default : goal.returns-in_default
returns-in_default c =
    let a = c.args in
    found_unmarked a.certificate.now a.mark.now _ c.find-length.ensures c.in_default.ensures

pub overflow_add-at : goal.overflow_add-at
overflow_add-at c =
    let few = number_small c.in-Some.kind in
    omega (arith, c.start-at.ensures, offset_small c.byte.result (number_of c.in-Some.kind) c.byte.type_inv (omega arith))

pub returns : goal.returns
returns c =
    let a = c.args in
    found_something a.certificate.now a.mark.now _ c.find-length.ensures c.in-Some.kind c.in-Some.ensures c.if-length-eq0.false
    (ap (λ (x : ℕ). x + 4) (c.start-at.ensures ∙ ap (λ (n : ℕ). offset n (number_of c.in-Some.kind)) c.byte.ensures)) refl
