-- The room has the length of the largest certificate, before and after.
use Rattle.std.proofs.Common.{rules}
use Rattle.forms.specs.Numbers.{total}
use Rattle.forms.specs.Certificate.{size, offset}
use Rattle.blockform.proofs.print_forms.Goals as goal

pub print_certificate-requires : goal.print_certificate-requires
unfolding offset total size
print_certificate-requires g c = search rules
