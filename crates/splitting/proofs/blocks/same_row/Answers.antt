-- The first n entries are one list.
use Rattle.std.proofs.Common.{◌∙◌, sym, ap, List, ℕ, take, get_or}
use Rattle.std.proofs.lemmas.List.{get_or-take}
use Rattle.std.proofs.lemmas.Slice.Eq.{slice_eq-Decides}
use Rattle.std.proofs.lemmas.Bool.Decides.{Decides-eqb}
use Rattle.splitting.proofs.blocks.same_row.Goals as goal

pub returns : goal.returns
returns c = λ e i l. sym (get_or-take c.args.n c.args.x i 0 l)
    ∙ ap (λ (z : List ℕ). get_or z i 0) ((slice_eq-Decides Decides-eqb (take c.args.n c.args.x) (take c.args.n c.args.y) _ c.eq.ensures).0 e) ∙ get_or-take c.args.n c.args.y i 0 l
