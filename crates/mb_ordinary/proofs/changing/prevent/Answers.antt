use Rattle.std.proofs.Common.{ap, ◌∙◌, refl}
use Rattle.mb_world.specs.Data.{closed}
use Rattle.mb_world.specs.Ordinary.{closed as closed_object}
use Rattle.mb_ordinary.specs.Objects.{object_at}
use Rattle.mb_ordinary.proofs.Cells.{mapped}
use Rattle.mb_ordinary.proofs.changing.prevent.Goals as goal

pub returns-clause-meant : goal.returns-clause-meant
returns-clause-meant c =
    ap (λ d. object_at d c.args.o) c.close.ensures
    ∙ mapped c.args.w.now c.args.o closed closed_object (λ x. refl) (λ x. refl) c.requires
