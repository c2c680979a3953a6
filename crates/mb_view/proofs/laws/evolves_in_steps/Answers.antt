use Rattle.mb_view.proofs.Sorted.{sorted-refl, sorted-trans}
use Rattle.mb_view.proofs.laws.evolves_in_steps.Goals as goal

pub returns : goal.returns
returns g c = (sorted-refl g.K.PartialEq.eq g.K.Name.sort_of, sorted-trans g.K.PartialEq.eq g.K.Name.sort_of)
