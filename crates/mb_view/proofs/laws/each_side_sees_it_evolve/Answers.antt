use Rattle.mb_view.proofs.Sorted.{sorted-each_side}
use Rattle.mb_view.proofs.laws.each_side_sees_it_evolve.Goals as goal

pub returns : goal.returns
returns g c = sorted-each_side g.K.PartialEq.eq g.K.Name.sort_of g.met.K.Name.same_key g.met.K.Eq.laws.refl g.V.PartialEq.eq g.V.Slot.undefined_value g.met.V.Slot.same
