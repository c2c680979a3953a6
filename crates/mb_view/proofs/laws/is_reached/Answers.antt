use Rattle.mb_view.proofs.Lengthy.{followed-short}
use Rattle.mb_view.proofs.Reached.{follow-allowed, follow-ends}
use Rattle.mb_view.proofs.laws.is_reached.Goals as goal

pub returns : goal.returns
returns g c = λ old new d e h. (follow-allowed g.K.PartialEq.eq g.K.Name.sort_of g.met.K.Name.same_key g.met.K.Eq.laws.refl g.V.PartialEq.eq g.V.Slot.undefined_value g.met.V.Eq.laws.refl old new d e h, follow-ends g.K.PartialEq.eq g.K.Name.sort_of g.met.K.Name.same_key g.met.K.Eq.laws.refl g.V.PartialEq.eq g.V.Slot.undefined_value g.met.V.Eq.laws.refl old new d e h, followed-short g.K.PartialEq.eq g.K.Name.sort_of old new)
