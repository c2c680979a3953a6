use Rattle.mb_view.proofs.Ascending.{alike-own_keys}
use Rattle.mb_view.proofs.laws.alike_list_the_same.Goals as goal

pub returns : goal.returns
returns g c = λ number. alike-own_keys g.K.PartialEq.eq g.met.K.Name.same_key g.met.K.Eq.laws.refl number g.K.Name.sort_of
