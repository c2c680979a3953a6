use Rattle.mb_view.proofs.Ascending.{closed-own_keys}
use Rattle.mb_view.proofs.laws.closed_keys_are_sublist.Goals as goal

pub returns : goal.returns
returns g c = λ number. closed-own_keys g.K.PartialEq.eq g.met.K.Name.same_key g.met.K.Eq.laws.refl number g.K.Name.sort_of
