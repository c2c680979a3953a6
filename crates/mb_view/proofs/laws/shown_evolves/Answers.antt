use Rattle.mb_view.proofs.Sorted.{sorted-shown}
use Rattle.mb_view.proofs.laws.shown_evolves.Goals as goal

pub returns : goal.returns
returns g c = sorted-shown g.K.PartialEq.eq g.K.Name.sort_of g.met.K.Name.same_key
