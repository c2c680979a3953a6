use Rattle.mb_view.proofs.Sorted.{sorted-alike}
use Rattle.mb_view.proofs.laws.alike_evolve.Goals as goal

pub returns : goal.returns
returns g c = sorted-alike g.K.PartialEq.eq g.K.Name.sort_of
