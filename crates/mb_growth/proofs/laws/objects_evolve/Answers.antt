use Rattle.mb_growth.proofs.Graphs.{stays-later, goes-on-later, one-moves, one-is-made}
use Rattle.mb_growth.proofs.laws.objects_evolve.Goals as goal

pub returns-clause-stays : goal.returns-clause-stays
returns-clause-stays c graph = stays-later graph

pub returns-clause-goes_on : goal.returns-clause-goes_on
returns-clause-goes_on c one two three h k = goes-on-later one two three h k

pub returns-clause-moves : goal.returns-clause-moves
returns-clause-moves c graph o t u formed at h = one-moves graph o t u formed at h

pub returns-clause-made : goal.returns-clause-made
returns-clause-made c graph t formed h = one-is-made graph t formed h
