use Rattle.mb_frames.proofs.Passed.{Passes-becomes, Passes-by, Passes-paid, Passes-texts, Passes-then}
use Rattle.mb_frames.proofs.passing.parts_go_over.Goals as goal

pub returns-clause-by : goal.returns-clause-by
returns-clause-by c d f p q e = Passes-by d f p q e

pub returns-clause-then : goal.returns-clause-then
returns-clause-then c d1 d2 d3 f1 f2 f3 p q r v u = Passes-then d1 d2 d3 f1 f2 f3 p q r v u

pub returns-clause-paid : goal.returns-clause-paid
returns-clause-paid c d n f f' p e = Passes-paid d n f f' p e

pub returns-clause-texts : goal.returns-clause-texts
returns-clause-texts c d d' f p q t e = Passes-texts d d' f p q t e

pub returns-clause-becomes : goal.returns-clause-becomes
returns-clause-becomes c d d' f F p q b t x y z e = Passes-becomes d d' f F p q b t x y z e
