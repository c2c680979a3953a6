use Rattle.mb_frames.proofs.Giving.{gives-any, gives-anew, gives-expression, gives-next, gives-outcome, gives-throw, waits-expression}
use Rattle.mb_frames.proofs.ready.what_moves_give.Goals as goal

pub returns-clause-outcome : goal.returns-clause-outcome
returns-clause-outcome c d home wanted y h = gives-outcome d home wanted y h

pub returns-clause-throw : goal.returns-clause-throw
returns-clause-throw c d home wanted x = gives-throw d home wanted x

pub returns-clause-any : goal.returns-clause-any
returns-clause-any c d home y = gives-any d home y

pub returns-clause-goes_on : goal.returns-clause-goes_on
returns-clause-goes_on c d home t = gives-next d home t

pub returns-clause-anew : goal.returns-clause-anew
returns-clause-anew c d home t = gives-anew d home t

pub returns-clause-expression : goal.returns-clause-expression
returns-clause-expression c d home node at h = gives-expression d home node at h

pub returns-clause-waits : goal.returns-clause-waits
returns-clause-waits c d home wanted y node at h e f = waits-expression d home node at h wanted y e f
