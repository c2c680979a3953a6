use Rattle.mb_frames.proofs.Forming.{ends-formed, next-formed, anew-formed, wait-formed, entered-formed}
use Rattle.mb_frames.proofs.laws.what_goes_on_is_formed.Goals as goal

pub returns-clause-ends : goal.returns-clause-ends
returns-clause-ends c d home wanted given y i h k e = ends-formed d home wanted i y given h k e

pub returns-clause-goes_on : goal.returns-clause-goes_on
returns-clause-goes_on c d home wanted t i h n e = next-formed d home wanted i t h n e

pub returns-clause-anew : goal.returns-clause-anew
returns-clause-anew c d home wanted t i h n e = anew-formed d home wanted i t h n e

pub returns-clause-waits : goal.returns-clause-waits
returns-clause-waits c d home wanted y t i h k w n e u = wait-formed d home wanted i y t h k w n e u

pub returns-clause-entered : goal.returns-clause-entered
returns-clause-entered c d home wanted y t i h k w n e u = entered-formed d home wanted i y t h k w n e u
