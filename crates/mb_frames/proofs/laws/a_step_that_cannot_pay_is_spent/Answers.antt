use Rattle.mb_frames.proofs.Stack.{rest-spent}
use Rattle.mb_frames.proofs.laws.a_step_that_cannot_pay_is_spent.Goals as goal

pub returns : goal.returns
returns c w r m d d' f f' l l' q log e = rest-spent w r m d d' f f' l l' q log e
