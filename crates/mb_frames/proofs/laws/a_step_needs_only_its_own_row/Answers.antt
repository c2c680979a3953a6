use Rattle.mb_frames.proofs.Stack.{rest-stays, rest-stops}
use Rattle.mb_frames.proofs.Growing.{below-in}
use Rattle.mb_frames.proofs.laws.a_step_needs_only_its_own_row.Goals as goal

pub returns-clause-rest : goal.returns-clause-rest
returns-clause-rest c = λ w m m' d d' f f' l l' q log e i r h.
    rest-stays w m m' d d' f f' l l' q log e i r (below-in m m' d d' f f' l l' q h)

pub returns-clause-spent : goal.returns-clause-spent
returns-clause-spent c = λ w m d d' f f' l l' q log e r. rest-stops w m d d' f f' l l' q log e r
