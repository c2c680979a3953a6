use Rattle.mb_frames.proofs.Stack.{rest-stays, part-stays, hands-row}
use Rattle.mb_frames.proofs.Steps.{Logged-added}
use Rattle.mb_frames.proofs.Growing.{below-in}
use Rattle.mb_frames.proofs.laws.a_step_leaves_the_rest.Goals as goal

pub returns-clause-rest : goal.returns-clause-rest
returns-clause-rest c w r m m' d d' f f' l l' q log e i h =
    rest-stays w m m' d d' f f' l l' q log e i (λ g. hands-row w r d q.top m.done g f)
    (below-in m m' d d' f f' l l' q h)

pub returns-clause-parts : goal.returns-clause-parts
returns-clause-parts c w r m m' d d' f f' l l' q log e i part h =
    part-stays w m m' d d' f f' l l' q log e i (λ g. hands-row w r d q.top m.done g f) part h

pub returns-clause-logged : goal.returns-clause-logged
returns-clause-logged c m m' d d' f f' l l' q log e = Logged-added d d' l l' q.step.added log q.step.logged e
