use Rattle.mb_frames.proofs.Steadying.{halt-keeps, machine-ready, noted-ready, step-keeps}
use Rattle.mb_frames.proofs.ready.a_step_leaves_a_ready_machine.Goals as goal

pub returns-clause-machine : goal.returns-clause-machine
returns-clause-machine c m m' d d' f f' l l' q h y p k v = machine-ready m m' d d' f f' l l' q h y p k v

pub returns-clause-joined : goal.returns-clause-joined
returns-clause-joined c m m' d d' f f' l l' q h side y p j i k v = noted-ready m m' d d' f f' l l' q h side y p j i k.ready k.found v

pub returns-clause-noted : goal.returns-clause-noted
returns-clause-noted c m m' d d' f f' l l' q h side y p j i r k v = noted-ready m m' d d' f f' l l' q h side y p j i r k v

pub returns-clause-kept : goal.returns-clause-kept
returns-clause-kept c m m' d d' f f' l l' q h y p k v = step-keeps m m' d d' f f' l l' q h y p k v

pub returns-clause-halted : goal.returns-clause-halted
returns-clause-halted c halt m m' d d' below top was k = halt-keeps halt m m' d d' below top was k
