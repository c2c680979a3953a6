use Rattle.mb_frames.proofs.Readying.{changed-same, changed-then, queue-changed, scope-changed, scope-written, symbol-changed, text-changed}
use Rattle.mb_frames.proofs.Renewing.{made-changed, written-changed}
use Rattle.mb_frames.proofs.ready.changes_keep_a_world_ready.Goals as goal

pub returns-clause-stays : goal.returns-clause-stays
returns-clause-stays c home d r = changed-same home d r

pub returns-clause-goes_on : goal.returns-clause-goes_on
returns-clause-goes_on c home d1 d2 d3 h k = changed-then home d1 d2 d3 h k

pub returns-clause-text : goal.returns-clause-text
returns-clause-text c home d t r = text-changed home d r t

pub returns-clause-symbol : goal.returns-clause-symbol
returns-clause-symbol c home d x r h = symbol-changed home d r x h

pub returns-clause-made : goal.returns-clause-made
returns-clause-made c home d k proto label r i m = made-changed home d k proto label r i m

pub returns-clause-written : goal.returns-clause-written
returns-clause-written c home d id x y r e m = written-changed home d id x y r e m

pub returns-clause-scope : goal.returns-clause-scope
returns-clause-scope c home d s r e n f own = scope-changed home d r s e n f own

pub returns-clause-written_scope : goal.returns-clause-written_scope
returns-clause-written_scope c home d id s t r e h k n f own = scope-written home d r id s t e h k n f own

pub returns-clause-queue : goal.returns-clause-queue
returns-clause-queue c home d jobs r n f own = queue-changed home d r jobs n f own
