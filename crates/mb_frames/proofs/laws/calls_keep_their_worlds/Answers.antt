use Rattle.mb_frames.proofs.AfterCalls.{made-kept}
use Rattle.mb_frames.proofs.Placed.{set-kept}
use Rattle.mb_frames.proofs.Scoped.{text-kept, scope-kept, scope-set-kept, queue-kept}
use Rattle.mb_frames.proofs.laws.calls_keep_their_worlds.Goals as goal

pub returns-clause-text : goal.returns-clause-text
returns-clause-text c home d t i h p = text-kept home d i h p t

pub returns-clause-made : goal.returns-clause-made
returns-clause-made c home d k proto label i h p n a b o q = made-kept home d k proto label i n a b o q h p

pub returns-clause-changed : goal.returns-clause-changed
returns-clause-changed c home d id x y i h p e u m k o q = set-kept home d i h p id x y e u m k o q

pub returns-clause-scope : goal.returns-clause-scope
returns-clause-scope c home d s i h p e o = scope-kept home d i h p s e o

pub returns-clause-changed_scope : goal.returns-clause-changed_scope
returns-clause-changed_scope c home d id s t i h p e u v o = scope-set-kept home d i h p id s t e u v o

pub returns-clause-queue : goal.returns-clause-queue
returns-clause-queue c home d jobs i h p o = queue-kept home d i h p jobs o
