use Rattle.mb_intrinsics.proofs.FirstGraph.{desk-first, desk-stands, desk-there}
use Rattle.mb_intrinsics.proofs.laws.desk_is_the_first_object.Goals as goal

pub returns-clause-cell : goal.returns-clause-cell
returns-clause-cell c d d' n f = desk-there d d' n f

pub returns-clause-first : goal.returns-clause-first
returns-clause-first c d d' n f = desk-first d d' n f

pub returns-clause-stands : goal.returns-clause-stands
returns-clause-stands c d d' n f = desk-stands d d' n f
