use Rattle.mb_growth.proofs.Steps.{deletions-move, prototypes-move, closing-moves}
use Rattle.mb_growth.proofs.Arrays.{definitions-move, elements-move}
use Rattle.mb_growth.proofs.laws.objects_move.Goals as goal

pub returns-clause-definitions : goal.returns-clause-definitions
returns-clause-definitions c t u k d answer formed one h = definitions-move t u k d answer formed one h

pub returns-clause-elements : goal.returns-clause-elements
returns-clause-elements c t u n v answer formed array h = elements-move t u n v answer formed array h

pub returns-clause-deletions : goal.returns-clause-deletions
returns-clause-deletions c graph v t u k formed free h = deletions-move graph v t u k formed free h

pub returns-clause-prototypes : goal.returns-clause-prototypes
returns-clause-prototypes c t p formed open_ = prototypes-move t p formed open_

pub returns-clause-closing : goal.returns-clause-closing
returns-clause-closing c t formed = closing-moves t formed
