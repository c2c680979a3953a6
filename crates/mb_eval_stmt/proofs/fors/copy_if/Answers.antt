use Rattle.mb_parts.proofs.Answering.{same-keeps}
use Rattle.mb_frames.specs.Keeping.{scope_held}
use Rattle.mb_eval_stmt.proofs.fors.copy_if.Goals as goal

pub returns-then-lets-clause-keeps : goal.returns-then-lets-clause-keeps
returns-then-lets-clause-keeps c = λ home r i h. c.copy_scope.ensures.keeps home r i h

pub returns-else-lets-clause-keeps : goal.returns-else-lets-clause-keeps
returns-else-lets-clause-keeps c = λ home r i h. same-keeps scope_held home c.args.w.now c.args.scope r h
