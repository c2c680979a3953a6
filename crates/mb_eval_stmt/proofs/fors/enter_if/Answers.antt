use Rattle.mb_parts.proofs.Answering.{same-keeps}
use Rattle.mb_frames.specs.Keeping.{scope_held}
use Rattle.mb_eval_stmt.proofs.fors.enter_if.Goals as goal

pub returns-then-lets-clause-keeps : goal.returns-then-lets-clause-keeps
returns-then-lets-clause-keeps c = λ n r i h. c.enter_scope.ensures.keeps n r i h

pub returns-else-lets-clause-keeps : goal.returns-else-lets-clause-keeps
returns-else-lets-clause-keeps c = λ n r i h. same-keeps scope_held c.args.home c.args.w.now c.args.scope r h
