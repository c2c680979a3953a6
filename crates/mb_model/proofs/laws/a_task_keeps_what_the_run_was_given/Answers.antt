use Rattle.mb_model.proofs.Kept.Given.{keeps-given}
use Rattle.mb_model.proofs.laws.a_task_keeps_what_the_run_was_given.Goals as goal

pub returns : goal.returns
returns c t g f = keeps-given t g f
