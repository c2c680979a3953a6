use Rattle.mb_model.proofs.Engine.{means-charged_row}
use Rattle.mb_model.proofs.laws.a_task_pays_first.Goals as goal

pub returns : goal.returns
returns g c row t s f = means-charged_row row t s f
