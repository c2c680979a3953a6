use Rattle.mb_model.proofs.Engine.{given-row}
use Rattle.mb_model.proofs.laws.a_task_is_done_by_its_row.Goals as goal

pub returns : goal.returns
returns g c row t s f = given-row row t s f
