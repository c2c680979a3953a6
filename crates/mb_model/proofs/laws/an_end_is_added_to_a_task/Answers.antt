use Rattle.mb_model.proofs.Engine.{entered-begun}
use Rattle.mb_model.proofs.laws.an_end_is_added_to_a_task.Goals as goal

pub returns : goal.returns
returns g c m row h t u s f e = entered-begun m row h t u s f e
