use Rattle.mb_model.proofs.Engine.{under-append}
use Rattle.mb_model.proofs.laws.stacks_are_put_on_stacks.Goals as goal

pub returns : goal.returns
returns g c hand below above r = under-append hand below above r
