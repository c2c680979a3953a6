use Rattle.mb_model.proofs.Engine.{means-falls}
use Rattle.mb_model.proofs.laws.fuel_never_grows.Goals as goal

pub returns : goal.returns
returns g c row t s f = means-falls row t s f
