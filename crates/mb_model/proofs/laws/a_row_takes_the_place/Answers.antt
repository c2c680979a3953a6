use Rattle.mb_model.proofs.Engine.{exec-again}
use Rattle.mb_model.proofs.laws.a_row_takes_the_place.Goals as goal

pub returns : goal.returns
returns g c m t s f k e = exec-again m t s f k e
