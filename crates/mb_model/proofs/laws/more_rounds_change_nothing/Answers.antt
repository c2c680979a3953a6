use Rattle.mb_model.proofs.Rounds.{more-rounds}
use Rattle.mb_model.proofs.laws.more_rounds_change_nothing.Goals as goal

pub returns : goal.returns
returns c n m s t e = more-rounds n m s t e
