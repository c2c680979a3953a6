use Rattle.mb_shadow.proofs.After.{shadows-follow}
use Rattle.mb_shadow.proofs.laws.shadows_follow.Goals as goal

pub returns : goal.returns
returns c = shadows-follow
