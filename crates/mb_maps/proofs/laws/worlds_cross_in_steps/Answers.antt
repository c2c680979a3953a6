use Rattle.mb_maps.proofs.Worlds.{crossed-in-steps}
use Rattle.mb_maps.proofs.laws.worlds_cross_in_steps.Goals as goal

pub returns : goal.returns
returns c = crossed-in-steps
