use Rattle.mb_world.proofs.AfterCalls.{of-revoked}
use Rattle.mb_world.proofs.laws.a_revoked_world_has_a_revoked_image.Goals as goal

pub returns : goal.returns
returns c = of-revoked
