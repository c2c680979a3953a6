use Rattle.mb_world.proofs.AfterCalls.{of-cell}
use Rattle.mb_world.proofs.laws.an_id_names_its_object.Goals as goal

pub returns : goal.returns
returns c = of-cell
