use Rattle.mb_grammar.proofs.Renamed.{statements_renamed}
use Rattle.mb_grammar.proofs.laws.ids_do_not_matter.Goals as goal

pub returns : goal.returns
returns c f ts parts i j q = statements_renamed f ts q
