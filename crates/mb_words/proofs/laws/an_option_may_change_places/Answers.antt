use Rattle.mb_words.proofs.Neighbours.{change}
use Rattle.mb_words.proofs.laws.an_option_may_change_places.Goals as goal

pub returns : goal.returns
returns c = change
