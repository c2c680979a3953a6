use Rattle.mb_words.proofs.Ordered.{order}
use Rattle.mb_words.proofs.laws.the_order_of_options_does_not_matter.Goals as goal

pub returns : goal.returns
returns c = order
