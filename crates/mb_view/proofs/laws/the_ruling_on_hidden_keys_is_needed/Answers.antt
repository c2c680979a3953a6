use Rattle.mb_view.proofs.Needed.{ruling-needed}
use Rattle.mb_view.proofs.laws.the_ruling_on_hidden_keys_is_needed.Goals as goal

pub returns : goal.returns
returns c = ruling-needed
