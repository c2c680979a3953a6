use Rattle.mb_view.proofs.Needed.{began-needed}
use Rattle.mb_view.proofs.laws.the_moment_of_the_begin_is_needed.Goals as goal

pub returns : goal.returns
returns c = began-needed
