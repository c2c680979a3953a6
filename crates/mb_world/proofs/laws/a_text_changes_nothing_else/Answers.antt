use Rattle.mb_world.proofs.AfterCalls.{text}
use Rattle.mb_world.proofs.laws.a_text_changes_nothing_else.Goals as goal

pub returns : goal.returns
returns c = text
