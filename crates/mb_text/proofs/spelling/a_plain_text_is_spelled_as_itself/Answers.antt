use Rattle.mb_text.proofs.Plain.{spelled-plain}
use Rattle.mb_text.proofs.spelling.a_plain_text_is_spelled_as_itself.Goals as goal

pub returns : goal.returns
returns c = spelled-plain
