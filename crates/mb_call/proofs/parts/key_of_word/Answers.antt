use Rattle.std.proofs.Common.{◌∙◌, ap}
use Rattle.mb_call.proofs.parts.key_of_word.Goals as goal
use Rattle.mb_world.specs.Image.{key_in, names_of}
use Rattle.mb_world.specs.Key.{Named}

pub returns-clause-key : goal.returns-clause-key
returns-clause-key c = ap (key_in (names_of c.word.new.w)) c.key.ensures ∙ ap Named c.in_ok-text.ensures.text
