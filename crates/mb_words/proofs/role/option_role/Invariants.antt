use Rattle.std.proofs.Common.{◌≡◌, drop}
use Rattle.mb_words.specs.Words.{option_role}
use Rattle.mb_words.proofs.role.option_role.Given as goal

abbrev pub invariant-loop-name : goal.invariant-loop-name
invariant-loop-name l = option_role (drop l.name-index l.names) l.word ≡ option_role l.names l.word
