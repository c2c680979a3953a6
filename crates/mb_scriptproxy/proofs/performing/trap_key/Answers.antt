use Rattle.std.proofs.Common.{ap, ◌∙◌}
use Rattle.mb_scriptproxy.proofs.performing.trap_key.Goals as goal
use Rattle.mb_world.specs.Image.{key_in, names_of}
use Rattle.mb_world.specs.Key.{Named}

pub word-requires : goal.word-requires
word-requires c = c.trap_name.ensures.short

pub returns-clause-key : goal.returns-clause-key
returns-clause-key c = λ n.
    ap (key_in (names_of c.word.new.w)) c.key.ensures
    ∙ ap Named (c.in_ok-text.ensures.text ∙ c.trap_name.ensures.name n)
