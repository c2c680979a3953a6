use Rattle.std.proofs.Common.{◌∙◌, sym}
use Rattle.clap.specs.Words.{found_of}
use Rattle.mb_words.proofs.Getting.{value_is}
use Rattle.mb_words.proofs.parse.value.Goals as goal

pub returns-then-has : goal.returns-then-has
returns-then-has c = value_is c.args.command c.args.name (found_of c.args.matches.now) c.label.result.now _
    (sym c.if-has.true ∙ c.has.ensures) c.label.ensures c.get_str.ensures
