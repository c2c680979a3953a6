use Rattle.std.proofs.Common.{◌∙◌, sym}
use Rattle.clap.specs.Words.{found_of}
use Rattle.mb_words.proofs.Getting.{flag_read}
use Rattle.mb_words.proofs.parse.flag.Goals as goal

pub returns-then-has : goal.returns-then-has
returns-then-has c = flag_read c.args.command c.args.name (found_of c.args.matches.now) c.label.result.now c.get_flag.result
    (sym c.if-has.true ∙ c.has.ensures) c.label.ensures c.get_flag.ensures.value c.get_flag.ensures.other
