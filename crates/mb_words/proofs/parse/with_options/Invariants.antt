use Rattle.std.proofs.Common.{◌≡◌, drop}
use Rattle.std.specs.List.{fold}
use Rattle.clap.specs.Words.{app_of}
use Rattle.mb_words.specs.machine.Matching.{with_option, with_options}
use Rattle.mb_words.proofs.parse.with_options.Given as goal

abbrev pub invariant-loop-name : goal.invariant-loop-name
invariant-loop-name l = fold with_option (app_of l.app) (drop l.name-index l.name-items) ≡ with_options l.fn.command
