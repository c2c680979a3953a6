use Rattle.std.proofs.Common.{length, ◌-◌, ◌≤◌}
use Rattle.mb_text.specs.Texts.{KeepsIds}
use Rattle.mb_cli.proofs.first_form.Progress.{Progress}
use Rattle.mb_cli.proofs.first_form.reading.lex.Given as goal

abbrev pub invariant-loop-at : goal.invariant-loop-at
invariant-loop-at l = record {
  within : l.at ≤ length l.bytes;
  ids : KeepsIds l.fn.texts l.texts;
  progress : Progress l.bytes l.texts l.tokens.items l.at l.after_line;
}

abbrev pub decreases-loop-at : goal.decreases-loop-at
decreases-loop-at l = length l.bytes - l.at
