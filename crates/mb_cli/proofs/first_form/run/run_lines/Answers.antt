use Rattle.std.proofs.Common.{◌∙◌}
use Rattle.mb_cli.proofs.first_form.run.run_lines.Goals as goal

pub returns-clause-answer : goal.returns-clause-answer
returns-clause-answer g c s told = c.lines_printed.ensures.answer _ _ (c.in_ok-left.ensures.whole s told) (c.in_ok-right.ensures.whole s (c.read_whole.ensures.shelf ∙ told))
