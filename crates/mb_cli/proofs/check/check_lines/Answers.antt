use Rattle.mb_cli.proofs.check.check_lines.Goals as goal

pub returns-clause-answer : goal.returns-clause-answer
returns-clause-answer g c s told = c.lines_judged.ensures.answer _ (c.in_ok-script.ensures.script s told)
