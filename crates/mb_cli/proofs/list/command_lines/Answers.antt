use Rattle.mb_cli.proofs.list.command_lines.Goals as goal

pub returns-in-Run-clause-lines : goal.returns-in-Run-clause-lines
returns-in-Run-clause-lines g c s told =
    rw c.in-Run.is (rw c.as_str.ensures.value at (rw c.as_str-in-Run.ensures.value at (c.run_lines.ensures.lines s told)))

pub returns-in-Check-clause-lines : goal.returns-in-Check-clause-lines
returns-in-Check-clause-lines g c s told = rw c.in-Check.is (rw c.as_str-in-Check.ensures.value at (c.check_lines.ensures.lines s told))
