use Rattle.mb_growth.proofs.Lawful.{tasks-keep-promises, first-keeps-promises, turns-keep-promises, letters-keep-promises, runs-keep-promises, runs-pass, runs-are-lawful}
use Rattle.mb_growth.proofs.laws.runs_are_lawful.Goals as goal

pub returns-clause-tasks : goal.returns-clause-tasks
returns-clause-tasks c task graph fuel fit itself keeps = tasks-keep-promises task graph fuel fit itself keeps

pub returns-clause-first : goal.returns-clause-first
returns-clause-first c programs rules = first-keeps-promises programs rules

pub returns-clause-turns : goal.returns-clause-turns
returns-clause-turns c stage side keeps = turns-keep-promises stage side keeps

pub returns-clause-letters : goal.returns-clause-letters
returns-clause-letters c stage letter keeps = letters-keep-promises stage letter keeps

pub returns-clause-promises : goal.returns-clause-promises
returns-clause-promises c programs rules word fuel = runs-keep-promises programs rules word fuel

pub returns-clause-pass : goal.returns-clause-pass
returns-clause-pass c programs rules word fuel = runs-pass programs rules word fuel

pub returns-clause-lawful : goal.returns-clause-lawful
returns-clause-lawful c programs rules word fuel = runs-are-lawful programs rules word fuel
