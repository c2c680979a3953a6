use Rattle.mb_growth.proofs.Targets.{tasks-keep-targets, first-has-targets, turns-keep-targets, letters-keep-targets, runs-have-targets}
use Rattle.mb_growth.proofs.laws.targets_are_no_proxies.Goals as goal

pub returns-clause-tasks : goal.returns-clause-tasks
returns-clause-tasks c task graph fuel has = tasks-keep-targets task graph fuel has

pub returns-clause-first : goal.returns-clause-first
returns-clause-first c programs rules = first-has-targets programs rules

pub returns-clause-turns : goal.returns-clause-turns
returns-clause-turns c stage side has = turns-keep-targets stage side has

pub returns-clause-letters : goal.returns-clause-letters
returns-clause-letters c stage letter has = letters-keep-targets stage letter has

pub returns-clause-whole : goal.returns-clause-whole
returns-clause-whole c programs rules word fuel = runs-have-targets programs rules word fuel
