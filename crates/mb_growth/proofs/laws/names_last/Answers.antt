use Rattle.mb_growth.proofs.Names.{first-has-globals, letters-keep-globals, runs-have-globals, tasks-keep-names, turns-keep-globals}
use Rattle.mb_growth.proofs.laws.names_last.Goals as goal

pub returns-clause-tasks : goal.returns-clause-tasks
returns-clause-tasks c task graph fuel = tasks-keep-names task graph fuel

pub returns-clause-first : goal.returns-clause-first
returns-clause-first c programs rules = first-has-globals programs rules

pub returns-clause-turns : goal.returns-clause-turns
returns-clause-turns c sides stage side has = turns-keep-globals sides stage side has

pub returns-clause-letters : goal.returns-clause-letters
returns-clause-letters c sides stage letter has = letters-keep-globals sides stage letter has

pub returns-clause-whole : goal.returns-clause-whole
returns-clause-whole c programs rules word fuel = runs-have-globals programs rules word fuel
