use Rattle.mb_growth.proofs.Runs.{tasks-evolve, sides-see-tasks-evolve}
use Rattle.mb_growth.proofs.laws.tasks_evolve.Goals as goal

pub returns-clause-objects : goal.returns-clause-objects
returns-clause-objects c task graph fuel fit formed = tasks-evolve task graph fuel fit formed

pub returns-clause-sides : goal.returns-clause-sides
returns-clause-sides c task graph fuel fit formed v n t at = sides-see-tasks-evolve task graph fuel fit formed v n t at
