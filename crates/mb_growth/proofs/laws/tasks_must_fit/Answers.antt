use Rattle.mb_growth.proofs.Needed.{walks-must-fit, definitions-must-fit, views-must-fit}
use Rattle.mb_growth.proofs.laws.tasks_must_fit.Goals as goal

pub returns-clause-walks : goal.returns-clause-walks
returns-clause-walks c = walks-must-fit

pub returns-clause-definitions : goal.returns-clause-definitions
returns-clause-definitions c = definitions-must-fit

pub returns-clause-views : goal.returns-clause-views
returns-clause-views c = views-must-fit
