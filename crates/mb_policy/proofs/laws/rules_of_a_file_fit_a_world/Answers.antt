use Rattle.mb_policy.proofs.Fitting.{rules_fit, rules_same, rules_formed}
use Rattle.mb_policy.proofs.laws.rules_of_a_file_fit_a_world.Goals as goal

pub returns-clause-fit : goal.returns-clause-fit
returns-clause-fit c = rules_fit

pub returns-clause-image : goal.returns-clause-image
returns-clause-image c = rules_same

pub returns-clause-formed : goal.returns-clause-formed
returns-clause-formed c = rules_formed
