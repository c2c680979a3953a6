use Rattle.std.proofs.Common.{ap}
use Rattle.mb_eval_expr.specs.machine.Names.{bound_to}
use Rattle.mb_eval_expr.proofs.names.value_of.Goals as goal

pub returns-in-Some-clause-value : goal.returns-in-Some-clause-value
returns-in-Some-clause-value c = λ log. ap bound_to (c.in-Some.ensures.value log)

pub returns-in-None-clause-value : goal.returns-in-None-clause-value
returns-in-None-clause-value c = λ log. ap bound_to (c.in-None.ensures.value log)
