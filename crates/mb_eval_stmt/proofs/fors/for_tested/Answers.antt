use Rattle.mb_eval_stmt.proofs.Leaving.{ends-nothing}
use Rattle.mb_eval_stmt.proofs.fors.for_tested.Goals as goal

pub returns-in-Some-clause-leaves : goal.returns-in-Some-clause-leaves
returns-in-Some-clause-leaves c = λ h. c.for_body.ensures.leaves c.args.home c.args.w.now h c.in-Some.ensures.parts

pub returns-in-None-clause-leaves : goal.returns-in-None-clause-leaves
returns-in-None-clause-leaves c = λ h. ends-nothing c.args.w.now c.args.home
