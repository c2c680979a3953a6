use Rattle.mb_frames.proofs.Steps.{Step-again}
use Rattle.mb_frames.specs.declared.task.Task.TheVariants as t
use Rattle.mb_frames.proofs.Keeping.{leaves-anew}
use Rattle.mb_eval_stmt.proofs.fors.for_again.Goals as goal

pub returns-clause-row : goal.returns-clause-row
returns-clause-row c = λ home d f l i. Step-again home d (t.Loop c.args.node c.args.at) f l (i.0, (i.1, (tt, tt)))

pub returns-clause-leaves : goal.returns-clause-leaves
returns-clause-leaves c = λ home d h. leaves-anew d home (t.Loop c.args.node c.args.at) h tt
