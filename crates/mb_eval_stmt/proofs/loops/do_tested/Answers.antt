use Rattle.std.proofs.Common.{refl, true}
use Rattle.mb_frames.proofs.Steps.{Step-again, Step-sure}
use Rattle.mb_frames.specs.declared.task.Task.TheVariants as t
use Rattle.mb_model.specs.Meaning.{finished}
use Rattle.mb_model.specs.Task.{Nothing}
use Rattle.mb_model.specs.Writing.{give}
use Rattle.std.proofs.Common.{slice_get}
use Rattle.mb_frames.specs.Standing.{forms_at}
use Rattle.mb_eval_stmt.proofs.Leaving.{begins, do-evaluated, ends-nothing}
use Rattle.mb_frames.proofs.Keeping.{leaves-anew}
use Rattle.mb_eval_stmt.proofs.loops.do_tested.Goals as goal

pub returns-then-test-clause-row : goal.returns-then-test-clause-row
returns-then-test-clause-row c = λ home d f l i.
    rw c.if-test.true (Step-again home d (t.Evaluate c.args.node c.args.at) f l (i.0, (i.1, (tt, tt))))

pub returns-else-test-clause-row : goal.returns-else-test-clause-row
returns-else-test-clause-row c = λ home d f l i.
    rw c.if-test.false (Step-sure home true d (give Nothing finished) _ f l (record {
      same = λ w begun log k. refl;
      free = λ log. refl;
      calm = tt;
      ids = tt;
    }))

pub returns-then-test-clause-leaves : goal.returns-then-test-clause-leaves
returns-then-test-clause-leaves c = λ home d h.
    leaves-anew d home (t.Evaluate c.args.node c.args.at)
    (begins d home c.args.node c.args.at (h.0, (h.1.0, tt))
    (do-evaluated (slice_get (forms_at d home) c.args.node.0) h.1.1.0.sound)) tt

pub returns-else-test-clause-leaves : goal.returns-else-test-clause-leaves
returns-else-test-clause-leaves c = λ home d h. ends-nothing d home
