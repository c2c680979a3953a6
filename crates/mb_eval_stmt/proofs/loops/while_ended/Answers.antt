use Rattle.mb_frames.proofs.Steps.{Step-again, Step-sure}
use Rattle.mb_frames.specs.Resolved.{context_in, outcome_in}
use Rattle.mb_frames.specs.declared.task.Task.TheVariants as t
use Rattle.mb_model.specs.Meaning.{finished}
use Rattle.mb_model.specs.Nodes.Evaluation.{task}
use Rattle.mb_model.specs.Nodes.Statements.{body_ended}
use Rattle.mb_model.specs.Writing.{again}
use Rattle.mb_world.specs.Image.{names_of}
use Rattle.std.proofs.Common.{◌∙◌, sym, true}
use Rattle.mb_eval_stmt.proofs.Ended.{goes-on}
use Rattle.std.proofs.Common.{slice_get}
use Rattle.mb_frames.specs.Standing.{forms_at}
use Rattle.mb_eval_stmt.proofs.Leaving.{begins, while-evaluated}
use Rattle.mb_frames.proofs.Keeping.{leaves-anew}
use Rattle.mb_eval_stmt.proofs.loops.while_ended.Goals as goal

pub returns-then-goes_round-clause-row : goal.returns-then-goes_round-clause-row
returns-then-goes_round-clause-row c = λ home d f l i y.
    rw (goes-on (names_of d) (again (task (context_in (names_of d) home.0 c.args.at) c.args.node.0)) c.args.outcome
    (sym c.goes_round.ensures ∙ c.if-goes_round.true))
    (Step-again home d (t.Evaluate c.args.node c.args.at) f l (i.0, (i.1, (tt, tt))))

pub returns-else-goes_round-clause-row : goal.returns-else-goes_round-clause-row
returns-else-goes_round-clause-row c = λ home d f l i y.
    let next = again (task (context_in (names_of d) home.0 c.args.at) c.args.node.0) in
    Step-sure home true d (body_ended next (outcome_in (names_of d) c.args.outcome) finished) _ f l
    (c.leaves.ensures.row home d next y)

pub returns-then-goes_round-clause-leaves : goal.returns-then-goes_round-clause-leaves
returns-then-goes_round-clause-leaves c = λ home d h k.
    leaves-anew d home (t.Evaluate c.args.node c.args.at)
    (begins d home c.args.node c.args.at (h.0, (h.1.0, tt))
    (while-evaluated (slice_get (forms_at d home) c.args.node.0) h.1.1.0.sound)) tt

pub returns-else-goes_round-clause-leaves : goal.returns-else-goes_round-clause-leaves
returns-else-goes_round-clause-leaves c = λ home d h k. c.leaves.ensures.leaves home d k
