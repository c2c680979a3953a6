use Rattle.mb_frames.proofs.Steps.{Step-sure}
use Rattle.mb_frames.specs.Resolved.{context_in, outcome_in}
use Rattle.mb_model.specs.Meaning.{finished}
use Rattle.mb_model.specs.Nodes.Evaluation.{task}
use Rattle.mb_model.specs.Nodes.Statements.{body_ended, do_test}
use Rattle.mb_world.specs.Image.{names_of}
use Rattle.std.proofs.Common.{◌∙◌, sym, true}
use Rattle.mb_eval_stmt.proofs.Ended.{goes-on}
use Rattle.mb_eval_stmt.proofs.loops.do_ended.Goals as goal

pub returns-then-goes_round-clause-row : goal.returns-then-goes_round-clause-row
returns-then-goes_round-clause-row c = λ home d f l i y.
    let x = context_in (names_of d) home.0 c.args.at in
    let next = do_test x (task x c.args.node.0) c.args.test.0 in
    rw (goes-on (names_of d) next c.args.outcome (sym c.goes_round.ensures ∙ c.if-goes_round.true))
    (Step-sure home true d (next finished) _ f l (c.do_test.ensures.row home d i))

pub returns-else-goes_round-clause-row : goal.returns-else-goes_round-clause-row
returns-else-goes_round-clause-row c = λ home d f l i y.
    let x = context_in (names_of d) home.0 c.args.at in
    let next = do_test x (task x c.args.node.0) c.args.test.0 in
    Step-sure home true d (body_ended next (outcome_in (names_of d) c.args.outcome) finished) _ f l
    (c.leaves.ensures.row home d next y)

pub returns-then-goes_round-clause-leaves : goal.returns-then-goes_round-clause-leaves
returns-then-goes_round-clause-leaves c = λ home d h k. c.do_test.ensures.leaves home d h

pub returns-else-goes_round-clause-leaves : goal.returns-else-goes_round-clause-leaves
returns-else-goes_round-clause-leaves c = λ home d h k. c.leaves.ensures.leaves home d k
