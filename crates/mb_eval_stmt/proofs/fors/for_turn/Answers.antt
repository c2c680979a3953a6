use Rattle.std.proofs.Common.{Some, ap, refl}
use Rattle.mb_frames.specs.Kinds.{Expression, is_for_form}
use Rattle.mb_frames.specs.declared.statements.StmtFrame.TheVariants as y
use Rattle.mb_frames.specs.Told.{IsNodeOf}
use Rattle.mb_world.specs.Ids.{Maybe}
use Rattle.mb_eval_stmt.proofs.Leaving.{waits-value}
use Rattle.mb_frames.proofs.Keeping.{expression-is, node-held}
use Rattle.mb_eval_stmt.proofs.fors.for_turn.Goals as goal

pub returns-in-Some-clause-leaves : goal.returns-in-Some-clause-leaves
returns-in-Some-clause-leaves c = λ home d h q.
    let s : Maybe (IsNodeOf d home Expression) (Some c.in-Some.test) = rw c.in-Some.is at q.test in
    waits-value d home (y.ForTest c.args.at c.args.node) c.in-Some.test c.args.at refl
    (h.0, (h.1.0, (node-held d home is_for_form c.args.node.0 (ap is_for_form q.there), tt))) h
    (expression-is d home c.in-Some.test s)

pub returns-in-None-clause-row : goal.returns-in-None-clause-row
returns-in-None-clause-row c = λ home d i q. rw c.in-None.is (c.for_body.ensures.row home d i q)

pub returns-in-None-clause-leaves : goal.returns-in-None-clause-leaves
returns-in-None-clause-leaves c = λ home d h q. c.for_body.ensures.leaves home d h q
