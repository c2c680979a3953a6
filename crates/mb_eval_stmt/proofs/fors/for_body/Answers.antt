use Rattle.std.proofs.Common.{ap, refl}
use Rattle.mb_frames.specs.Kinds.{is_for_form}
use Rattle.mb_frames.specs.declared.statements.StmtFrame.TheVariants as y
use Rattle.mb_eval_stmt.proofs.Leaving.{ends-nothing, waits-any}
use Rattle.mb_frames.proofs.Keeping.{node-held, statement-is}
use Rattle.mb_eval_stmt.proofs.fors.for_body.Goals as goal

pub returns-then-test-clause-leaves : goal.returns-then-test-clause-leaves
returns-then-test-clause-leaves c = λ home d h q.
    waits-any d home (y.ForBody c.args.at c.args.node) c.args.parts.body c.args.at refl
    (h.0, (h.1.0, (node-held d home is_for_form c.args.node.0 (ap is_for_form q.there), tt))) h
    (statement-is d home c.args.parts.body q.body)

pub returns-else-test-clause-leaves : goal.returns-else-test-clause-leaves
returns-else-test-clause-leaves c = λ home d h q. ends-nothing d home
