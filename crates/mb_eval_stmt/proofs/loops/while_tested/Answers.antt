use Rattle.std.proofs.Common.{refl}
use Rattle.mb_frames.specs.declared.statements.StmtFrame.TheVariants as y
use Rattle.mb_eval_stmt.proofs.Leaving.{ends-nothing, waits-any}
use Rattle.mb_eval_stmt.proofs.loops.while_tested.Goals as goal

pub returns-then-test-clause-leaves : goal.returns-then-test-clause-leaves
returns-then-test-clause-leaves c = λ home d h.
    waits-any d home (y.WhileBody c.args.at c.args.node) c.args.body c.args.at refl (h.0, (h.1.0, (h.1.1.0, tt)))
    (h.0, (h.1.0, tt)) h.1.1.1.0.sound

pub returns-else-test-clause-leaves : goal.returns-else-test-clause-leaves
returns-else-test-clause-leaves c = λ home d h. ends-nothing d home
