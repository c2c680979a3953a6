use Rattle.std.proofs.Common.{refl}
use Rattle.mb_frames.specs.declared.statements.StmtFrame.TheVariants as y
use Rattle.mb_eval_stmt.proofs.Leaving.{waits-value}
use Rattle.mb_eval_stmt.proofs.loops.do_test.Goals as goal

pub returns-clause-leaves : goal.returns-clause-leaves
returns-clause-leaves c = λ home d h.
    waits-value d home (y.DoTest c.args.at c.args.node) c.args.test c.args.at refl (h.0, (h.1.0, (h.1.1.0, tt)))
    (h.0, (h.1.0, tt)) h.1.1.1.0.sound
