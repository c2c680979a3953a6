use Rattle.std.proofs.Common.{sym, ◌∙◌}
use Rattle.mb_scriptproxy.proofs.Verdicts.{absent-same}
use Rattle.mb_scriptproxy.proofs.absent.absent_verdict.Goals as goal

pub returns-in-Own : goal.returns-in-Own
returns-in-Own c = λ n.
    rw c.in-Own.is (absent-same n 7 8 c.args.real c.args.extensible ∙ sym c.own_absent.ensures)

pub returns-in-Has : goal.returns-in-Has
returns-in-Has c = λ n.
    rw c.in-Has.is (absent-same n 17 17 c.args.real c.args.extensible ∙ sym c.has_not.ensures)

pub returns-in-Delete : goal.returns-in-Delete
returns-in-Delete c = λ n.
    rw c.in-Delete.is (absent-same n 20 20 c.args.real c.args.extensible ∙ sym c.delete.ensures)
