use Rattle.mb_eval_stmt.proofs.Leaving.{undefined-held}
use Rattle.mb_eval_stmt.proofs.values.value_of.Goals as goal

pub returns-in-Value-clause-held : goal.returns-in-Value-clause-held
returns-in-Value-clause-held c = λ home d h. (rw c.in-Value.is at h).0

pub returns-in_default-clause-held : goal.returns-in_default-clause-held
returns-in_default-clause-held c = λ home d h. undefined-held d home
