use Rattle.mb_frames.proofs.Keeping.{expression-held}
use Rattle.mb_frames.proofs.HeldLess.{text-held}
use Rattle.mb_eval_expr.proofs.targets.target_of.Goals as goal

pub returns-in-Name-clause-nodes : goal.returns-in-Name-clause-nodes
returns-in-Name-clause-nodes c = λ home d p q. (text-held d home c.in-Name.name (rw c.in-Name.is at q), tt)

pub returns-in-Member-clause-nodes : goal.returns-in-Member-clause-nodes
returns-in-Member-clause-nodes c = λ home d p q. (
  expression-held d home c.in-Member.base (rw c.in-Member.is at p),
  (
    text-held d home c.in-Member.name
        (rw c.in-Member.is at q),
    tt,
  ),
)

pub returns-in-Index-clause-nodes : goal.returns-in-Index-clause-nodes
returns-in-Index-clause-nodes c = λ home d p q.
    let k = rw c.in-Index.is at p in
    (expression-held d home c.in-Index.base k.0, (expression-held d home c.in-Index.key k.1, tt))
