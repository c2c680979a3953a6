use Rattle.mb_eval_expr.proofs.giving.performs.Goals as goal

pub returns-clause-leaves : goal.returns-clause-leaves
returns-clause-leaves c = λ d e r i h. rw c.asks.ensures (record { holds = h; fit = tt; gives = e })
