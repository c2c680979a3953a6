use Rattle.mb_eval_expr.proofs.choices.not_got.Goals as goal

pub returns-clause-row : goal.returns-clause-row
returns-clause-row c = rw (← c.truth.ensures) (c.truth_value.ensures.row c.args.home c.args.w.now)

pub returns-clause-leaves : goal.returns-clause-leaves
returns-clause-leaves c = c.truth_value.ensures.leaves c.args.home c.args.w.now
