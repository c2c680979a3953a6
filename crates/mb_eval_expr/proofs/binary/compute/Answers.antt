use Rattle.mb_eval_expr.proofs.binary.compute.Goals as goal

pub returns-in-Less-clause-row : goal.returns-in-Less-clause-row
returns-in-Less-clause-row c = λ home. c.compared.ensures.row home c.args.fuel.now

pub returns-in-Minus-clause-row : goal.returns-in-Minus-clause-row
returns-in-Minus-clause-row c = λ home. c.arithmetic.ensures.row home c.args.w.now c.args.fuel.now
