use Rattle.mb_scriptproxy.proofs.properties.has_said.Goals as goal

pub returns-then-said-clause-sure : goal.returns-then-said-clause-sure
returns-then-said-clause-sure c = λ d a. rw c.if-said.true (c.yes_or_no.ensures.sure c.args.home d)

pub returns-then-said-clause-leaves : goal.returns-then-said-clause-leaves
returns-then-said-clause-leaves c = λ d a. c.yes_or_no.ensures.leaves c.args.home d

pub returns-else-said-clause-sure : goal.returns-else-said-clause-sure
returns-else-said-clause-sure c = λ d a. rw c.if-said.false (c.absent_said.ensures.sure d a)

pub returns-else-said-clause-leaves : goal.returns-else-said-clause-leaves
returns-else-said-clause-leaves c = λ d a. c.absent_said.ensures.leaves d a
