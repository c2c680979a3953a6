use Rattle.mb_arrayapi.proofs.errors.type_error.Goals as goal
use Rattle.mb_parts.proofs.Acting.{ready-acts}

pub throws-requires : goal.throws-requires
throws-requires c = ready-acts c.args.w.now c.args.home c.requires.ready c.requires.side

pub returns-clause-keeps : goal.returns-clause-keeps
returns-clause-keeps c = λ wanted. c.throws.ensures.keeps wanted c.requires.ready c.requires.side tt
