use Rattle.mb_parts.proofs.Acting.{ready-acts}
use Rattle.mb_scriptproxy.proofs.errors.type_error.Goals as goal

pub throws-requires : goal.throws-requires
throws-requires c = ready-acts c.args.w.now c.args.home c.requires.ready c.requires.side

pub returns-clause-keeps : goal.returns-clause-keeps
returns-clause-keeps c = λ wanted. c.throws.ensures.keeps wanted c.requires.ready c.requires.side tt
