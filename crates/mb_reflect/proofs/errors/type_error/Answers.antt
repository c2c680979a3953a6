use Rattle.mb_parts.proofs.Acting.{ready-acts}
use Rattle.mb_reflect.proofs.errors.type_error.Goals as goal

pub type_error-requires : goal.type_error-requires
type_error-requires c = ready-acts c.args.w.now c.args.home c.requires.ready c.requires.side

pub returns-clause-keeps : goal.returns-clause-keeps
returns-clause-keeps c = λ wanted. c.type_error.ensures.keeps wanted c.requires.ready c.requires.side tt
