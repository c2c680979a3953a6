use Rattle.mb_scriptproxy.proofs.Resumed.{no-other-value}
use Rattle.mb_scriptproxy.proofs.resuming.with_value.Goals as goal

pub trap_got-requires : goal.trap_got-requires
trap_got-requires c = record { acts = rw c.in-TrapGot.is at c.requires.acts }

pub returns-in-TrapGot-clause-part : goal.returns-in-TrapGot-clause-part
returns-in-TrapGot-clause-part c = λ f. rw c.in-TrapGot.is (c.trap_got.ensures.part f)

pub returns-in-TrapGot-clause-keeps : goal.returns-in-TrapGot-clause-keeps
returns-in-TrapGot-clause-keeps c = rw c.in-TrapGot.is c.trap_got.ensures.keeps

pub trap_said-requires : goal.trap_said-requires
trap_said-requires c =
    let a = rw c.in-Said.is at c.requires.acts in
    record { acts = record { ready = a.ready; side = a.side; holds = a.holds } }

pub returns-in-Said-clause-part : goal.returns-in-Said-clause-part
returns-in-Said-clause-part c = λ f. rw c.in-Said.is (c.trap_said.ensures.part f)

pub returns-in-Said-clause-keeps : goal.returns-in-Said-clause-keeps
returns-in-Said-clause-keeps c = rw c.in-Said.is c.trap_said.ensures.keeps

pub prototype_read-requires : goal.prototype_read-requires
prototype_read-requires c =
    let a = rw c.in-PrototypeRead.is at c.requires.acts in
    record { acts = record { ready = a.ready; side = a.side; holds = (a.holds.1.0, (a.holds.0, tt)) } }

pub returns-in-PrototypeRead-clause-part : goal.returns-in-PrototypeRead-clause-part
returns-in-PrototypeRead-clause-part c = λ f. rw c.in-PrototypeRead.is (c.prototype_read.ensures.part f)

pub returns-in-PrototypeRead-clause-keeps : goal.returns-in-PrototypeRead-clause-keeps
returns-in-PrototypeRead-clause-keeps c = rw c.in-PrototypeRead.is c.prototype_read.ensures.keeps

pub set_prototype_read-requires : goal.set_prototype_read-requires
set_prototype_read-requires c =
    let a = rw c.in-SetPrototypeRead.is at c.requires.acts in
    record { acts = record { ready = a.ready; side = a.side; holds = (a.holds.1.0, (a.holds.0, tt)) } }

pub returns-in-SetPrototypeRead-clause-part : goal.returns-in-SetPrototypeRead-clause-part
returns-in-SetPrototypeRead-clause-part c = λ f. rw c.in-SetPrototypeRead.is (c.set_prototype_read.ensures.part f)

pub returns-in-SetPrototypeRead-clause-keeps : goal.returns-in-SetPrototypeRead-clause-keeps
returns-in-SetPrototypeRead-clause-keeps c = rw c.in-SetPrototypeRead.is c.set_prototype_read.ensures.keeps

pub unreachable-requires : goal.unreachable-requires
unreachable-requires c =
    let u = c.in_default in
    no-other-value c.args.frame c.requires.waits u.not-TrapGot u.not-Said u.not-PrototypeRead u.not-SetPrototypeRead
