use Rattle.mb_scriptproxy.proofs.Resumed.{flag-side, flag-waits, keys-side, keys-wait, no-other-answer, property-side}
use Rattle.mb_scriptproxy.proofs.Resumed.{property-waits, value-waits}
use Rattle.mb_scriptproxy.proofs.resuming.answered.Goals as goal

pub with_value-requires-clause-acts : goal.with_value-requires-clause-acts
with_value-requires-clause-acts c =
    let a = c.requires.acts in
    record { ready = a.ready; side = a.side; holds = ((rw c.in-Value.is at c.requires.answer).0, a.holds) }

pub with_value-requires-clause-waits : goal.with_value-requires-clause-waits
with_value-requires-clause-waits c =
    value-waits c.args.frame c.in-Value.x (rw c.in-Value.is at c.requires.sort)

pub returns-in-Value-clause-part : goal.returns-in-Value-clause-part
returns-in-Value-clause-part c = λ f. rw c.in-Value.is (c.with_value.ensures.part f)

pub returns-in-Value-clause-keeps : goal.returns-in-Value-clause-keeps
returns-in-Value-clause-keeps c = rw c.in-Value.is c.with_value.ensures.keeps

pub with_flag-requires-clause-waits : goal.with_flag-requires-clause-waits
with_flag-requires-clause-waits c =
    flag-waits c.args.frame c.in-Flag.b (rw c.in-Flag.is at c.requires.sort)

pub returns-in-Flag-clause-part : goal.returns-in-Flag-clause-part
returns-in-Flag-clause-part c = λ f. rw (c.in-Flag.is, flag-side c.args.home c.args.frame c.in-Flag.b)
    (c.with_flag.ensures.part f)

pub returns-in-Flag-clause-keeps : goal.returns-in-Flag-clause-keeps
returns-in-Flag-clause-keeps c = rw (c.in-Flag.is, flag-side c.args.home c.args.frame c.in-Flag.b)
    c.with_flag.ensures.keeps

pub with_property-requires-clause-acts : goal.with_property-requires-clause-acts
with_property-requires-clause-acts c =
    let a = c.requires.acts in
    record { ready = a.ready; side = a.side; holds = ((rw c.in-Prop.is at c.requires.answer).0, a.holds) }

pub with_property-requires-clause-waits : goal.with_property-requires-clause-waits
with_property-requires-clause-waits c =
    property-waits c.args.frame c.in-Prop.real (rw c.in-Prop.is at c.requires.sort)

pub returns-in-Prop-clause-part : goal.returns-in-Prop-clause-part
returns-in-Prop-clause-part c = λ f. rw (c.in-Prop.is, property-side c.args.home c.args.frame c.in-Prop.real)
    (c.with_property.ensures.part f)

pub returns-in-Prop-clause-keeps : goal.returns-in-Prop-clause-keeps
returns-in-Prop-clause-keeps c = rw (c.in-Prop.is, property-side c.args.home c.args.frame c.in-Prop.real)
    c.with_property.ensures.keeps

pub with_keys-requires-clause-acts : goal.with_keys-requires-clause-acts
with_keys-requires-clause-acts c =
    let a = c.requires.acts in
    record { ready = a.ready; side = a.side; holds = ((rw c.in-Keys.is at c.requires.answer).0, a.holds) }

pub with_keys-requires-clause-waits : goal.with_keys-requires-clause-waits
with_keys-requires-clause-waits c =
    keys-wait c.args.frame c.in-Keys.keys (rw c.in-Keys.is at c.requires.sort)

pub returns-in-Keys-clause-part : goal.returns-in-Keys-clause-part
returns-in-Keys-clause-part c = λ f. rw (c.in-Keys.is, keys-side c.args.home c.args.frame c.in-Keys.keys)
    (c.with_keys.ensures.part f)

pub returns-in-Keys-clause-keeps : goal.returns-in-Keys-clause-keeps
returns-in-Keys-clause-keeps c = rw (c.in-Keys.is, keys-side c.args.home c.args.frame c.in-Keys.keys)
    c.with_keys.ensures.keeps

pub unreachable-requires : goal.unreachable-requires
unreachable-requires c =
    no-other-answer c.args.frame c.args.answer c.in_default.not-Value c.in_default.not-Flag c.in_default.not-Prop
    c.in_default.not-Keys c.requires.sort
