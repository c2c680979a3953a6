use Rattle.std.proofs.Common.{Ok, refl}
use Rattle.mb_base.specs.declared.value.Value.TheVariants as v
use Rattle.mb_frames.proofs.HeldLess.{flag-held}
use Rattle.mb_frames.proofs.Keeping.{keeps-same}
use Rattle.mb_frames.proofs.Passed.{Part-sure}
use Rattle.mb_frames.specs.Sorts.{AValue}
use Rattle.mb_reflect.proofs.Doing.{done-value, keeps-given}
use Rattle.mb_reflect.proofs.Waiting.{no-more-flags}
use Rattle.mb_reflect.proofs.resuming.flag_got.Goals as goal

pub closed-requires : goal.closed-requires
closed-requires c = record { acts = rw c.in-Closed.is at c.requires.acts }

pub returns-in-Closed-clause-part : goal.returns-in-Closed-clause-part
returns-in-Closed-clause-part c = rw c.in-Closed.is (c.closed.ensures.part c.args.fuel.now)

pub returns-in-Closed-clause-keeps : goal.returns-in-Closed-clause-keeps
returns-in-Closed-clause-keeps c = rw c.in-Closed.is c.closed.ensures.keeps

pub settled-requires : goal.settled-requires
settled-requires c = record { acts = rw c.in-Settled.is at c.requires.acts }

pub returns-in-Settled-clause-part : goal.returns-in-Settled-clause-part
returns-in-Settled-clause-part c = rw c.in-Settled.is c.settled.ensures.part

pub returns-in-Settled-clause-keeps : goal.returns-in-Settled-clause-keeps
returns-in-Settled-clause-keeps c = rw c.in-Settled.is c.settled.ensures.keeps

pub returns-in-FrozenExtensible-clause-part : goal.returns-in-FrozenExtensible-clause-part
returns-in-FrozenExtensible-clause-part c =
    let d = c.args.w.now in
    rw c.in-FrozenExtensible.is
    (Part-sure c.args.home d c.args.fuel.now _ c.frozen_open.result
    (c.frozen_open.ensures.sure d (rw c.in-FrozenExtensible.is at c.requires.acts)))

pub returns-in-FrozenExtensible-clause-keeps : goal.returns-in-FrozenExtensible-clause-keeps
returns-in-FrozenExtensible-clause-keeps c =
    let d = c.args.w.now in
    rw c.in-FrozenExtensible.is
    (keeps-same c.args.home AValue (Ok c.frozen_open.result) d c.requires.acts.ready
    (c.frozen_open.ensures.leaves d (rw c.in-FrozenExtensible.is at c.requires.acts)))

pub given_back-requires : goal.given_back-requires
given_back-requires c = record { acts = rw c.in-GivenBack.is at c.requires.acts }

pub returns-in-GivenBack-clause-part : goal.returns-in-GivenBack-clause-part
returns-in-GivenBack-clause-part c = rw c.in-GivenBack.is (c.given_back.ensures.part c.args.fuel.now)

pub returns-in-GivenBack-clause-keeps : goal.returns-in-GivenBack-clause-keeps
returns-in-GivenBack-clause-keeps c = rw c.in-GivenBack.is c.given_back.ensures.keeps

pub returns-in-Truth-clause-part : goal.returns-in-Truth-clause-part
returns-in-Truth-clause-part c =
    let d = c.args.w.now in
    rw (c.in-Truth.is, c.value.ensures)
    (done-value c.args.home d c.args.fuel.now c.requires.acts.ready _ (v.Bool c.args.b)
    (flag-held d c.args.home c.args.b) (λ log. refl)).part

pub returns-in-Truth-clause-keeps : goal.returns-in-Truth-clause-keeps
returns-in-Truth-clause-keeps c =
    let d = c.args.w.now in
    rw (c.in-Truth.is, c.value.ensures)
    (keeps-given c.args.home d c.requires.acts.ready (v.Bool c.args.b) (flag-held d c.args.home c.args.b))

pub unreachable-requires : goal.unreachable-requires
unreachable-requires c =
    no-more-flags c.args.frame c.requires.waits c.in_default.not-Closed c.in_default.not-Settled
    c.in_default.not-FrozenExtensible c.in_default.not-GivenBack c.in_default.not-Truth
