use Rattle.std.proofs.Common.{Bool, ap}
use Rattle.std.specs.Prelude.{is_some}
use Rattle.mb_base.specs.declared.value.Value.TheVariants as v
use Rattle.mb_frames.proofs.HeldLess.{flag-held}
use Rattle.mb_model.specs.Meaning.{finished}
use Rattle.mb_model.specs.Writing.{truth}
use Rattle.mb_reflect.proofs.Doing.{done-value, keeps-given}
use Rattle.mb_reflect.proofs.Listed.{same-some}
use Rattle.mb_reflect.proofs.Waiting.{no-more-properties}
use Rattle.mb_world.specs.Image.{Image, full_in, names_of}
use Rattle.mb_reflect.proofs.resuming.property_got.Goals as goal

pub key_read-requires : goal.key_read-requires
key_read-requires c =
    let a = rw c.in-KeyRead.is at c.requires.acts in
    record { acts = record { ready = a.ready; side = a.side; holds = a.holds.1 } }

pub returns-in-KeyRead-clause-part : goal.returns-in-KeyRead-clause-part
returns-in-KeyRead-clause-part c = rw c.in-KeyRead.is c.key_read.ensures.part

pub returns-in-KeyRead-clause-keeps : goal.returns-in-KeyRead-clause-keeps
returns-in-KeyRead-clause-keeps c = rw c.in-KeyRead.is c.key_read.ensures.keeps

pub returns-in-FreezeRead-clause-part : goal.returns-in-FreezeRead-clause-part
returns-in-FreezeRead-clause-part c =
    let a = rw c.in-FreezeRead.is at c.requires.acts in
    rw c.in-FreezeRead.is
    (c.freeze_found.ensures.part c.args.w.now
    (record {
      ready = a.ready;
      side = a.side;
      holds = (a.holds.1.0, (a.holds.1.1.0, (a.holds.1.1.1.0, (a.holds.0, tt))));
    }))

pub returns-in-FreezeRead-clause-keeps : goal.returns-in-FreezeRead-clause-keeps
returns-in-FreezeRead-clause-keeps c =
    let a = rw c.in-FreezeRead.is at c.requires.acts in
    rw c.in-FreezeRead.is
    (c.freeze_found.ensures.keeps c.args.w.now
    (record {
      ready = a.ready;
      side = a.side;
      holds = (a.holds.1.0, (a.holds.1.1.0, (a.holds.1.1.1.0, (a.holds.0, tt))));
    }))

pub returns-in-FrozenRead-clause-part : goal.returns-in-FrozenRead-clause-part
returns-in-FrozenRead-clause-part c =
    let a = rw c.in-FrozenRead.is at c.requires.acts in
    rw c.in-FrozenRead.is
    (c.frozen_read.ensures.part c.args.w.now (record { ready = a.ready; side = a.side; holds = a.holds.1 }))

pub returns-in-FrozenRead-clause-keeps : goal.returns-in-FrozenRead-clause-keeps
returns-in-FrozenRead-clause-keeps c =
    let a = rw c.in-FrozenRead.is at c.requires.acts in
    rw c.in-FrozenRead.is
    (c.frozen_read.ensures.keeps c.args.w.now (record { ready = a.ready; side = a.side; holds = a.holds.1 }))

pub described-requires : goal.described-requires
described-requires c =
    let a = c.requires.acts in
    record { acts = record { ready = a.ready; side = a.side; holds = (a.holds.0, tt) } }

pub returns-in-Described-clause-part : goal.returns-in-Described-clause-part
returns-in-Described-clause-part c = rw c.in-Described.is (c.described.ensures.part c.args.fuel.now)

pub returns-in-Described-clause-keeps : goal.returns-in-Described-clause-keeps
returns-in-Described-clause-keeps c = rw c.in-Described.is c.described.ensures.keeps

pub returns-in-HasOwn-clause-part : goal.returns-in-HasOwn-clause-part
returns-in-HasOwn-clause-part c =
    let d = c.args.w.now in
    rw (c.in-HasOwn.is, c.value.ensures, c.is_some.ensures)
    (done-value c.args.home d c.args.fuel.now c.requires.acts.ready _ (v.Bool (is_some c.args.found))
    (flag-held d c.args.home (is_some c.args.found))
    (λ log. ap (λ (b : Bool). truth b finished (Image d log))
    (same-some (full_in (names_of d)) c.args.found))).part

pub returns-in-HasOwn-clause-keeps : goal.returns-in-HasOwn-clause-keeps
returns-in-HasOwn-clause-keeps c =
    let d = c.args.w.now in
    rw (c.in-HasOwn.is, c.value.ensures)
    (keeps-given c.args.home d c.requires.acts.ready (v.Bool c.is_some.result)
    (flag-held d c.args.home c.is_some.result))

pub unreachable-requires : goal.unreachable-requires
unreachable-requires c =
    no-more-properties c.args.frame c.requires.waits c.in_default.not-KeyRead c.in_default.not-FreezeRead
    c.in_default.not-FrozenRead c.in_default.not-Described c.in_default.not-HasOwn
