use Rattle.std.proofs.Common.{Ok}
use Rattle.mb_frames.proofs.Keeping.{keeps-same}
use Rattle.mb_frames.proofs.Passed.{Part-sure}
use Rattle.mb_frames.specs.Sorts.{AFlag, AProperty}
use Rattle.mb_scriptproxy.proofs.Resumed.{no-other-property}
use Rattle.mb_scriptproxy.proofs.resuming.with_property.Goals as goal

pub absent_read-requires : goal.absent_read-requires
absent_read-requires c =
    let a = rw c.in-AbsentRead.is at c.requires.acts in
    record { acts = record { ready = a.ready; side = a.side; holds = (a.holds.1.0, (a.holds.0, tt)) } }

pub returns-in-AbsentRead-clause-part : goal.returns-in-AbsentRead-clause-part
returns-in-AbsentRead-clause-part c = λ f. rw c.in-AbsentRead.is (c.absent_read.ensures.part f)

pub returns-in-AbsentRead-clause-keeps : goal.returns-in-AbsentRead-clause-keeps
returns-in-AbsentRead-clause-keeps c = rw c.in-AbsentRead.is c.absent_read.ensures.keeps

pub returns-in-OwnRead-clause-part : goal.returns-in-OwnRead-clause-part
returns-in-OwnRead-clause-part c = λ f.
    let d = c.args.w.now in
    let a = rw c.in-OwnRead.is at c.requires.acts in
    rw c.in-OwnRead.is
    (Part-sure c.args.home d f _ c.own_read.result
    (c.own_read.ensures.sure d (record {
      ready = a.ready;
      side = a.side;
      holds = (
        a.holds.1.0,
        (
          a.holds.1.1.0,
          (a.holds.0, tt),
        ),
      );
    })))

pub returns-in-OwnRead-clause-keeps : goal.returns-in-OwnRead-clause-keeps
returns-in-OwnRead-clause-keeps c =
    let d = c.args.w.now in
    let a = rw c.in-OwnRead.is at c.requires.acts in
    rw c.in-OwnRead.is
    (keeps-same c.args.home AProperty (Ok c.own_read.result) d a.ready
    (c.own_read.ensures.leaves d (record {
      ready = a.ready;
      side = a.side;
      holds = (
        a.holds.1.0,
        (
          a.holds.1.1.0,
          (a.holds.0, tt),
        ),
      );
    })))

pub returns-in-DefineRead-clause-part : goal.returns-in-DefineRead-clause-part
returns-in-DefineRead-clause-part c = λ f.
    let d = c.args.w.now in
    let a = rw c.in-DefineRead.is at c.requires.acts in
    rw c.in-DefineRead.is
    (Part-sure c.args.home d f _ c.define_read.result
    (c.define_read.ensures.sure d (record {
      ready = a.ready;
      side = a.side;
      holds = (
        a.holds.1.0,
        (
          a.holds.1.1.0,
          (a.holds.0, tt),
        ),
      );
    })))

pub returns-in-DefineRead-clause-keeps : goal.returns-in-DefineRead-clause-keeps
returns-in-DefineRead-clause-keeps c =
    let d = c.args.w.now in
    let a = rw c.in-DefineRead.is at c.requires.acts in
    rw c.in-DefineRead.is
    (keeps-same c.args.home AFlag (Ok c.define_read.result) d a.ready
    (c.define_read.ensures.leaves d (record {
      ready = a.ready;
      side = a.side;
      holds = (
        a.holds.1.0,
        (
          a.holds.1.1.0,
          (a.holds.0, tt),
        ),
      );
    })))

pub get_read-requires : goal.get_read-requires
get_read-requires c =
    let a = rw c.in-GetRead.is at c.requires.acts in
    record { acts = record { ready = a.ready; side = a.side; holds = (a.holds.1.0, (a.holds.0, tt)) } }

pub returns-in-GetRead-clause-part : goal.returns-in-GetRead-clause-part
returns-in-GetRead-clause-part c = λ f. rw c.in-GetRead.is (c.get_read.ensures.part f)

pub returns-in-GetRead-clause-keeps : goal.returns-in-GetRead-clause-keeps
returns-in-GetRead-clause-keeps c = rw c.in-GetRead.is c.get_read.ensures.keeps

pub set_read-requires : goal.set_read-requires
set_read-requires c =
    let a = rw c.in-SetRead.is at c.requires.acts in
    record { acts = record { ready = a.ready; side = a.side; holds = (a.holds.1.0, (a.holds.0, tt)) } }

pub returns-in-SetRead-clause-part : goal.returns-in-SetRead-clause-part
returns-in-SetRead-clause-part c = λ f. rw c.in-SetRead.is (c.set_read.ensures.part f)

pub returns-in-SetRead-clause-keeps : goal.returns-in-SetRead-clause-keeps
returns-in-SetRead-clause-keeps c = rw c.in-SetRead.is c.set_read.ensures.keeps

pub key_read-requires : goal.key_read-requires
key_read-requires c =
    let a = rw c.in-KeyRead.is at c.requires.acts in
    record {
      acts = record {
        ready = a.ready;
        side = a.side;
        holds = (
          a.holds.1.0,
          (
            a.holds.1.1.1.0,
            (
              a.holds.1.1.0,
              (a.holds.1.1.1.1.0, (a.holds.1.1.1.1.1.0, (a.holds.1.1.1.1.1.1.0, tt))),
            ),
          ),
        );
      };
    }

pub returns-in-KeyRead-clause-part : goal.returns-in-KeyRead-clause-part
returns-in-KeyRead-clause-part c = λ f. rw c.in-KeyRead.is (c.key_read.ensures.part f)

pub returns-in-KeyRead-clause-keeps : goal.returns-in-KeyRead-clause-keeps
returns-in-KeyRead-clause-keeps c = rw c.in-KeyRead.is c.key_read.ensures.keeps

pub unreachable-requires : goal.unreachable-requires
unreachable-requires c =
    let u = c.in_default in
    no-other-property c.args.frame c.requires.waits u.not-AbsentRead u.not-OwnRead u.not-DefineRead u.not-GetRead
    u.not-SetRead u.not-KeyRead
