use Rattle.std.proofs.Common.{Ok}
use Rattle.mb_frames.proofs.Keeping.{keeps-same}
use Rattle.mb_frames.proofs.Passed.{Part-sure}
use Rattle.mb_frames.specs.Sorts.{AFlag, AValue}
use Rattle.mb_scriptproxy.proofs.said.trap_said.Goals as goal

pub truth-yes-requires : goal.truth-yes-requires
truth-yes-requires c = c.requires.acts.holds.0.within

pub prototype_said-requires : goal.prototype_said-requires
prototype_said-requires c =
    let a = rw c.in-GetPrototypeOf.is at c.requires.acts in
    record { acts = record { ready = a.ready; side = a.side; holds = (a.holds.1.0, (a.holds.0, tt)) } }

pub returns-in-GetPrototypeOf-clause-part : goal.returns-in-GetPrototypeOf-clause-part
returns-in-GetPrototypeOf-clause-part c = λ f. rw c.in-GetPrototypeOf.is (c.prototype_said.ensures.part f)

pub returns-in-GetPrototypeOf-clause-keeps : goal.returns-in-GetPrototypeOf-clause-keeps
returns-in-GetPrototypeOf-clause-keeps c = rw c.in-GetPrototypeOf.is c.prototype_said.ensures.keeps

pub returns-in-SetPrototypeOf-clause-part : goal.returns-in-SetPrototypeOf-clause-part
returns-in-SetPrototypeOf-clause-part c = λ f.
    let d = c.args.w.now in
    let a = rw c.in-SetPrototypeOf.is at c.requires.acts in
    rw (c.in-SetPrototypeOf.is, ← c.truth-yes.ensures)
    (Part-sure c.args.home d f _ c.set_prototype_said.result
    (c.set_prototype_said.ensures.sure d (record {
      ready = a.ready;
      side = a.side;
      holds = (
        a.holds.1.0,
        (a.holds.1.1.0, tt),
      );
    })))

pub returns-in-SetPrototypeOf-clause-keeps : goal.returns-in-SetPrototypeOf-clause-keeps
returns-in-SetPrototypeOf-clause-keeps c =
    let d = c.args.w.now in
    let a = rw c.in-SetPrototypeOf.is at c.requires.acts in
    rw c.in-SetPrototypeOf.is
    (keeps-same c.args.home AFlag (Ok c.set_prototype_said.result) d c.requires.acts.ready
    (c.set_prototype_said.ensures.leaves d (record {
      ready = a.ready;
      side = a.side;
      holds = (
        a.holds.1.0,
        (a.holds.1.1.0, tt),
      );
    })))

pub returns-in-IsExtensible-clause-part : goal.returns-in-IsExtensible-clause-part
returns-in-IsExtensible-clause-part c = λ f.
    let d = c.args.w.now in
    let a = rw c.in-IsExtensible.is at c.requires.acts in
    rw (c.in-IsExtensible.is, ← c.truth-yes.ensures)
    (Part-sure c.args.home d f _ c.extensible_said.result
    (c.extensible_said.ensures.sure d (record { ready = a.ready; side = a.side; holds = (a.holds.1.0, tt) })))

pub returns-in-IsExtensible-clause-keeps : goal.returns-in-IsExtensible-clause-keeps
returns-in-IsExtensible-clause-keeps c =
    let d = c.args.w.now in
    let a = rw c.in-IsExtensible.is at c.requires.acts in
    rw c.in-IsExtensible.is
    (keeps-same c.args.home AFlag (Ok c.extensible_said.result) d c.requires.acts.ready
    (c.extensible_said.ensures.leaves d (record { ready = a.ready; side = a.side; holds = (a.holds.1.0, tt) })))

pub returns-in-PreventExtensions-clause-part : goal.returns-in-PreventExtensions-clause-part
returns-in-PreventExtensions-clause-part c = λ f.
    let d = c.args.w.now in
    let a = rw c.in-PreventExtensions.is at c.requires.acts in
    rw (c.in-PreventExtensions.is, ← c.truth-yes.ensures)
    (Part-sure c.args.home d f _ c.prevent_said.result
    (c.prevent_said.ensures.sure d (record { ready = a.ready; side = a.side; holds = (a.holds.1.0, tt) })))

pub returns-in-PreventExtensions-clause-keeps : goal.returns-in-PreventExtensions-clause-keeps
returns-in-PreventExtensions-clause-keeps c =
    let d = c.args.w.now in
    let a = rw c.in-PreventExtensions.is at c.requires.acts in
    rw c.in-PreventExtensions.is
    (keeps-same c.args.home AFlag (Ok c.prevent_said.result) d c.requires.acts.ready
    (c.prevent_said.ensures.leaves d (record { ready = a.ready; side = a.side; holds = (a.holds.1.0, tt) })))

pub own_said-requires : goal.own_said-requires
own_said-requires c =
    let a = rw c.in-GetOwnProperty.is at c.requires.acts in
    record { acts = record { ready = a.ready; side = a.side; holds = (a.holds.1.0, (a.holds.1.1.0, (a.holds.0, tt))) } }

pub returns-in-GetOwnProperty-clause-part : goal.returns-in-GetOwnProperty-clause-part
returns-in-GetOwnProperty-clause-part c = λ f. rw c.in-GetOwnProperty.is (c.own_said.ensures.part f)

pub returns-in-GetOwnProperty-clause-keeps : goal.returns-in-GetOwnProperty-clause-keeps
returns-in-GetOwnProperty-clause-keeps c = rw c.in-GetOwnProperty.is c.own_said.ensures.keeps

pub returns-in-DefineOwnProperty-clause-part : goal.returns-in-DefineOwnProperty-clause-part
returns-in-DefineOwnProperty-clause-part c = λ f.
    let d = c.args.w.now in
    let a = rw c.in-DefineOwnProperty.is at c.requires.acts in
    rw (c.in-DefineOwnProperty.is, ← c.truth-yes.ensures)
    (Part-sure c.args.home d f _ c.define_said.result
    (c.define_said.ensures.sure d (record {
      ready = a.ready;
      side = a.side;
      holds = (
        a.holds.1.0,
        (
          a.holds.1.1.0,
          (a.holds.1.1.1.0, tt),
        ),
      );
    })))

pub returns-in-DefineOwnProperty-clause-keeps : goal.returns-in-DefineOwnProperty-clause-keeps
returns-in-DefineOwnProperty-clause-keeps c =
    let d = c.args.w.now in
    let a = rw c.in-DefineOwnProperty.is at c.requires.acts in
    rw c.in-DefineOwnProperty.is
    (keeps-same c.args.home AFlag (Ok c.define_said.result) d c.requires.acts.ready
    (c.define_said.ensures.leaves d (record {
      ready = a.ready;
      side = a.side;
      holds = (
        a.holds.1.0,
        (
          a.holds.1.1.0,
          (a.holds.1.1.1.0, tt),
        ),
      );
    })))

pub returns-in-HasProperty-clause-part : goal.returns-in-HasProperty-clause-part
returns-in-HasProperty-clause-part c = λ f.
    let d = c.args.w.now in
    let a = rw c.in-HasProperty.is at c.requires.acts in
    rw (c.in-HasProperty.is, ← c.truth-yes.ensures)
    (Part-sure c.args.home d f _ c.has_said.result
    (c.has_said.ensures.sure d (record { ready = a.ready; side = a.side; holds = (a.holds.1.0, (a.holds.1.1.0, tt)) })))

pub returns-in-HasProperty-clause-keeps : goal.returns-in-HasProperty-clause-keeps
returns-in-HasProperty-clause-keeps c =
    let d = c.args.w.now in
    let a = rw c.in-HasProperty.is at c.requires.acts in
    rw c.in-HasProperty.is
    (keeps-same c.args.home AFlag (Ok c.has_said.result) d c.requires.acts.ready
    (c.has_said.ensures.leaves d (record {
      ready = a.ready;
      side = a.side;
      holds = (a.holds.1.0, (a.holds.1.1.0, tt));
    })))

pub returns-in-Get-clause-part : goal.returns-in-Get-clause-part
returns-in-Get-clause-part c = λ f.
    let d = c.args.w.now in
    let a = rw c.in-Get.is at c.requires.acts in
    rw c.in-Get.is
    (Part-sure c.args.home d f _ c.get_said.result
    (c.get_said.ensures.sure d (record {
      ready = a.ready;
      side = a.side;
      holds = (
        a.holds.1.0,
        (
          a.holds.1.1.0,
          (a.holds.0, tt),
        ),
      );
    })))

pub returns-in-Get-clause-keeps : goal.returns-in-Get-clause-keeps
returns-in-Get-clause-keeps c =
    let d = c.args.w.now in
    let a = rw c.in-Get.is at c.requires.acts in
    rw c.in-Get.is
    (keeps-same c.args.home AValue (Ok c.get_said.result) d c.requires.acts.ready
    (c.get_said.ensures.leaves d (record {
      ready = a.ready;
      side = a.side;
      holds = (
        a.holds.1.0,
        (
          a.holds.1.1.0,
          (a.holds.0, tt),
        ),
      );
    })))

pub returns-in-Set-clause-part : goal.returns-in-Set-clause-part
returns-in-Set-clause-part c = λ f.
    let d = c.args.w.now in
    let a = rw c.in-Set.is at c.requires.acts in
    rw (c.in-Set.is, ← c.truth-yes.ensures)
    (Part-sure c.args.home d f _ c.set_said.result
    (c.set_said.ensures.sure d (record {
      ready = a.ready;
      side = a.side;
      holds = (
        a.holds.1.0,
        (
          a.holds.1.1.0,
          (a.holds.1.1.1.0, tt),
        ),
      );
    })))

pub returns-in-Set-clause-keeps : goal.returns-in-Set-clause-keeps
returns-in-Set-clause-keeps c =
    let d = c.args.w.now in
    let a = rw c.in-Set.is at c.requires.acts in
    rw c.in-Set.is
    (keeps-same c.args.home AFlag (Ok c.set_said.result) d c.requires.acts.ready
    (c.set_said.ensures.leaves d (record {
      ready = a.ready;
      side = a.side;
      holds = (
        a.holds.1.0,
        (
          a.holds.1.1.0,
          (a.holds.1.1.1.0, tt),
        ),
      );
    })))

pub returns-in-Delete-clause-part : goal.returns-in-Delete-clause-part
returns-in-Delete-clause-part c = λ f.
    let d = c.args.w.now in
    let a = rw c.in-Delete.is at c.requires.acts in
    rw (c.in-Delete.is, ← c.truth-yes.ensures)
    (Part-sure c.args.home d f _ c.delete_said.result
    (c.delete_said.ensures.sure d (record {
      ready = a.ready;
      side = a.side;
      holds = (a.holds.1.0, (a.holds.1.1.0, tt));
    })))

pub returns-in-Delete-clause-keeps : goal.returns-in-Delete-clause-keeps
returns-in-Delete-clause-keeps c =
    let d = c.args.w.now in
    let a = rw c.in-Delete.is at c.requires.acts in
    rw c.in-Delete.is
    (keeps-same c.args.home AFlag (Ok c.delete_said.result) d c.requires.acts.ready
    (c.delete_said.ensures.leaves d (record {
      ready = a.ready;
      side = a.side;
      holds = (
        a.holds.1.0,
        (
          a.holds.1.1.0,
          tt,
        ),
      );
    })))

pub keys_said-requires : goal.keys_said-requires
keys_said-requires c =
    let a = rw c.in-OwnPropertyKeys.is at c.requires.acts in
    record { acts = record { ready = a.ready; side = a.side; holds = (a.holds.1.0, (a.holds.0, tt)) } }

pub returns-in-OwnPropertyKeys-clause-part : goal.returns-in-OwnPropertyKeys-clause-part
returns-in-OwnPropertyKeys-clause-part c = λ f. rw c.in-OwnPropertyKeys.is (c.keys_said.ensures.part f)

pub returns-in-OwnPropertyKeys-clause-keeps : goal.returns-in-OwnPropertyKeys-clause-keeps
returns-in-OwnPropertyKeys-clause-keeps c = rw c.in-OwnPropertyKeys.is c.keys_said.ensures.keeps

pub returns-in-Call-clause-part : goal.returns-in-Call-clause-part
returns-in-Call-clause-part c = λ f.
    let d = c.args.w.now in
    rw c.in-Call.is
    (Part-sure c.args.home d f _ c.gives.result
    (c.gives.ensures.sure c.args.home d (c.requires.acts.holds.0.within, tt)))

pub returns-in-Call-clause-keeps : goal.returns-in-Call-clause-keeps
returns-in-Call-clause-keeps c =
    let d = c.args.w.now in
    rw c.in-Call.is
    (keeps-same c.args.home AValue (Ok c.gives.result) d c.requires.acts.ready
    (c.gives.ensures.leaves c.args.home d AValue tt (c.requires.acts.holds.0, tt)))

pub construct_said-requires : goal.construct_said-requires
construct_said-requires c =
    let a = rw c.in-Construct.is at c.requires.acts in
    record { acts = record { ready = a.ready; side = a.side; holds = (a.holds.0, tt) } }
