use Rattle.std.proofs.Common.{Ok}
use Rattle.mb_frames.proofs.Keeping.{keeps-same}
use Rattle.mb_frames.proofs.Passed.{Part-sure}
use Rattle.mb_frames.specs.Sorts.{AFlag, APrototype, SomeKeys}
use Rattle.mb_scriptproxy.proofs.Resumed.{no-other-flag}
use Rattle.mb_scriptproxy.proofs.resuming.with_flag.Goals as goal

pub returns-in-PrototypeExtensible-clause-part : goal.returns-in-PrototypeExtensible-clause-part
returns-in-PrototypeExtensible-clause-part c = λ f.
    let d = c.args.w.now in
    let a = rw c.in-PrototypeExtensible.is at c.requires.acts in
    rw c.in-PrototypeExtensible.is
    (Part-sure c.args.home d f _ c.prototype_extensible.result
    (c.prototype_extensible.ensures.sure d (record { ready = a.ready; side = a.side; holds = a.holds })))

pub returns-in-PrototypeExtensible-clause-keeps : goal.returns-in-PrototypeExtensible-clause-keeps
returns-in-PrototypeExtensible-clause-keeps c =
    let d = c.args.w.now in
    let a = rw c.in-PrototypeExtensible.is at c.requires.acts in
    rw c.in-PrototypeExtensible.is
    (keeps-same c.args.home APrototype (Ok c.prototype_extensible.result) d a.ready
    (c.prototype_extensible.ensures.leaves d (record { ready = a.ready; side = a.side; holds = a.holds })))

pub returns-in-SetPrototypeExtensible-clause-part : goal.returns-in-SetPrototypeExtensible-clause-part
returns-in-SetPrototypeExtensible-clause-part c = λ f.
    let d = c.args.w.now in
    let a = rw c.in-SetPrototypeExtensible.is at c.requires.acts in
    rw c.in-SetPrototypeExtensible.is
    (Part-sure c.args.home d f _ c.set_prototype_extensible.result
    (c.set_prototype_extensible.ensures.sure d (record { ready = a.ready; side = a.side; holds = a.holds })))

pub returns-in-SetPrototypeExtensible-clause-keeps : goal.returns-in-SetPrototypeExtensible-clause-keeps
returns-in-SetPrototypeExtensible-clause-keeps c =
    let d = c.args.w.now in
    let a = rw c.in-SetPrototypeExtensible.is at c.requires.acts in
    rw c.in-SetPrototypeExtensible.is
    (keeps-same c.args.home AFlag (Ok c.set_prototype_extensible.result) d a.ready
    (c.set_prototype_extensible.ensures.leaves d (record { ready = a.ready; side = a.side; holds = a.holds })))

pub extensible_read-requires : goal.extensible_read-requires
extensible_read-requires c =
    let a = rw c.in-ExtensibleRead.is at c.requires.acts in
    record { acts = record { ready = a.ready; side = a.side; holds = tt } }

pub returns-in-ExtensibleRead-clause-part : goal.returns-in-ExtensibleRead-clause-part
returns-in-ExtensibleRead-clause-part c = λ f. rw c.in-ExtensibleRead.is (c.extensible_read.ensures.part f)

pub returns-in-ExtensibleRead-clause-keeps : goal.returns-in-ExtensibleRead-clause-keeps
returns-in-ExtensibleRead-clause-keeps c = rw c.in-ExtensibleRead.is c.extensible_read.ensures.keeps

pub prevent_read-requires : goal.prevent_read-requires
prevent_read-requires c =
    let a = rw c.in-PreventRead.is at c.requires.acts in
    record { acts = record { ready = a.ready; side = a.side; holds = tt } }

pub returns-in-PreventRead-clause-part : goal.returns-in-PreventRead-clause-part
returns-in-PreventRead-clause-part c = λ f. rw c.in-PreventRead.is (c.prevent_read.ensures.part f)

pub returns-in-PreventRead-clause-keeps : goal.returns-in-PreventRead-clause-keeps
returns-in-PreventRead-clause-keeps c = rw c.in-PreventRead.is c.prevent_read.ensures.keeps

pub absent_extensible-requires : goal.absent_extensible-requires
absent_extensible-requires c =
    let a = rw c.in-AbsentExtensible.is at c.requires.acts in
    record { acts = record { ready = a.ready; side = a.side; holds = a.holds } }

pub returns-in-AbsentExtensible-clause-part : goal.returns-in-AbsentExtensible-clause-part
returns-in-AbsentExtensible-clause-part c = λ f. rw c.in-AbsentExtensible.is (c.absent_extensible.ensures.part f)

pub returns-in-AbsentExtensible-clause-keeps : goal.returns-in-AbsentExtensible-clause-keeps
returns-in-AbsentExtensible-clause-keeps c = rw c.in-AbsentExtensible.is c.absent_extensible.ensures.keeps

pub own_extensible-requires : goal.own_extensible-requires
own_extensible-requires c =
    let a = rw c.in-OwnExtensible.is at c.requires.acts in
    record { acts = record { ready = a.ready; side = a.side; holds = a.holds } }

pub returns-in-OwnExtensible-clause-part : goal.returns-in-OwnExtensible-clause-part
returns-in-OwnExtensible-clause-part c = λ f. rw c.in-OwnExtensible.is (c.own_extensible.ensures.part f)

pub returns-in-OwnExtensible-clause-keeps : goal.returns-in-OwnExtensible-clause-keeps
returns-in-OwnExtensible-clause-keeps c = rw c.in-OwnExtensible.is c.own_extensible.ensures.keeps

pub define_extensible-requires : goal.define_extensible-requires
define_extensible-requires c =
    let a = rw c.in-DefineExtensible.is at c.requires.acts in
    record { acts = record { ready = a.ready; side = a.side; holds = a.holds } }

pub returns-in-DefineExtensible-clause-part : goal.returns-in-DefineExtensible-clause-part
returns-in-DefineExtensible-clause-part c = λ f. rw c.in-DefineExtensible.is (c.define_extensible.ensures.part f)

pub returns-in-DefineExtensible-clause-keeps : goal.returns-in-DefineExtensible-clause-keeps
returns-in-DefineExtensible-clause-keeps c = rw c.in-DefineExtensible.is c.define_extensible.ensures.keeps

pub returns-in-KeysExtensible-clause-part : goal.returns-in-KeysExtensible-clause-part
returns-in-KeysExtensible-clause-part c = λ f.
    let d = c.args.w.now in
    let a = rw c.in-KeysExtensible.is at c.requires.acts in
    rw c.in-KeysExtensible.is
    (Part-sure c.args.home d f _ c.keys_extensible.result
    (c.keys_extensible.ensures.sure d (record { ready = a.ready; side = a.side; holds = a.holds })))

pub returns-in-KeysExtensible-clause-keeps : goal.returns-in-KeysExtensible-clause-keeps
returns-in-KeysExtensible-clause-keeps c =
    let d = c.args.w.now in
    let a = rw c.in-KeysExtensible.is at c.requires.acts in
    rw c.in-KeysExtensible.is
    (keeps-same c.args.home SomeKeys (Ok c.keys_extensible.result) d a.ready
    (c.keys_extensible.ensures.leaves d (record { ready = a.ready; side = a.side; holds = a.holds })))

pub unreachable-requires : goal.unreachable-requires
unreachable-requires c =
    let u = c.in_default in
    no-other-flag c.args.frame c.requires.waits u.not-PrototypeExtensible u.not-SetPrototypeExtensible
    u.not-ExtensibleRead u.not-PreventRead u.not-AbsentExtensible u.not-OwnExtensible u.not-DefineExtensible
    u.not-KeysExtensible
