use Rattle.std.proofs.Common.{◌∷◌, Bool, Ok, subst}
use Rattle.mb_call.proofs.Looking.{looks}
use Rattle.mb_call.proofs.Objects.{proto-held}
use Rattle.mb_call.proofs.Showing.{maybe-of, shown-real}
use Rattle.mb_call.proofs.methods.ordinary.Goals as goal
use Rattle.mb_call.specs.Ours.{Acts}
use Rattle.mb_frames.proofs.Apartness.{value-real}
use Rattle.mb_frames.proofs.HeldLess.{prototype-value}
use Rattle.mb_frames.proofs.Keeping.{keeps-same}
use Rattle.mb_frames.proofs.Passed.{Part-sure}
use Rattle.mb_frames.specs.Passing.{Part}
use Rattle.mb_frames.specs.Held.{HeldObject}
use Rattle.mb_frames.specs.Holding.{method_held}
use Rattle.mb_frames.specs.Sorts.{AFlag, APrototype, AProperty, AValue, SomeKeys}
use Rattle.mb_frames.specs.declared.task.Method.{Method}
use Rattle.mb_model.specs.Meaning.{finished}
use Rattle.mb_model.specs.Task.{Prop, Value}
use Rattle.mb_model.specs.Writing.{give, is_value, yes_or_no}
use Rattle.mb_world.specs.Ids.{FullIn}
use Rattle.mb_world.specs.Image.{Resolve, full_in, key_in, names_of}
use Rattle.mb_world.specs.Value.{Val}
use Rattle.std.specs.Prelude.{option_map}

pub has-requires-clause-acts : goal.has-requires-clause-acts
has-requires-clause-acts c =
    subst (λ (z : Method). Acts c.args.w.now c.args.home
    (HeldObject c.args.object ∷ method_held c.args.object z)) c.in-HasProperty.is c.requires.acts

pub get-requires-clause-acts : goal.get-requires-clause-acts
get-requires-clause-acts c =
    subst (λ (z : Method). Acts c.args.w.now c.args.home
    (HeldObject c.args.object ∷ method_held c.args.object z)) c.in-Get.is c.requires.acts

pub set-requires-clause-acts : goal.set-requires-clause-acts
set-requires-clause-acts c =
    subst (λ (z : Method). Acts c.args.w.now c.args.home
    (HeldObject c.args.object ∷ method_held c.args.object z)) c.in-Set.is c.requires.acts

pub define-requires-clause-acts : goal.define-requires-clause-acts
define-requires-clause-acts c =
    subst (λ (z : Method). Acts c.args.w.now c.args.home
    (HeldObject c.args.object ∷ method_held c.args.object z)) c.in-DefineOwnProperty.is c.requires.acts

pub call-requires-clause-acts : goal.call-requires-clause-acts
call-requires-clause-acts c =
    subst (λ (z : Method). Acts c.args.w.now c.args.home
    (HeldObject c.args.object ∷ method_held c.args.object z)) c.in-Call.is c.requires.acts

pub construct-requires-clause-acts : goal.construct-requires-clause-acts
construct-requires-clause-acts c =
    subst (λ (z : Method). Acts c.args.w.now c.args.home
    (HeldObject c.args.object ∷ method_held c.args.object z)) c.in-Construct.is c.requires.acts

pub construct-requires-clause-side : goal.construct-requires-clause-side
construct-requires-clause-side c = rw c.in-Construct.is at c.requires.side

pub delete_key-requires-clause-key : goal.delete_key-requires-clause-key
delete_key-requires-clause-key c = (rw c.in-Delete.is at c.requires.acts.holds.1).0.within

pub shown-requires-clause-key : goal.shown-requires-clause-key
shown-requires-clause-key c = (rw c.in-GetOwnProperty.is at c.requires.acts.holds.1).0.within

pub set_prototype-requires : goal.set_prototype-requires
set_prototype-requires c =
    let d = c.args.w.now in
    let a = c.requires.acts in
    let h = rw c.in-SetPrototypeOf.is at a.holds.1 in
    record {
      within = (a.holds.0.within, (h.0.within, tt));
      ordinary = c.requires.ordinary;
      real = value-real d a.ready c.args.home c.in-SetPrototypeOf.given
          (prototype-value d c.args.home c.in-SetPrototypeOf.given h.0);
    }

pub returns-in-SetPrototypeOf-clause-part : goal.returns-in-SetPrototypeOf-clause-part
returns-in-SetPrototypeOf-clause-part c = λ t e.
    let a = subst (λ (z : Method). Acts c.args.w.now c.args.home
    (HeldObject c.args.object ∷ method_held c.args.object z)) c.in-SetPrototypeOf.is c.requires.acts in
    rw (c.in-SetPrototypeOf.is, rw c.in-SetPrototypeOf.is at c.requires.side)
    (c.set_prototype.ensures.part c.args.home c.args.viewer a t e)

pub returns-in-PreventExtensions-clause-part : goal.returns-in-PreventExtensions-clause-part
returns-in-PreventExtensions-clause-part c = λ t e.
    let a = subst (λ (z : Method). Acts c.args.w.now c.args.home
    (HeldObject c.args.object ∷ method_held c.args.object z)) c.in-PreventExtensions.is c.requires.acts in
    rw (c.in-PreventExtensions.is, rw c.in-PreventExtensions.is at c.requires.side)
    (c.prevent_extensions.ensures.part c.args.home c.args.viewer a c.args.fuel.now t e)

pub returns-in-DefineOwnProperty-clause-part : goal.returns-in-DefineOwnProperty-clause-part
returns-in-DefineOwnProperty-clause-part c = λ t e.
    rw (c.in-DefineOwnProperty.is, rw c.in-DefineOwnProperty.is at c.requires.side)
    (c.define.ensures.part c.args.viewer c.args.fuel.now t e)

pub returns-in-HasProperty-clause-part : goal.returns-in-HasProperty-clause-part
returns-in-HasProperty-clause-part c = λ t e.
    rw (c.in-HasProperty.is, rw c.in-HasProperty.is at c.requires.side) (c.has.ensures.part c.args.fuel.now t e)

pub returns-in-Get-clause-part : goal.returns-in-Get-clause-part
returns-in-Get-clause-part c = λ t e.
    rw (c.in-Get.is, rw c.in-Get.is at c.requires.side) (c.get.ensures.part c.args.fuel.now t e)

pub returns-in-Set-clause-part : goal.returns-in-Set-clause-part
returns-in-Set-clause-part c = λ t e.
    rw (c.in-Set.is, rw c.in-Set.is at c.requires.side) (c.set.ensures.part c.args.fuel.now t e)

pub returns-in-Delete-clause-part : goal.returns-in-Delete-clause-part
returns-in-Delete-clause-part c = λ t e.
    let a = subst (λ (z : Method). Acts c.args.w.now c.args.home
    (HeldObject c.args.object ∷ method_held c.args.object z)) c.in-Delete.is c.requires.acts in
    rw (c.in-Delete.is, rw c.in-Delete.is at c.requires.side)
    (c.delete_key.ensures.part c.args.home c.args.viewer a
    (rw c.in-Delete.is at c.requires.free) c.args.fuel.now t e)

pub returns-in-OwnPropertyKeys-clause-part : goal.returns-in-OwnPropertyKeys-clause-part
returns-in-OwnPropertyKeys-clause-part c = λ t e.
    rw (c.in-OwnPropertyKeys.is, rw c.in-OwnPropertyKeys.is at c.requires.side)
    (c.own_keys.ensures.part c.args.home t e)

pub returns-in-Call-clause-part : goal.returns-in-Call-clause-part
returns-in-Call-clause-part c = λ t e.
    rw (c.in-Call.is, rw c.in-Call.is at c.requires.side) (c.call.ensures.part c.args.viewer c.args.fuel.now t e)

pub returns-in-SetPrototypeOf-clause-keeps : goal.returns-in-SetPrototypeOf-clause-keeps
returns-in-SetPrototypeOf-clause-keeps c =
    let a = subst (λ (z : Method). Acts c.args.w.now c.args.home
    (HeldObject c.args.object ∷ method_held c.args.object z)) c.in-SetPrototypeOf.is c.requires.acts in
    rw (c.in-SetPrototypeOf.is, rw c.in-SetPrototypeOf.is at c.requires.side)
    (c.set_prototype.ensures.keeps c.args.home a)

pub returns-in-PreventExtensions-clause-keeps : goal.returns-in-PreventExtensions-clause-keeps
returns-in-PreventExtensions-clause-keeps c =
    let a = subst (λ (z : Method). Acts c.args.w.now c.args.home
    (HeldObject c.args.object ∷ method_held c.args.object z)) c.in-PreventExtensions.is c.requires.acts in
    rw (c.in-PreventExtensions.is, rw c.in-PreventExtensions.is at c.requires.side)
    (c.prevent_extensions.ensures.keeps c.args.home a)

pub returns-in-DefineOwnProperty-clause-keeps : goal.returns-in-DefineOwnProperty-clause-keeps
returns-in-DefineOwnProperty-clause-keeps c =
    rw (c.in-DefineOwnProperty.is, rw c.in-DefineOwnProperty.is at c.requires.side)
    (c.define.ensures.keeps)

pub returns-in-HasProperty-clause-keeps : goal.returns-in-HasProperty-clause-keeps
returns-in-HasProperty-clause-keeps c =
    rw (c.in-HasProperty.is, rw c.in-HasProperty.is at c.requires.side)
    (keeps-same c.args.home AFlag (Ok c.has.result) c.args.w.now c.requires.acts.ready c.has.ensures.leaves)

pub returns-in-Get-clause-keeps : goal.returns-in-Get-clause-keeps
returns-in-Get-clause-keeps c =
    rw (c.in-Get.is, rw c.in-Get.is at c.requires.side)
    (keeps-same c.args.home AValue (Ok c.get.result) c.args.w.now c.requires.acts.ready c.get.ensures.leaves)

pub returns-in-Set-clause-keeps : goal.returns-in-Set-clause-keeps
returns-in-Set-clause-keeps c =
    rw (c.in-Set.is, rw c.in-Set.is at c.requires.side)
    (keeps-same c.args.home AFlag c.set.result c.args.w.now c.requires.acts.ready c.set.ensures.leaves)

pub returns-in-Delete-clause-keeps : goal.returns-in-Delete-clause-keeps
returns-in-Delete-clause-keeps c =
    let a = subst (λ (z : Method). Acts c.args.w.now c.args.home
    (HeldObject c.args.object ∷ method_held c.args.object z)) c.in-Delete.is c.requires.acts in
    rw (c.in-Delete.is, rw c.in-Delete.is at c.requires.side)
    (c.delete_key.ensures.keeps c.args.home a)

pub returns-in-OwnPropertyKeys-clause-keeps : goal.returns-in-OwnPropertyKeys-clause-keeps
returns-in-OwnPropertyKeys-clause-keeps c =
    rw (c.in-OwnPropertyKeys.is, rw c.in-OwnPropertyKeys.is at c.requires.side)
    (keeps-same c.args.home SomeKeys c.own_keys.result c.args.w.now c.requires.acts.ready
    (c.own_keys.ensures.leaves c.args.home))

pub returns-in-Call-clause-keeps : goal.returns-in-Call-clause-keeps
returns-in-Call-clause-keeps c =
    rw (c.in-Call.is, rw c.in-Call.is at c.requires.side)
    (c.call.ensures.keeps)

pub returns-in-Construct-clause-part : goal.returns-in-Construct-clause-part
returns-in-Construct-clause-part c = λ t e.
    rw c.in-Construct.is (c.construct.ensures.part c.args.viewer c.args.fuel.now t e)

pub returns-in-Construct-clause-keeps : goal.returns-in-Construct-clause-keeps
returns-in-Construct-clause-keeps c = rw c.in-Construct.is c.construct.ensures.keeps

pub returns-in-GetPrototypeOf-clause-part : goal.returns-in-GetPrototypeOf-clause-part
returns-in-GetPrototypeOf-clause-part c = λ t e.
    let d = c.args.w.now in
    let home = c.args.home in
    let x = c.proto.result in
    rw (c.in-GetPrototypeOf.is, rw c.in-GetPrototypeOf.is at c.requires.side)
    (subst (λ (z : Val). Part home (Ok c.value.result) d d c.args.fuel.now c.args.fuel.now (give (Value z) finished))
    (rw e at c.proto.ensures.meant)
    (Part-sure home d c.args.fuel.now (is_value (Resolve (names_of d) x) finished) c.value.result
    (c.value.ensures.sure home d c.proto.ensures.within)))

pub returns-in-GetPrototypeOf-clause-keeps : goal.returns-in-GetPrototypeOf-clause-keeps
returns-in-GetPrototypeOf-clause-keeps c =
    let d = c.args.w.now in
    let home = c.args.home in
    let a = c.requires.acts in
    let h =
    proto-held d home c.args.object c.proto.result a.ready a.holds.0 c.requires.ordinary c.proto.ensures.value in
    rw (c.in-GetPrototypeOf.is, rw c.in-GetPrototypeOf.is at c.requires.side)
    (keeps-same home APrototype (Ok c.value.result) d a.ready
    (c.value.ensures.leaves_as home d APrototype h.sound (prototype-value d home c.proto.result h, tt)))

pub returns-in-IsExtensible-clause-part : goal.returns-in-IsExtensible-clause-part
returns-in-IsExtensible-clause-part c = λ t e.
    let d = c.args.w.now in
    let home = c.args.home in
    rw (c.in-IsExtensible.is, rw c.in-IsExtensible.is at c.requires.side)
    (subst (λ (z : Bool). Part home (Ok c.yes_or_no.result) d d c.args.fuel.now c.args.fuel.now (yes_or_no z finished))
    (rw e at c.extensible.ensures.meant)
    (Part-sure home d c.args.fuel.now (yes_or_no c.extensible.result finished) c.yes_or_no.result
    (c.yes_or_no.ensures.sure home d)))

pub returns-in-IsExtensible-clause-keeps : goal.returns-in-IsExtensible-clause-keeps
returns-in-IsExtensible-clause-keeps c =
    let d = c.args.w.now in
    let home = c.args.home in
    rw (c.in-IsExtensible.is, rw c.in-IsExtensible.is at c.requires.side)
    (keeps-same home AFlag (Ok c.yes_or_no.result) d c.requires.acts.ready (c.yes_or_no.ensures.leaves home d))

pub returns-in-GetOwnProperty-clause-part : goal.returns-in-GetOwnProperty-clause-part
returns-in-GetOwnProperty-clause-part c = λ t e.
    let d = c.args.w.now in
    let n = names_of d in
    let home = c.args.home in
    let found = c.shown.result in
    rw (c.in-GetOwnProperty.is, rw c.in-GetOwnProperty.is at c.requires.side)
    (looks d home c.property.result c.args.viewer t (key_in n c.in-GetOwnProperty.key) (λ p. give (Prop p))
    (option_map (full_in n) found) (rw e at c.shown.ensures.meant)
    (c.property.ensures.sure home d (maybe-of (FullIn d) found c.shown.ensures.within))
    c.args.fuel.now)

pub returns-in-GetOwnProperty-clause-keeps : goal.returns-in-GetOwnProperty-clause-keeps
returns-in-GetOwnProperty-clause-keeps c =
    let d = c.args.w.now in
    let home = c.args.home in
    let a = c.requires.acts in
    rw (c.in-GetOwnProperty.is, rw c.in-GetOwnProperty.is at c.requires.side)
    (keeps-same home AProperty (Ok c.property.result) d a.ready
    (c.property.ensures.leaves home d (
      shown-real d home a.ready c.args.viewer c.args.object c.in-GetOwnProperty.key c.shown.result a.holds.0
          c.shown.ensures.within c.shown.ensures.meant c.shown.ensures.own,
      tt,
    )))
