use Rattle.std.proofs.Common.{Bool, Ok, Option, [], length, subst, sym, true≢false, ◌+◌, ◌∙◌, ap}
use Rattle.mb_call.proofs.resuming.answered.Goals as goal
use Rattle.mb_call.specs.machine.Resuming.{is_answered}
use Rattle.mb_desc.specs.declared.descriptor.Full.{Full}
use Rattle.mb_frames.proofs.Keeping.{keeps-same}
use Rattle.mb_frames.proofs.Passed.{Part-sure}
use Rattle.mb_frames.specs.Passing.{Part}
use Rattle.mb_frames.specs.Resolved.{label_in, values_in}
use Rattle.mb_frames.specs.Rest.Calls.{after_desc, after_list, asks_keys, field_in, fields_after}
use Rattle.mb_frames.specs.Sorts.{AFlag, AValue, AnObject}
use Rattle.mb_model.specs.Meaning.{finished}
use Rattle.mb_model.specs.Objects.Methods.{construct_with, constructed, receiver_has}
use Rattle.mb_model.specs.Operations.Calls.{length_from, list_from, list_got}
use Rattle.mb_model.specs.Operations.Descriptors.{field_found, todesc_from, with_field}
use Rattle.mb_model.specs.Writing.{◌>>=◌, is_value}
use Rattle.mb_world.specs.Image.{Resolve, desc_in, key_in, names_of, object_in}
use Rattle.mb_world.specs.Value.{Val}

pub unreachable-requires : goal.unreachable-requires
unreachable-requires c = true≢false (sym c.requires.waits ∙ ap is_answered c.in-Statement.is)

pub returns-in-SetterCalled-clause-part : goal.returns-in-SetterCalled-clause-part
returns-in-SetterCalled-clause-part c =
    rw c.in-SetterCalled.is
    (Part-sure c.args.home c.args.w.now c.args.fuel.now _ c.yes_or_no.result
    (c.yes_or_no.ensures.sure c.args.home c.args.w.now))

pub returns-in-SetterCalled-clause-keeps : goal.returns-in-SetterCalled-clause-keeps
returns-in-SetterCalled-clause-keeps c =
    rw c.in-SetterCalled.is
    (keeps-same c.args.home AFlag (Ok c.yes_or_no.result) c.args.w.now c.requires.acts.ready
    (c.yes_or_no.ensures.leaves c.args.home c.args.w.now))

pub returns-in-ReceiverRead-clause-part : goal.returns-in-ReceiverRead-clause-part
returns-in-ReceiverRead-clause-part c =
    let d = c.args.w.now in
    let n = names_of d in
    let home = c.args.home in
    let f = c.args.fuel.now in
    let x = c.in-ReceiverRead in
    rw x.is
    (subst (λ (p : Option (Full Val)). Part home (Ok c.receiver_has.result) d d f f
    (receiver_has home.0 (key_in n x.key) (Resolve n x.value) (object_in n x.receiver) p finished))
    (sym (c.property_in.ensures.property n))
    (Part-sure home d f _ c.receiver_has.result (c.receiver_has.ensures.sure d (rw x.is at c.requires.acts))))

pub returns-in-ReceiverRead-clause-keeps : goal.returns-in-ReceiverRead-clause-keeps
returns-in-ReceiverRead-clause-keeps c =
    let d = c.args.w.now in
    rw c.in-ReceiverRead.is
    (keeps-same c.args.home AFlag (Ok c.receiver_has.result) d c.requires.acts.ready
    (c.receiver_has.ensures.leaves d (rw c.in-ReceiverRead.is at c.requires.acts)))

pub construct_with-requires-clause-acts : goal.construct_with-requires-clause-acts
construct_with-requires-clause-acts c = rw c.in-ConstructPrototype.is at c.requires.acts

pub construct_with-requires-clause-got : goal.construct_with-requires-clause-got
construct_with-requires-clause-got c =
    (c.value_in.ensures.held c.args.w.now c.args.home c.requires.answer).0

pub returns-in-ConstructPrototype-clause-part : goal.returns-in-ConstructPrototype-clause-part
returns-in-ConstructPrototype-clause-part c =
    let d = c.args.w.now in
    let n = names_of d in
    let home = c.args.home in
    let f = c.args.fuel.now in
    let x = c.in-ConstructPrototype in
    rw x.is
    (subst (λ (y : Val). Part home c.construct_with.result d c.construct_with.new.w f f
    (construct_with home.0 (object_in n x.function) (label_in n x.label) (values_in n x.arguments) y finished))
    (sym (c.value_in.ensures.value n)) (c.construct_with.ensures.part f))

pub returns-in-ConstructPrototype-clause-keeps : goal.returns-in-ConstructPrototype-clause-keeps
returns-in-ConstructPrototype-clause-keeps c = rw c.in-ConstructPrototype.is c.construct_with.ensures.keeps

pub returns-in-ConstructBody-clause-part : goal.returns-in-ConstructBody-clause-part
returns-in-ConstructBody-clause-part c =
    let d = c.args.w.now in
    let n = names_of d in
    let home = c.args.home in
    let f = c.args.fuel.now in
    let x = c.in-ConstructBody in
    let a = rw x.is at c.requires.acts in
    rw x.is
    (subst (λ (y : Val). Part home (Ok c.constructed.result) d d f f (constructed (object_in n x.made) y finished))
    (sym (c.value_in-in-ConstructBody.ensures.value n))
    (Part-sure home d f _ c.constructed.result
    (c.constructed.ensures.sure home d
    (record {
      ready = a.ready;
      side = a.side;
      holds = (a.holds.0, c.value_in-in-ConstructBody.ensures.held d home c.requires.answer);
    }))))

pub returns-in-ConstructBody-clause-keeps : goal.returns-in-ConstructBody-clause-keeps
returns-in-ConstructBody-clause-keeps c =
    let d = c.args.w.now in
    let home = c.args.home in
    let a = rw c.in-ConstructBody.is at c.requires.acts in
    rw c.in-ConstructBody.is
    (keeps-same home AnObject (Ok c.constructed.result) d a.ready
    (c.constructed.ensures.leaves home d
    (record {
      ready = a.ready;
      side = a.side;
      holds = (a.holds.0, c.value_in-in-ConstructBody.ensures.held d home c.requires.answer);
    })))

pub returns-in-ArrowValue-clause-part : goal.returns-in-ArrowValue-clause-part
returns-in-ArrowValue-clause-part c =
    let d = c.args.w.now in
    let n = names_of d in
    let home = c.args.home in
    let f = c.args.fuel.now in
    rw c.in-ArrowValue.is
    (subst (λ (y : Val). Part home (Ok c.value.result) d d f f (is_value y finished))
    (sym (c.value_in-in-ArrowValue.ensures.value n))
    (Part-sure home d f _ c.value.result
    (c.value.ensures.sure home d (c.value_in-in-ArrowValue.ensures.held d home c.requires.answer).0.within)))

pub returns-in-ArrowValue-clause-keeps : goal.returns-in-ArrowValue-clause-keeps
returns-in-ArrowValue-clause-keeps c =
    let d = c.args.w.now in
    let home = c.args.home in
    rw c.in-ArrowValue.is
    (keeps-same home AValue (Ok c.value.result) d c.requires.acts.ready
    (c.value.ensures.leaves home d (c.value_in-in-ArrowValue.ensures.held d home c.requires.answer)))

pub returns-in-ListLength-clause-part : goal.returns-in-ListLength-clause-part
returns-in-ListLength-clause-part c =
    let d = c.args.w.now in
    let n = names_of d in
    let home = c.args.home in
    let x = c.in-ListLength in
    rw x.is
    (subst (λ (y : Val). Part home c.length_got.result d c.length_got.new.w c.args.fuel.now c.length_got.new.fuel
    ((length_from home.0 y >>= (λ m. list_from home.0 (asks_keys x.after) (object_in n x.list) m 0 [])
    >>= after_list n home.0 x.after) finished))
    (sym (c.value_in-in-ListLength.ensures.value n)) c.length_got.ensures.part)

pub returns-in-ListLength-clause-keeps : goal.returns-in-ListLength-clause-keeps
returns-in-ListLength-clause-keeps c = rw c.in-ListLength.is c.length_got.ensures.keeps

pub returns-in-ListElement-clause-part : goal.returns-in-ListElement-clause-part
returns-in-ListElement-clause-part c =
    let d = c.args.w.now in
    let n = names_of d in
    let home = c.args.home in
    let x = c.in-ListElement in
    rw x.is
    (subst (λ (y : Val). Part home c.element_got.result d c.element_got.new.w c.args.fuel.now c.element_got.new.fuel
    ((list_got home.0 (asks_keys x.after) (values_in n x.done) y
    >>= list_from home.0 (asks_keys x.after) (object_in n x.list) x.left (length x.done + 1)
    >>= after_list n home.0 x.after) finished))
    (sym (c.value_in-in-ListElement.ensures.value n)) c.element_got.ensures.part)

pub returns-in-ListElement-clause-keeps : goal.returns-in-ListElement-clause-keeps
returns-in-ListElement-clause-keeps c = rw c.in-ListElement.is c.element_got.ensures.keeps

pub returns-in-FieldThere-clause-part : goal.returns-in-FieldThere-clause-part
returns-in-FieldThere-clause-part c =
    let d = c.args.w.now in
    let n = names_of d in
    let home = c.args.home in
    let f = c.args.fuel.now in
    let x = c.in-FieldThere in
    rw x.is
    (subst (λ (y : Bool). Part home c.field_found.result d c.field_found.new.w f f
    ((field_found home.0 (object_in n x.object) (desc_in (Resolve n) x.desc) (field_in x.field) y
    >>= todesc_from home.0 (object_in n x.object) (fields_after x.field) >>= after_desc n home.0 x.after) finished))
    (sym (c.flag_in.ensures n)) (c.field_found.ensures.part f))

pub returns-in-FieldThere-clause-keeps : goal.returns-in-FieldThere-clause-keeps
returns-in-FieldThere-clause-keeps c = rw c.in-FieldThere.is c.field_found.ensures.keeps

pub returns-in-FieldGot-clause-part : goal.returns-in-FieldGot-clause-part
returns-in-FieldGot-clause-part c =
    let d = c.args.w.now in
    let n = names_of d in
    let home = c.args.home in
    let f = c.args.fuel.now in
    let x = c.in-FieldGot in
    rw x.is
    (subst (λ (y : Val). Part home c.field_got.result d c.field_got.new.w f f
    ((with_field home.0 (desc_in (Resolve n) x.desc) (field_in x.field) y
    >>= todesc_from home.0 (object_in n x.object) (fields_after x.field) >>= after_desc n home.0 x.after) finished))
    (sym (c.value_in-in-FieldGot.ensures.value n)) (c.field_got.ensures.part f))

pub returns-in-FieldGot-clause-keeps : goal.returns-in-FieldGot-clause-keeps
returns-in-FieldGot-clause-keeps c = rw c.in-FieldGot.is c.field_got.ensures.keeps

-- ---- what the parts ask

pub length_got-requires : goal.length_got-requires
length_got-requires c =
    let a = rw c.in-ListLength.is at c.requires.acts in
    record {
      acts = record {
        ready = a.ready;
        side = a.side;
        holds = ((c.value_in-in-ListLength.ensures.held c.args.w.now c.args.home c.requires.answer).0, a.holds);
      };
    }

pub element_got-requires : goal.element_got-requires
element_got-requires c =
    let a = rw c.in-ListElement.is at c.requires.acts in
    record {
      acts = record {
        ready = a.ready;
        side = a.side;
        holds = ((c.value_in-in-ListElement.ensures.held c.args.w.now c.args.home c.requires.answer).0, a.holds);
      };
    }

pub field_found-requires : goal.field_found-requires
field_found-requires c = record { acts = rw c.in-FieldThere.is at c.requires.acts }

pub field_got-requires : goal.field_got-requires
field_got-requires c =
    let a = rw c.in-FieldGot.is at c.requires.acts in
    record {
      acts = record {
        ready = a.ready;
        side = a.side;
        holds = ((c.value_in-in-FieldGot.ensures.held c.args.w.now c.args.home c.requires.answer).0, a.holds);
      };
    }
