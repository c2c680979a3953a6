use Rattle.std.proofs.Common.{None, Some, subst}
use Rattle.mb_call.proofs.Looking.{goes-on, goes-up, looks}
use Rattle.mb_call.proofs.Objects.{proto-held}
use Rattle.mb_call.proofs.Showing.{shown-held}
use Rattle.mb_call.proofs.reading.get.Goals as goal
use Rattle.mb_frames.proofs.HeldLess.{accessor-values, datum-value, prototype-object, undefined-held}
use Rattle.mb_frames.specs.Stepping.{Sure}
use Rattle.mb_model.specs.Meaning.{finished}
use Rattle.mb_model.specs.Objects.Methods.{ordinary_get, parent_get}
use Rattle.mb_model.specs.Task.{Get, Value}
use Rattle.mb_model.specs.Writing.{answer, give, perform}
use Rattle.mb_world.specs.Image.{Resolve, full_in, key_in, names_of}
use Rattle.mb_world.specs.Ordinary.{looked}
use Rattle.mb_world.specs.Value.{Undefined}

pub returns-in-Datum-clause-part : goal.returns-in-Datum-clause-part
returns-in-Datum-clause-part c = λ f t e.
    let d = c.args.w.now in
    let n = names_of d in
    let home = c.args.home in
    let k = key_in n c.args.key in
    let held = shown-held d home c.requires.acts.ready c.args.viewer c.args.object c.args.key c.in-Some.property
    c.requires.acts.holds.0 c.in-Some.ensures.within c.in-Some.ensures.meant c.in-Some.ensures.own in
    let value = datum-value d home c.in-Datum.x _ _ _ (rw c.in-Datum.is at held) in
    looks d home c.value.result c.args.viewer t k
    (λ p. ordinary_get home.0 k (Resolve n c.args.receiver) (looked t.prototype p))
    (Some (full_in n c.in-Some.property))
    (rw e at c.in-Some.ensures.meant) (rw c.in-Datum.is (c.value.ensures.sure home d value.within)) f

pub returns-in-Datum-clause-leaves : goal.returns-in-Datum-clause-leaves
returns-in-Datum-clause-leaves c =
    let d = c.args.w.now in
    let home = c.args.home in
    let held = shown-held d home c.requires.acts.ready c.args.viewer c.args.object c.args.key c.in-Some.property
    c.requires.acts.holds.0 c.in-Some.ensures.within c.in-Some.ensures.meant c.in-Some.ensures.own in
    c.value.ensures.leaves home d (datum-value d home c.in-Datum.x _ _ _ (rw c.in-Datum.is at held), tt)

pub call_getter-requires : goal.call_getter-requires
call_getter-requires c =
    let d = c.args.w.now in
    let home = c.args.home in
    let a = c.requires.acts in
    let held = shown-held d home a.ready c.args.viewer c.args.object c.args.key c.in-Some.property a.holds.0
    c.in-Some.ensures.within c.in-Some.ensures.meant c.in-Some.ensures.own in
    let g = accessor-values d home c.in-Accessor.getter _ _ _ (rw c.in-Accessor.is at held) in
    record { acts = record { ready = a.ready; side = a.side; holds = (a.holds.1.1.0, (g.0, tt)) }; getter = g.2 }

pub returns-in-Accessor-clause-part : goal.returns-in-Accessor-clause-part
returns-in-Accessor-clause-part c = λ f t e.
    let d = c.args.w.now in
    let n = names_of d in
    let home = c.args.home in
    let k = key_in n c.args.key in
    looks d home c.call_getter.result c.args.viewer t k
    (λ p. ordinary_get home.0 k (Resolve n c.args.receiver) (looked t.prototype p))
    (Some (full_in n c.in-Some.property))
    (rw e at c.in-Some.ensures.meant) (rw c.in-Accessor.is c.call_getter.ensures.sure) f

pub returns-in-Object-clause-part : goal.returns-in-Object-clause-part
returns-in-Object-clause-part c = λ f t e.
    let d = c.args.w.now in
    let n = names_of d in
    let home = c.args.home in
    let k = key_in n c.args.key in
    let r = Resolve n c.args.receiver in
    let above = c.in-Object.above in
    let h = c.requires.acts.holds in
    let held = proto-held d home c.args.object c.proto.result c.requires.acts.ready h.0 c.requires.ordinary
    c.proto.ensures.value in
    looks d home c.performs.result c.args.viewer t k
    (λ p. ordinary_get home.0 k r (looked t.prototype p)) None (rw e at c.in-None.ensures.meant)
    (subst (λ x. Sure home d (parent_get home.0 k r x finished) c.performs.result) (rw e at c.proto.ensures.meant)
    (goes-up d home c.performs.result c.proto.result above (λ x. answer (perform home.0 (Get k r) x))
    (give (Value Undefined)) c.in-Object.is
    (c.performs.ensures.sure d
    ((rw c.in-Object.is at held).within, (h.1.0.within, (h.1.1.0.within, tt)))))) f

pub returns-in-Object-clause-leaves : goal.returns-in-Object-clause-leaves
returns-in-Object-clause-leaves c =
    let d = c.args.w.now in
    let home = c.args.home in
    let h = c.requires.acts.holds in
    let held = proto-held d home c.args.object c.proto.result c.requires.acts.ready h.0 c.requires.ordinary
    c.proto.ensures.value in
    c.performs.ensures.leaves d
    (prototype-object d home c.in-Object.above (rw c.in-Object.is at held), (h.1.0, (h.1.1.0, tt)))

pub returns-in_default : goal.returns-in_default
returns-in_default c =
    let d = c.args.w.now in
    let n = names_of d in
    let home = c.args.home in
    let k = key_in n c.args.key in
    let r = Resolve n c.args.receiver in
    record {
      part = λ f t e. looks d home c.value-in_default.result c.args.viewer t k
          (λ p. ordinary_get home.0 k r (looked t.prototype p)) None (rw e at c.in-None.ensures.meant)
          (subst (λ x. Sure home d (parent_get home.0 k r x finished) c.value-in_default.result)
          (rw e at c.proto.ensures.meant)
          (goes-on d home c.value-in_default.result c.proto.result
          (answer (perform home.0 (Get k r) (Resolve n c.proto.result)))
          (give (Value Undefined)) c.in_default.not-Object
          (c.value-in_default.ensures.sure home d tt))) f;
      leaves = c.value-in_default.ensures.leaves home d (undefined-held d home, tt);
    }
