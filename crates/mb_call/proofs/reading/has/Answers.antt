use Rattle.std.proofs.Common.{None, Some, false, subst}
use Rattle.mb_call.proofs.Looking.{goes-on, goes-up, looks}
use Rattle.mb_call.proofs.Objects.{proto-held}
use Rattle.mb_call.proofs.reading.has.Goals as goal
use Rattle.mb_frames.proofs.HeldLess.{prototype-object}
use Rattle.mb_frames.specs.Stepping.{Sure}
use Rattle.mb_model.specs.Meaning.{finished}
use Rattle.mb_model.specs.Objects.Methods.{ordinary_has, parent_has}
use Rattle.mb_model.specs.Task.{HasProperty}
use Rattle.mb_model.specs.Writing.{answer, perform, yes_or_no}
use Rattle.mb_world.specs.Image.{Resolve, full_in, key_in, names_of}
use Rattle.mb_world.specs.Ordinary.{looked}

pub returns-in-Some-clause-part : goal.returns-in-Some-clause-part
returns-in-Some-clause-part c = λ f t e.
    let d = c.args.w.now in
    let n = names_of d in
    let k = key_in n c.args.key in
    looks d c.args.home c.yes_or_no.result c.args.viewer t k
    (λ p. ordinary_has c.args.home.0 k (looked t.prototype p)) (Some (full_in n c.in-Some.field-0))
    (rw e at c.in-Some.ensures.meant) (c.yes_or_no.ensures.sure c.args.home d) f

pub returns-in-Some-clause-leaves : goal.returns-in-Some-clause-leaves
returns-in-Some-clause-leaves c = c.yes_or_no.ensures.leaves c.args.home c.args.w.now

pub returns-in-Object-clause-part : goal.returns-in-Object-clause-part
returns-in-Object-clause-part c = λ f t e.
    let d = c.args.w.now in
    let n = names_of d in
    let home = c.args.home in
    let k = key_in n c.args.key in
    let above = c.in-Object.above in
    let held = proto-held d home c.args.object c.proto.result c.requires.acts.ready c.requires.acts.holds.0
    c.requires.ordinary c.proto.ensures.value in
    looks d home c.performs.result c.args.viewer t k
    (λ p. ordinary_has home.0 k (looked t.prototype p)) None (rw e at c.in-None.ensures.meant)
    (subst (λ x. Sure home d (parent_has home.0 k x finished) c.performs.result) (rw e at c.proto.ensures.meant)
    (goes-up d home c.performs.result c.proto.result above (λ x. answer (perform home.0 (HasProperty k) x))
    (yes_or_no false) c.in-Object.is
    (c.performs.ensures.sure d ((rw c.in-Object.is at held).within, (c.requires.acts.holds.1.0.within, tt))))) f

pub returns-in-Object-clause-leaves : goal.returns-in-Object-clause-leaves
returns-in-Object-clause-leaves c =
    let d = c.args.w.now in
    let home = c.args.home in
    let held = proto-held d home c.args.object c.proto.result c.requires.acts.ready c.requires.acts.holds.0
    c.requires.ordinary c.proto.ensures.value in
    c.performs.ensures.leaves d
    (prototype-object d home c.in-Object.above (rw c.in-Object.is at held), (c.requires.acts.holds.1.0, tt))

pub returns-in_default : goal.returns-in_default
returns-in_default c =
    let d = c.args.w.now in
    let n = names_of d in
    let home = c.args.home in
    let k = key_in n c.args.key in
    record {
      part = λ f t e. looks d home c.yes_or_no-in_default.result c.args.viewer t k
          (λ p. ordinary_has home.0 k (looked t.prototype p)) None (rw e at c.in-None.ensures.meant)
          (subst (λ x. Sure home d (parent_has home.0 k x finished) c.yes_or_no-in_default.result)
          (rw e at c.proto.ensures.meant)
          (goes-on d home c.yes_or_no-in_default.result c.proto.result
          (answer (perform home.0 (HasProperty k) (Resolve n c.proto.result))) (yes_or_no false) c.in_default.not-Object
          (c.yes_or_no-in_default.ensures.sure home d))) f;
      leaves = c.yes_or_no-in_default.ensures.leaves home d;
    }
