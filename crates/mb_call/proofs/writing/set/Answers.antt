use Rattle.std.proofs.Common.{None, Some, ap, subst, sym}
use Rattle.mb_call.proofs.Looking.{looks, store-above, writes-above}
use Rattle.mb_call.proofs.Objects.{proto-held}
use Rattle.mb_call.proofs.Showing.{shown-held}
use Rattle.mb_call.proofs.writing.set.Goals as goal
use Rattle.mb_frames.proofs.HeldLess.{prototype-object}
use Rattle.mb_frames.proofs.Passed.{Part-by}
use Rattle.mb_frames.specs.Stepping.{Sure}
use Rattle.mb_model.specs.Meaning.{finished}
use Rattle.mb_model.specs.Objects.Methods.{ordinary, ordinary_set}
use Rattle.mb_model.specs.Task.{Set}
use Rattle.mb_world.specs.Image.{Image, Resolve, full_in, key_in, names_of, object_in}
use Rattle.mb_world.specs.Ordinary.{written}

pub set_found-requires : goal.set_found-requires
set_found-requires c =
    let a = c.requires.acts in
    record {
      acts = record {
        ready = a.ready;
        side = a.side;
        holds = (
          shown-held c.args.w.now c.args.home a.ready c.args.viewer c.args.object c.args.key c.in-Some.found a.holds.0
              c.in-Some.ensures.within c.in-Some.ensures.meant c.in-Some.ensures.own,
          a.holds.1,
        );
      };
    }

pub returns-in-Some-clause-part : goal.returns-in-Some-clause-part
returns-in-Some-clause-part c = λ f t e.
    let d = c.args.w.now in
    let n = names_of d in
    let home = c.args.home in
    let k = key_in n c.args.key in
    let x = Resolve n c.args.x in
    let r = Resolve n c.args.receiver in
    Part-by home c.set_found.result d d f f
    (ordinary home.0 c.args.viewer.0 (object_in n c.args.object) t (Set k x r) finished)
    (ordinary_set home.0 k x r (written t.prototype (Some (full_in n c.in-Some.found))) finished)
    (λ log. ap (λ p. ordinary_set home.0 k x r (written t.prototype p) finished (Image d log))
    (sym (rw e at c.in-Some.ensures.meant)))
    (c.set_found.ensures.part f t.prototype)

pub returns-in-Object-clause-part : goal.returns-in-Object-clause-part
returns-in-Object-clause-part c = λ f t e.
    let d = c.args.w.now in
    let n = names_of d in
    let home = c.args.home in
    let k = key_in n c.args.key in
    let x = Resolve n c.args.x in
    let r = Resolve n c.args.receiver in
    let h = c.requires.acts.holds in
    let held = proto-held d home c.args.object c.proto.result c.requires.acts.ready h.0 c.requires.ordinary
    c.proto.ensures.value in
    looks d home c.performs.result c.args.viewer t k
    (λ p. ordinary_set home.0 k x r (written t.prototype p)) None (rw e at c.in-None.ensures.meant)
    (subst (λ z. Sure home d (ordinary_set home.0 k x r (written z None) finished) c.performs.result)
    (rw e at c.proto.ensures.meant)
    (writes-above d home c.performs.result k x r c.proto.result c.in-Object.above c.in-Object.is
    (c.performs.ensures.sure d
    ((rw c.in-Object.is at held).within, (h.1.0.within, (h.1.1.0.within, (h.1.1.1.0.within, tt))))))) f

pub returns-in-Object-clause-leaves : goal.returns-in-Object-clause-leaves
returns-in-Object-clause-leaves c =
    let d = c.args.w.now in
    let home = c.args.home in
    let h = c.requires.acts.holds in
    let held = proto-held d home c.args.object c.proto.result c.requires.acts.ready h.0 c.requires.ordinary
    c.proto.ensures.value in
    c.performs.ensures.leaves d
    (prototype-object d home c.in-Object.above (rw c.in-Object.is at held), (h.1.0, (h.1.1.0, (h.1.1.1.0, tt))))

pub returns-in_default : goal.returns-in_default
returns-in_default c =
    let d = c.args.w.now in
    let n = names_of d in
    let home = c.args.home in
    let k = key_in n c.args.key in
    let x = Resolve n c.args.x in
    let r = Resolve n c.args.receiver in
    let a = c.requires.acts in
    record {
      part = λ f t e. looks d home c.store.result c.args.viewer t k
          (λ p. ordinary_set home.0 k x r (written t.prototype p)) None (rw e at c.in-None.ensures.meant)
          (subst (λ z. Sure home d (ordinary_set home.0 k x r (written z None) finished) c.store.result)
          (rw e at c.proto.ensures.meant)
          (store-above d home c.store.result k x r c.proto.result c.in_default.not-Object
          (c.store.ensures.sure d (record { ready = a.ready; side = a.side; holds = a.holds.1 })))) f;
      leaves = c.store.ensures.leaves d (record { ready = a.ready; side = a.side; holds = a.holds.1 });
    }
