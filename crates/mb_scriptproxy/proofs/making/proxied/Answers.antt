use Rattle.std.proofs.Common.{Bool, ap, false, subst, sym, true, ◌&&◌, ◌∙◌}
use Rattle.mb_base.specs.declared.value.Value.{Value}
use Rattle.mb_frames.proofs.Apartness.{object-real}
use Rattle.mb_frames.proofs.HeldLess.{value-object}
use Rattle.mb_frames.specs.Held.{HeldValue}
use Rattle.mb_frames.specs.Ready.{MayHold}
use Rattle.mb_scriptproxy.proofs.Targets.{able-is, is-there}
use Rattle.mb_scriptproxy.proofs.making.proxied.Goals as goal
use Rattle.mb_world.proofs.Values.{object-object}
use Rattle.mb_world.specs.Image.{Image, Resolve, names_of, object_in}
use Rattle.mb_world.specs.Objects.{thing_at}
use Rattle.mb_world.specs.Value.{is_object}

pub is_proxy-requires-clause-real : goal.is_proxy-requires-clause-real
is_proxy-requires-clause-real c =
    let d = c.args.w.now in
    let home = c.args.home in
    let a = c.requires.acts in
    object-real d a.ready home c.in-Object.target
    (value-object d home c.in-Object.target
    (subst (λ (x : Value). MayHold d home (HeldValue x)) c.in-Object.is a.holds.0))

pub returns-then-is_proxy-clause-able : goal.returns-then-is_proxy-clause-able
returns-then-is_proxy-clause-able c = λ log.
    let d = c.args.w.now in
    let n = names_of d in
    let home = c.args.home in
    let a = c.requires.acts in
    let o = c.in-Object.target in
    let h = value-object d home o (subst (λ (x : Value). MayHold d home (HeldValue x)) c.in-Object.is a.holds.0) in
    let e = able-is (thing_at (Image d log) (object_in n o)) (is-there d a.ready home log o h) true
    (c.is_proxy.ensures log ∙ c.if-is_proxy.true) in
    rw c.in-Object.is (sym (ap (λ (b : Bool). b && is_object (Resolve n c.args.handler)) e))

pub returns-else-is_proxy-clause-able : goal.returns-else-is_proxy-clause-able
returns-else-is_proxy-clause-able c = λ log.
    let d = c.args.w.now in
    let n = names_of d in
    let home = c.args.home in
    let a = c.requires.acts in
    let o = c.in-Object.target in
    let i = c.in-Object-handler.handler in
    let h = value-object d home o (subst (λ (x : Value). MayHold d home (HeldValue x)) c.in-Object.is a.holds.0) in
    let e = able-is (thing_at (Image d log) (object_in n o)) (is-there d a.ready home log o h) false
    (c.is_proxy.ensures log ∙ c.if-is_proxy.false) in
    rw (c.in-Object.is, c.in-Object-handler.is)
    (sym (ap (λ (b : Bool). b && is_object (object_in n i)) e ∙ object-object n i))
