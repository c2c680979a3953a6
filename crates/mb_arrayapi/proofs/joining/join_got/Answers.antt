use Rattle.std.proofs.Common.{[], refl, sym, ◌+◌, ◌∷◌}
use Rattle.std.proofs.lemmas.Result.{err_from_is_err_and}
use Rattle.mb_arrayapi.proofs.Acting.{Part-texted, acts-after, halts-after, keeps-after, texted}
use Rattle.mb_arrayapi.proofs.Joins.{Part-added, Part-no-text, Part-too-long}
use Rattle.mb_arrayapi.proofs.joining.join_got.Goals as goal
use Rattle.mb_frames.specs.Held.{HeldObject, HeldValue}
use Rattle.mb_frames.specs.Sorts.{AValue}
use Rattle.mb_model.specs.BuiltIns.ArrayMembers.{join_each, join_got}
use Rattle.mb_model.specs.Writing.{◌>>=◌}
use Rattle.mb_world.specs.Image.{Resolve, names_of, object_in}

pub returns-in_err-units-clause-keeps : goal.returns-in_err-units-clause-keeps
returns-in_err-units-clause-keeps c =
    let d = c.args.w.now in
    let home = c.args.home in
    let a = c.requires.acts in
    let held = HeldValue c.args.x ∷ HeldObject c.args.object ∷ [] in
    let p = err_from_is_err_and c.from_residual.result c.from_residual.ensures.1 in
    rw p.1
    (halts-after d home held a c.element_units.new.w
    (texted d home held a c.element_units.new.w c.in_err-units.ensures.grew) AValue p.0)

pub returns-in_err-fits-in-Some-clause-keeps : goal.returns-in_err-fits-in-Some-clause-keeps
returns-in_err-fits-in-Some-clause-keeps c =
    let d = c.args.w.now in
    let home = c.args.home in
    let a = c.requires.acts in
    let held = HeldValue c.args.x ∷ HeldObject c.args.object ∷ [] in
    let q = c.from_residual-in_err-fits-in-Some in
    let p = err_from_is_err_and q.result q.ensures.1 in
    rw p.1
    (halts-after d home held a c.element_units.new.w
    (texted d home held a c.element_units.new.w c.in_ok-units.ensures.grew) AValue p.0)

pub range_error-requires-clause-ready : goal.range_error-requires-clause-ready
range_error-requires-clause-ready c =
    (texted c.args.w.now c.args.home (HeldValue c.args.x ∷ HeldObject c.args.object ∷ []) c.requires.acts
    c.element_units.new.w c.in_ok-units.ensures.grew).ready

pub returns-then-not-fits-clause-part : goal.returns-then-not-fits-clause-part
returns-then-not-fits-clause-part c =
    let d = c.args.w.now in
    let n = names_of d in
    let s = c.args.home.0 in
    let f = c.args.fuel.now in
    let x = Resolve n c.args.x in
    let o = object_in n c.args.object in
    let p = join_each s o c.args.separator c.args.left (c.args.place + 1) in
    let fits = rw (c.items.ensures, c.if-not-fits.true) at c.in_ok-fits-in-Some.ensures in
    Part-texted c.args.home c.range_error.result d c.element_units.new.w c.range_error.new.w f f
    (join_got s c.args.so_far x >>= p) (join_got s c.args.so_far x >>= p) c.in_ok-units.ensures.grew refl
    (Part-too-long c.args.home c.range_error.result c.element_units.new.w c.range_error.new.w f f c.args.so_far x p
    c.in-Some.units (sym (rw c.in-Some.is at c.in_ok-units.ensures.units)) c.extend.new.so_far fits
    (c.range_error.ensures.part f))

pub returns-then-not-fits-clause-keeps : goal.returns-then-not-fits-clause-keeps
returns-then-not-fits-clause-keeps c =
    let d = c.args.w.now in
    let home = c.args.home in
    let a = c.requires.acts in
    let held = HeldValue c.args.x ∷ HeldObject c.args.object ∷ [] in
    keeps-after d home held a c.element_units.new.w
    (texted d home held a c.element_units.new.w c.in_ok-units.ensures.grew) AValue c.range_error.result
    c.range_error.new.w (c.range_error.ensures.keeps AValue)

pub returns-in_err-place-in-Some-clause-keeps : goal.returns-in_err-place-in-Some-clause-keeps
returns-in_err-place-in-Some-clause-keeps c =
    let d = c.args.w.now in
    let home = c.args.home in
    let a = c.requires.acts in
    let held = HeldValue c.args.x ∷ HeldObject c.args.object ∷ [] in
    let q = c.from_residual-in_err-place-in-Some in
    let p = err_from_is_err_and q.result q.ensures.1 in
    rw p.1
    (halts-after d home held a c.element_units.new.w
    (texted d home held a c.element_units.new.w c.in_ok-units.ensures.grew) AValue p.0)

pub join_each-requires-clause-acts : goal.join_each-requires-clause-acts
join_each-requires-clause-acts c =
    let d = c.args.w.now in
    let home = c.args.home in
    let a = c.requires.acts in
    let held = HeldValue c.args.x ∷ HeldObject c.args.object ∷ [] in
    acts-after d home held a c.element_units.new.w
    (texted d home held a c.element_units.new.w c.in_ok-units.ensures.grew) (HeldObject c.args.object ∷ [])
    (a.holds.1.0, tt)

pub returns-in_ok-place-in-Some-clause-part : goal.returns-in_ok-place-in-Some-clause-part
returns-in_ok-place-in-Some-clause-part c =
    let d = c.args.w.now in
    let n = names_of d in
    let s = c.args.home.0 in
    let f = c.args.fuel.now in
    let x = Resolve n c.args.x in
    let o = object_in n c.args.object in
    let p = join_each s o c.args.separator c.args.left (c.args.place + 1) in
    let t = c.in_ok-units.ensures.grew in
    let e = t.becomes.grows.same_object c.args.object c.requires.acts.holds.1.0.within in
    let fits = rw (c.items.ensures, c.if-not-fits.false) at c.in_ok-fits-in-Some.ensures in
    Part-texted c.args.home c.join_each.result d c.element_units.new.w c.join_each.new.w f c.join_each.new.fuel
    (join_got s c.args.so_far x >>= p) (join_got s c.args.so_far x >>= p) t refl
    (Part-added c.args.home c.join_each.result c.element_units.new.w c.join_each.new.w f c.join_each.new.fuel
    c.args.so_far x p c.in-Some.units (sym (rw c.in-Some.is at c.in_ok-units.ensures.units)) c.extend.new.so_far fits
    (rw (e, c.in_ok-place-in-Some.ensures) at c.join_each.ensures.part))

pub returns-in_ok-place-in-Some-clause-keeps : goal.returns-in_ok-place-in-Some-clause-keeps
returns-in_ok-place-in-Some-clause-keeps c =
    let d = c.args.w.now in
    let home = c.args.home in
    let a = c.requires.acts in
    let held = HeldValue c.args.x ∷ HeldObject c.args.object ∷ [] in
    keeps-after d home held a c.element_units.new.w
    (texted d home held a c.element_units.new.w c.in_ok-units.ensures.grew) AValue c.join_each.result
    c.join_each.new.w c.join_each.ensures.keeps

pub type_error-requires-clause-ready : goal.type_error-requires-clause-ready
type_error-requires-clause-ready c =
    (texted c.args.w.now c.args.home (HeldValue c.args.x ∷ HeldObject c.args.object ∷ []) c.requires.acts
    c.element_units.new.w c.in_ok-units.ensures.grew).ready

pub returns-in-None-clause-part : goal.returns-in-None-clause-part
returns-in-None-clause-part c =
    let d = c.args.w.now in
    let n = names_of d in
    let s = c.args.home.0 in
    let f = c.args.fuel.now in
    let x = Resolve n c.args.x in
    let o = object_in n c.args.object in
    let p = join_each s o c.args.separator c.args.left (c.args.place + 1) in
    Part-texted c.args.home c.type_error.result d c.element_units.new.w c.type_error.new.w f f
    (join_got s c.args.so_far x >>= p) (join_got s c.args.so_far x >>= p) c.in_ok-units.ensures.grew refl
    (Part-no-text c.args.home c.type_error.result c.element_units.new.w c.type_error.new.w f f c.args.so_far x p
    (sym (rw c.in-None.is at c.in_ok-units.ensures.units)) (c.type_error.ensures.part f))

pub returns-in-None-clause-keeps : goal.returns-in-None-clause-keeps
returns-in-None-clause-keeps c =
    let d = c.args.w.now in
    let home = c.args.home in
    let a = c.requires.acts in
    let held = HeldValue c.args.x ∷ HeldObject c.args.object ∷ [] in
    keeps-after d home held a c.element_units.new.w
    (texted d home held a c.element_units.new.w c.in_ok-units.ensures.grew) AValue c.type_error.result
    c.type_error.new.w (c.type_error.ensures.keeps AValue)
