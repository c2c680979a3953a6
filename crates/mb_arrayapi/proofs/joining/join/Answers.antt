use Rattle.std.proofs.Common.{[], ap, List, ℕ, sym, ◌∷◌}
use Rattle.std.proofs.lemmas.Result.{err_from_is_err_and}
use Rattle.mb_arrayapi.proofs.Acting.{Part-texted, acts-after, halts-after, keeps-after, texted}
use Rattle.mb_arrayapi.proofs.Joins.{separator-is, separator-none}
use Rattle.mb_arrayapi.proofs.joining.join.Goals as goal
use Rattle.mb_frames.specs.Held.{HeldObject, HeldValue}
use Rattle.mb_frames.specs.Rest.Arraying.{join_from}
use Rattle.mb_frames.specs.Sorts.{AValue}
use Rattle.mb_model.specs.BuiltIns.ArrayMembers.{join_each}
use Rattle.mb_model.specs.Writing.{◌>>=◌, Does, type_error}
use Rattle.mb_world.specs.Image.{Resolve, names_of, object_in}

pub returns-in_err-units-clause-keeps : goal.returns-in_err-units-clause-keeps
returns-in_err-units-clause-keeps c =
    let d = c.args.w.now in
    let home = c.args.home in
    let a = c.requires.acts in
    let held = HeldObject c.args.object ∷ HeldValue c.args.separator ∷ [] in
    let p = err_from_is_err_and c.from_residual.result c.from_residual.ensures.1 in
    rw p.1
    (halts-after d home held a c.separator_units.new.w
    (texted d home held a c.separator_units.new.w c.in_err-units.ensures.grew) AValue p.0)

pub join_each-requires-clause-acts : goal.join_each-requires-clause-acts
join_each-requires-clause-acts c =
    let d = c.args.w.now in
    let home = c.args.home in
    let a = c.requires.acts in
    let held = HeldObject c.args.object ∷ HeldValue c.args.separator ∷ [] in
    acts-after d home held a c.separator_units.new.w
    (texted d home held a c.separator_units.new.w c.in_ok-units.ensures.grew) (HeldObject c.args.object ∷ [])
    (a.holds.0, tt)

pub returns-in-Some-clause-part : goal.returns-in-Some-clause-part
returns-in-Some-clause-part c =
    let d = c.args.w.now in
    let n = names_of d in
    let s = c.args.home.0 in
    let t = c.in_ok-units.ensures.grew in
    let x = Resolve n c.args.separator in
    let e = t.becomes.grows.same_object c.args.object c.requires.acts.holds.0.within in
    Part-texted c.args.home c.join_each.result d c.separator_units.new.w c.join_each.new.w c.args.fuel.now
    c.join_each.new.fuel (join_from s (object_in n c.args.object) x c.args.length)
    (join_each s (object_in n c.args.object) c.in-Some.units c.args.length 0 []) t
    (ap (λ (q : Does (List ℕ)). q >>= (λ u. join_each s (object_in n c.args.object) u c.args.length 0 []))
    (separator-is s x c.in-Some.units (sym (rw c.in-Some.is at c.in_ok-units.ensures.units))))
    (rw (e, c.new-none.ensures) at c.join_each.ensures.part)

pub returns-in-Some-clause-keeps : goal.returns-in-Some-clause-keeps
returns-in-Some-clause-keeps c =
    let d = c.args.w.now in
    let home = c.args.home in
    let a = c.requires.acts in
    let held = HeldObject c.args.object ∷ HeldValue c.args.separator ∷ [] in
    keeps-after d home held a c.separator_units.new.w
    (texted d home held a c.separator_units.new.w c.in_ok-units.ensures.grew) AValue c.join_each.result
    c.join_each.new.w c.join_each.ensures.keeps

pub type_error-requires-clause-ready : goal.type_error-requires-clause-ready
type_error-requires-clause-ready c =
    (texted c.args.w.now c.args.home (HeldObject c.args.object ∷ HeldValue c.args.separator ∷ []) c.requires.acts
    c.separator_units.new.w c.in_ok-units.ensures.grew).ready

pub returns-in-None-clause-part : goal.returns-in-None-clause-part
returns-in-None-clause-part c =
    let d = c.args.w.now in
    let n = names_of d in
    let s = c.args.home.0 in
    let f = c.args.fuel.now in
    let x = Resolve n c.args.separator in
    Part-texted c.args.home c.type_error.result d c.separator_units.new.w c.type_error.new.w f f
    (join_from s (object_in n c.args.object) x c.args.length) (type_error s) c.in_ok-units.ensures.grew
    (ap (λ (q : Does (List ℕ)). q >>= (λ u. join_each s (object_in n c.args.object) u c.args.length 0 []))
    (separator-none s x (sym (rw c.in-None.is at c.in_ok-units.ensures.units)))) (c.type_error.ensures.part f)

pub returns-in-None-clause-keeps : goal.returns-in-None-clause-keeps
returns-in-None-clause-keeps c =
    let d = c.args.w.now in
    let home = c.args.home in
    let a = c.requires.acts in
    let held = HeldObject c.args.object ∷ HeldValue c.args.separator ∷ [] in
    keeps-after d home held a c.separator_units.new.w
    (texted d home held a c.separator_units.new.w c.in_ok-units.ensures.grew) AValue c.type_error.result
    c.type_error.new.w (c.type_error.ensures.keeps AValue)
