use Rattle.std.proofs.Common.{Bool, ap, false, refl, sym, ◌∙◌, ℕ}
use Rattle.std.specs.Prelude.{if◌then◌else◌}
use Rattle.mb_frames.proofs.HeldLess.{value-object}
use Rattle.mb_frames.specs.Sorts.{AnObject}
use Rattle.mb_model.specs.BuiltIns.ObjectMembers.{object_fn, object_made}
use Rattle.mb_model.specs.Meaning.{finished}
use Rattle.mb_model.specs.Task.{Answer}
use Rattle.mb_model.specs.Writing.{Does, is_value, type_error}
use Rattle.mb_reflect.proofs.Doing.{done-by, done-object, keeps-object}
use Rattle.mb_reflect.proofs.Rows.{is-object, not-object}
use Rattle.mb_reflect.proofs.objects.object.Goals as goal
use Rattle.mb_world.specs.Image.{Image, Resolve, names_of, object_in}
use Rattle.mb_world.specs.Value.{BuiltIn, Val, is_nullish}

-- by whether the argument is an object, and whether it is undefined or null
abbrev chosen : ℕ → Val → Val → Bool → Bool → Does Answer
chosen s target o b u =
    if b then is_value o else if u then object_made s (BuiltIn 3) target else type_error s

pub returns-in-Object-clause-part : goal.returns-in-Object-clause-part
returns-in-Object-clause-part c = λ f.
    let d = c.args.w.now in
    let home = c.args.home in
    let id = c.in-Object.field-0 in
    let o = object_in (names_of d) id in
    let t = Resolve (names_of d) c.args.target in
    let a = c.requires.acts in
    rw (c.value.ensures, c.in-Object.is)
    (done-object home d f a.ready (object_fn home.0 (BuiltIn 3) t o finished) id AnObject
    (value-object d home id (rw c.in-Object.is at a.holds).1.0) refl
    (λ log. ap (λ (b : Bool). chosen home.0 t o b (is_nullish o) finished (Image d log))
    (is-object (names_of d) id))).part

pub returns-in-Object-clause-keeps : goal.returns-in-Object-clause-keeps
returns-in-Object-clause-keeps c = λ wanted g.
    let d = c.args.w.now in
    let id = c.in-Object.field-0 in
    let a = c.requires.acts in
    rw (c.value.ensures, c.in-Object.is)
    (keeps-object c.args.home d a.ready id wanted
    (value-object d c.args.home id (rw c.in-Object.is at a.holds).1.0) g)

pub object_made-requires : goal.object_made-requires
object_made-requires c =
    let a = c.requires.acts in
    record { acts = record { ready = a.ready; side = a.side; holds = (a.holds.0, tt) } }

pub returns-then-is_nullish-clause-part : goal.returns-then-is_nullish-clause-part
returns-then-is_nullish-clause-part c = λ f.
    let d = c.args.w.now in
    let home = c.args.home in
    let o = Resolve (names_of d) c.args.x in
    let t = Resolve (names_of d) c.args.target in
    (done-by home AnObject c.object_made.result d c.object_made.new.w f f
    (object_fn home.0 (BuiltIn 3) t o finished) (object_made home.0 (BuiltIn 3) t finished)
    (λ log. ap (λ (b : Bool). chosen home.0 t o b (is_nullish o) finished (Image d log))
    (not-object (names_of d) c.args.x c.in_default.not-Object)
    ∙ ap (λ (u : Bool). chosen home.0 t o false u finished (Image d log))
    (sym (c.is_nullish.ensures (names_of d)) ∙ c.if-is_nullish.true))
    (record { part = c.object_made.ensures.part f; keeps = c.object_made.ensures.keeps AnObject refl })).part

pub returns-else-is_nullish-clause-part : goal.returns-else-is_nullish-clause-part
returns-else-is_nullish-clause-part c = λ f.
    let d = c.args.w.now in
    let home = c.args.home in
    let o = Resolve (names_of d) c.args.x in
    let t = Resolve (names_of d) c.args.target in
    (done-by home AnObject c.type_error.result d c.type_error.new.w f f
    (object_fn home.0 (BuiltIn 3) t o finished) (type_error home.0 finished)
    (λ log. ap (λ (b : Bool). chosen home.0 t o b (is_nullish o) finished (Image d log))
    (not-object (names_of d) c.args.x c.in_default.not-Object)
    ∙ ap (λ (u : Bool). chosen home.0 t o false u finished (Image d log))
    (sym (c.is_nullish.ensures (names_of d)) ∙ c.if-is_nullish.false))
    (record { part = c.type_error.ensures.part f; keeps = c.type_error.ensures.keeps AnObject })).part

pub returns-else-is_nullish-clause-keeps : goal.returns-else-is_nullish-clause-keeps
returns-else-is_nullish-clause-keeps c = λ wanted g. c.type_error.ensures.keeps wanted
