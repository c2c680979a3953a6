use Rattle.std.proofs.Common.{Ok, [], refl, ◌∷◌}
use Rattle.mb_arrayapi.proofs.Acting.{Part-value, gives}
use Rattle.mb_arrayapi.proofs.constructing.is_array_row.Goals as goal
use Rattle.mb_base.specs.declared.value.Value.TheVariants as v
use Rattle.mb_frames.proofs.Apartness.{value-real}
use Rattle.mb_frames.proofs.HeldLess.{flag-held}
use Rattle.mb_frames.proofs.Passed.{Part-by}
use Rattle.mb_frames.specs.Held.{HeldValue}
use Rattle.mb_frames.specs.Sorts.{AValue}
use Rattle.mb_frames.specs.declared.frame.Move.TheVariants as move
use Rattle.mb_frames.specs.declared.task.Answer.TheVariants as a
use Rattle.mb_frames.specs.declared.task.Outcome.TheVariants as o
use Rattle.mb_model.specs.BuiltIns.Arrays.{is_array_row}
use Rattle.mb_model.specs.Meaning.{finished}
use Rattle.mb_model.specs.Writing.{truth, type_error}
use Rattle.mb_world.specs.Image.{Resolve, names_of}

pub is_array-requires-clause-real : goal.is_array-requires-clause-real
is_array-requires-clause-real c =
    value-real c.args.w.now c.requires.acts.ready c.args.home c.args.x c.requires.acts.holds.0

pub returns-in-Some-clause-part : goal.returns-in-Some-clause-part
returns-in-Some-clause-part c = λ f.
    let d = c.args.w.now in
    let s = c.args.home.0 in
    let told = rw c.in-Some.is at c.is_array.ensures in
    rw c.value.ensures
    (Part-by c.args.home (Ok (move.Done (o.Normal (a.Value (v.Bool c.in-Some.b))))) d d f f
    (is_array_row s (Resolve (names_of d) c.args.x) finished) (truth c.in-Some.b finished)
    (λ log. told log (λ b. truth b finished))
    (Part-value c.args.home d f (truth c.in-Some.b) (v.Bool c.in-Some.b) tt refl))

pub returns-in-Some-clause-keeps : goal.returns-in-Some-clause-keeps
returns-in-Some-clause-keeps c =
    rw c.value.ensures
    (gives c.args.w.now c.args.home (HeldValue c.args.x ∷ []) c.requires.acts (v.Bool c.in-Some.b)
    (flag-held c.args.w.now c.args.home c.in-Some.b))

pub returns-in-None-clause-part : goal.returns-in-None-clause-part
returns-in-None-clause-part c = λ f.
    let d = c.args.w.now in
    let s = c.args.home.0 in
    let told = rw c.in-None.is at c.is_array.ensures in
    Part-by c.args.home c.type_error.result d c.type_error.new.w f f
    (is_array_row s (Resolve (names_of d) c.args.x) finished) (type_error s finished)
    (λ log. told log (λ b. truth b finished)) (c.type_error.ensures.part f)

pub returns-in-None-clause-keeps : goal.returns-in-None-clause-keeps
returns-in-None-clause-keeps c = c.type_error.ensures.keeps AValue
