use Rattle.std.proofs.Common.{◌∷◌, [], refl, true}
use Rattle.mb_arrayapi.proofs.Acting.{Part-value, gives}
use Rattle.mb_arrayapi.proofs.popping.pop_ended.Goals as goal
use Rattle.mb_frames.specs.Held.{HeldValue}
use Rattle.mb_frames.specs.Sorts.{AValue}
use Rattle.mb_model.specs.Task.{Value as ValueAnswer}
use Rattle.mb_model.specs.Writing.{◌>>=◌, give, unless_type_error}
use Rattle.mb_world.specs.Image.{Resolve, names_of}

pub returns-then-not-done-clause-part : goal.returns-then-not-done-clause-part
returns-then-not-done-clause-part c = λ f. rw c.if-not-done.true (c.type_error.ensures.part f)

pub returns-then-not-done-clause-keeps : goal.returns-then-not-done-clause-keeps
returns-then-not-done-clause-keeps c = c.type_error.ensures.keeps AValue

pub returns-clause-part : goal.returns-clause-part
returns-clause-part c = λ f.
    let d = c.args.w.now in
    rw (c.if-not-done.false, c.value.ensures)
    (Part-value c.args.home d f
    (unless_type_error c.args.home.0 true >>= (λ b. give (ValueAnswer (Resolve (names_of d) c.args.x)))) c.args.x
    c.requires.acts.holds.0.within refl)

pub returns-clause-keeps : goal.returns-clause-keeps
returns-clause-keeps c =
    rw c.value.ensures
    (gives c.args.w.now c.args.home (HeldValue c.args.x ∷ []) c.requires.acts c.args.x c.requires.acts.holds.0)
