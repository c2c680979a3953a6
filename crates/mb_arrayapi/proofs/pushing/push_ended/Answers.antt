use Rattle.std.proofs.Common.{[], pos, refl, true}
use Rattle.std.proofs.lemmas.Result.{err_from_is_err_and}
use Rattle.mb_arrayapi.proofs.Acting.{Part-value, gives, halts}
use Rattle.mb_arrayapi.proofs.PlaceValues.{small-held}
use Rattle.mb_arrayapi.proofs.pushing.push_ended.Goals as goal
use Rattle.mb_base.specs.declared.value.Value.TheVariants as v
use Rattle.mb_frames.specs.Sorts.{AValue}
use Rattle.mb_model.specs.BuiltIns.Arrays.{place_value}
use Rattle.mb_model.specs.Task.{Value as ValueAnswer}
use Rattle.mb_model.specs.Writing.{◌>>=◌, give, unless_type_error}

pub returns-then-not-done-clause-part : goal.returns-then-not-done-clause-part
returns-then-not-done-clause-part c = λ f. rw c.if-not-done.true (c.type_error.ensures.part f)

pub returns-then-not-done-clause-keeps : goal.returns-then-not-done-clause-keeps
returns-then-not-done-clause-keeps c = c.type_error.ensures.keeps AValue

pub returns-in_err-whole-clause-keeps : goal.returns-in_err-whole-clause-keeps
returns-in_err-whole-clause-keeps c =
    let p = err_from_is_err_and c.from_residual.result c.from_residual.ensures.1 in
    rw p.1 (halts c.args.w.now c.args.home [] c.requires.acts AValue p.0)

pub returns-clause-part : goal.returns-clause-part
returns-clause-part c = λ f.
    rw (c.if-not-done.false, c.value.ensures, c.in_ok-whole.ensures.is)
    (Part-value c.args.home c.args.w.now f
    (unless_type_error c.args.home.0 true >>= (λ b. give (ValueAnswer (place_value c.args.length))))
    (v.Whole (pos c.args.length)) tt refl)

pub returns-clause-keeps : goal.returns-clause-keeps
returns-clause-keeps c =
    rw (c.value.ensures, c.in_ok-whole.ensures.is)
    (gives c.args.w.now c.args.home [] c.requires.acts (v.Whole (pos c.args.length))
    (small-held c.args.w.now c.args.home c.args.length c.in_ok-whole.ensures.small))
