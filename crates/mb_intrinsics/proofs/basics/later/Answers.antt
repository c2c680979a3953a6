use Rattle.std.proofs.Common.{[], ◌++◌, ◌∷◌}
use Rattle.std.proofs.lemmas.Result.{err_from_is_err_and}
use Rattle.mb_base.specs.declared.value.Value.TheVariants as v
use Rattle.mb_frames.proofs.HeldLess.{called, undefined-held}
use Rattle.mb_frames.proofs.Passed.{Part-by}
use Rattle.mb_frames.specs.Held.{HeldValue}
use Rattle.mb_frames.specs.Sorts.{AValue}
use Rattle.mb_intrinsics.proofs.Jobs.{job-added, later-row, uncalled-row}
use Rattle.mb_intrinsics.proofs.Sides.{acts, given-after, halted, real-of, thrown}
use Rattle.mb_model.specs.BuiltIns.Basics.{later}
use Rattle.mb_model.specs.Meaning.{finished}
use Rattle.mb_model.specs.Writing.{type_error}
use Rattle.mb_world.specs.Data.{queue_of, with_queue}
use Rattle.mb_world.specs.Image.{Resolve, names_of}
use Rattle.mb_world.specs.declared.scope.Job.TheVariants as j
use Rattle.mb_intrinsics.proofs.basics.later.Goals as goal

pub callable-requires-clause-real : goal.callable-requires-clause-real
callable-requires-clause-real c =
    real-of c.args.w.now c.args.home c.args.function c.requires.acting.ready c.requires.acting.holds.0

pub returns-in_err-add_job-in-Some-clause-keeps : goal.returns-in_err-add_job-in-Some-clause-keeps
returns-in_err-add_job-in-Some-clause-keeps c =
    let p = err_from_is_err_and c.from_residual.result c.from_residual.ensures.1 in
    rw (p.1, c.in_err-add_job-in-Some.ensures.kept)
    (halted c.args.w.now c.args.home (HeldValue c.args.function ∷ []) c.requires.acting p.0)

pub type_error-requires : goal.type_error-requires
type_error-requires c = acts c.args.w.now c.args.home (HeldValue c.args.function ∷ []) c.requires.acting

pub returns-in_ok-add_job-in-Some-clause-row : goal.returns-in_ok-add_job-in-Some-clause-row
returns-in_ok-add_job-in-Some-clause-row c = λ f.
    rw (c.in_ok-add_job-in-Some.ensures.added, c.value.ensures)
    (later-row c.args.w.now c.args.home c.args.function c.requires.acting.takes_part c.in-Some.ensures.calls f)

pub returns-in_ok-add_job-in-Some-clause-keeps : goal.returns-in_ok-add_job-in-Some-clause-keeps
returns-in_ok-add_job-in-Some-clause-keeps c =
    let d = c.args.w.now in
    let home = c.args.home in
    let held = HeldValue c.args.function ∷ [] in
    let a = c.requires.acting in
    let d1 = with_queue d home (queue_of d home ++ (j.Call c.args.function ∷ [])) in
    rw (c.in_ok-add_job-in-Some.ensures.added, c.value.ensures)
    (given-after d home held a d1
    (job-added d home a.ready (acts d home held a).side c.args.function
    (called d home c.args.function a.holds.0 (c.in-Some.ensures.calls [])))
    v.Undefined (undefined-held d1 home))

pub returns-in-None-clause-row : goal.returns-in-None-clause-row
returns-in-None-clause-row c = λ f.
    let d = c.args.w.now in
    let x = Resolve (names_of d) c.args.function in
    Part-by c.args.home c.type_error.result d c.type_error.new.w f f (later c.args.home.0 x finished)
    (type_error c.args.home.0 finished)
    (λ log. uncalled-row d c.args.home.0 x log (c.in-None.ensures.calls log)) (c.type_error.ensures.part f)

pub returns-in-None-clause-keeps : goal.returns-in-None-clause-keeps
returns-in-None-clause-keeps c =
    thrown c.args.w.now c.args.home (HeldValue c.args.function ∷ []) c.requires.acting c.type_error.result
    c.type_error.new.w (c.type_error.ensures.keeps AValue)
