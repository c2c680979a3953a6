use Rattle.std.proofs.Common.{sym, ap, ◌∙◌, ℕ}
use Rattle.mb_world.specs.Data.{built_in_of}
use Rattle.mb_frames.specs.Failing.{error_place}
use Rattle.mb_world.specs.Data.{obj_id}
use Rattle.mb_frames.specs.declared.frame.Move.TheVariants as move
use Rattle.mb_frames.specs.declared.task.Outcome.TheVariants as o
use Rattle.mb_base.specs.declared.value.Value.TheVariants as v
use Rattle.mb_frames.proofs.Errors.{Step-fail, built-in-is, error-is, error-kept}
use Rattle.mb_frames.proofs.Throwing.{error-keeps, halted-keeps}
use Rattle.mb_frames.proofs.failing.fail.Goals as goal

pub returns-clause-step : goal.returns-clause-step
returns-clause-step c = λ begun f l.
    Step-fail c.args.home begun c.args.w.now c.make.new.self c.in-Some.prototype c.in_ok-error-in-Some.error c.args.kind f l
    c.requires.ids c.in-Some.ensures.within
    (built-in-is c.args.w.now c.args.home (error_place c.args.kind) c.in-Some.prototype
    (ap (λ n. built_in_of c.args.w.now.joined c.args.w.now.cells c.args.home n) (sym c.error_place.ensures)
    ∙ sym c.in-Some.ensures.value) c.in-Some.ensures.within
    ∙ sym (error-is c.args.kind))
    c.in_ok-error-in-Some.ensures.made c.in_ok-error-in-Some.ensures.id

pub returns-clause-thrown : goal.returns-clause-thrown
returns-clause-thrown c =
    ap (λ (n : ℕ). move.Done (o.Throw (v.Object (obj_id n)))) c.in_ok-error-in-Some.ensures.id

pub returns-clause-kept_world : goal.returns-clause-kept_world
returns-clause-kept_world c joined contained paired =
    error-kept c.args.home c.args.w.now c.make.new.self c.in-Some.prototype (error_place c.args.kind) c.args.kind
    c.requires.ids c.in-Some.ensures.within
    (ap (λ n. built_in_of c.args.w.now.joined c.args.w.now.cells c.args.home n) (sym c.error_place.ensures)
    ∙ sym c.in-Some.ensures.value)
    c.in_ok-error-in-Some.ensures.made joined contained paired

pub returns-clause-keeps : goal.returns-clause-keeps
returns-clause-keeps c wanted =
    error-keeps c.args.home wanted c.args.w.now c.make.new.self c.in-Some.prototype c.in_ok-error-in-Some.error
    (error_place c.args.kind) c.args.kind c.in-Some.ensures.within
    (ap (λ n. built_in_of c.args.w.now.joined c.args.w.now.cells c.args.home n) (sym c.error_place.ensures)
    ∙ sym c.in-Some.ensures.value)
    c.in_ok-error-in-Some.ensures.made c.in_ok-error-in-Some.ensures.id

pub returns-in_err-error-in-Some-clause-keeps : goal.returns-in_err-error-in-Some-clause-keeps
returns-in_err-error-in-Some-clause-keeps c wanted =
    halted-keeps c.args.home wanted c.from_residual.result c.from_residual.ensures.0 c.args.w.now c.make.new.self
    c.in_err-error-in-Some.ensures.kept
