use Rattle.mb_frames.specs.Sorts.{AValue}
use Rattle.mb_eval_expr.proofs.Keeping.{kept-left}
use Rattle.std.proofs.Common.{Ok, ap, false, ◌∙◌}
use Rattle.std.specs.Prelude.{if◌then◌else◌}
use Rattle.mb_frames.proofs.Passed.{Part-by, Part-sure}
use Rattle.mb_eval_expr.proofs.Referring.{no-object, object-is}
use Rattle.mb_model.specs.Meaning.{finished}
use Rattle.mb_model.specs.Nodes.BinaryOperators.{instance_object, instance_of, instance_row}
use Rattle.mb_model.specs.Task.{Answer}
use Rattle.mb_model.specs.Writing.{Does, truth, type_error}
use Rattle.mb_world.specs.Image.{Image, Resolve, names_of, object_in}
use Rattle.mb_frames.proofs.HeldLess.{value-object}
use Rattle.mb_eval_expr.proofs.operators.instance_got.Goals as goal

pub returns-in-Object-clause-row : goal.returns-in-Object-clause-row
returns-in-Object-clause-row c = λ f.
    let d = c.args.w.now in
    let n = names_of d in
    let s = c.args.home.0 in
    let y = object_in n c.in-Object.object in
    let z = Resolve n c.args.b in
    rw c.in-Object.is (Part-by c.args.home c.instance_object.result d c.instance_object.new.w f f
    (instance_row s y z finished) (instance_object s y z finished)
    (λ log. ap (λ b. instance_of s y z b finished (Image d log)) (c.in-Some.ensures.calls log)
    ∙ ap (λ b. let r : Does Answer = if b then instance_object s y z else truth false in r finished (Image d log))
    (object-is n c.in-Object.object))
    (rw c.in-Some.ensures.object (c.instance_object.ensures.row f)))

pub returns-in_default-clause-row : goal.returns-in_default-clause-row
returns-in_default-clause-row c = λ f.
    let d = c.args.w.now in
    let n = names_of d in
    let s = c.args.home.0 in
    let y = Resolve n c.args.a in
    let z = Resolve n c.args.b in
    Part-by c.args.home (Ok c.truth_value.result) d d f f (instance_row s y z finished) (truth false finished)
    (λ log. ap (λ b. instance_of s y z b finished (Image d log)) (c.in-Some.ensures.calls log)
    ∙ ap (λ b. let r : Does Answer = if b then instance_object s y z else truth false in r finished (Image d log))
    (no-object n c.args.a c.in_default.not-Object))
    (Part-sure c.args.home d f (truth false finished) c.truth_value.result (c.truth_value.ensures.row c.args.home d))

pub returns-in-None-clause-row : goal.returns-in-None-clause-row
returns-in-None-clause-row c = λ f.
    let d = c.args.w.now in
    let n = names_of d in
    let s = c.args.home.0 in
    let y = Resolve n c.args.a in
    let z = Resolve n c.args.b in
    Part-by c.args.home c.type_error.result d c.type_error.new.w f f (instance_row s y z finished)
    (type_error s finished)
    (λ log. ap (λ b. instance_of s y z b finished (Image d log)) (c.in-None.ensures.calls log))
    (c.type_error.ensures.part f)

pub returns-in-Object-clause-keeps : goal.returns-in-Object-clause-keeps
returns-in-Object-clause-keeps c = λ r i h.
    let d = c.args.w.now in
    c.instance_object.ensures.keeps r i (
      value-object d c.args.home c.in-Object.object (rw c.in-Object.is at h.0),
      (value-object d c.args.home c.in-Some.function (rw c.in-Some.ensures.object at h.1.0), tt),
    )

pub returns-in_default-clause-keeps : goal.returns-in_default-clause-keeps
returns-in_default-clause-keeps c = λ r i h.
    kept-left c.args.home c.args.w.now r (c.truth_value.ensures.leaves c.args.home c.args.w.now r i tt)

pub returns-in-None-clause-keeps : goal.returns-in-None-clause-keeps
returns-in-None-clause-keeps c = λ r i h. c.type_error.ensures.keeps AValue r i tt
