use Rattle.mb_frames.specs.Sorts.{AValue}
use Rattle.mb_eval_expr.proofs.Keeping.{kept-left}
use Rattle.std.proofs.Common.{Ok, ap}
use Rattle.std.specs.Prelude.{if◌then◌else◌}
use Rattle.mb_frames.proofs.Passed.{Part-by, Part-sure}
use Rattle.mb_eval_expr.proofs.Referring.{no-object, object-is}
use Rattle.mb_model.specs.Meaning.{finished}
use Rattle.mb_model.specs.Nodes.BinaryOperators.{chain_row, instance_prototype}
use Rattle.mb_model.specs.Task.{Answer}
use Rattle.mb_model.specs.Writing.{Does, type_error}
use Rattle.mb_world.specs.Image.{Image, Resolve, names_of, object_in}
use Rattle.mb_frames.proofs.HeldLess.{value-object}
use Rattle.mb_eval_expr.proofs.operators.instance_prototype.Goals as goal

pub returns-in-Object-clause-row : goal.returns-in-Object-clause-row
returns-in-Object-clause-row c = λ f.
    let d = c.args.w.now in
    let n = names_of d in
    let a = object_in n c.args.object in
    let p = object_in n c.in-Object.prototype in
    rw c.in-Object.is (Part-by c.args.home (Ok c.chain.result) d d f f
    (instance_prototype c.args.home.0 a p finished) (chain_row c.args.home.0 a p finished)
    (λ log. ap (λ b. let r : Does Answer = if b then chain_row c.args.home.0 a p else type_error c.args.home.0 in
    r finished (Image d log)) (object-is n c.in-Object.prototype))
    (Part-sure c.args.home d f (chain_row c.args.home.0 a p finished) c.chain.result
    (c.chain.ensures.row d c.requires.object (rw c.in-Object.is at c.requires.value))))

pub returns-in_default-clause-row : goal.returns-in_default-clause-row
returns-in_default-clause-row c = λ f.
    let d = c.args.w.now in
    let n = names_of d in
    let a = object_in n c.args.object in
    let p = Resolve n c.args.x in
    Part-by c.args.home c.type_error.result d c.type_error.new.w f f (instance_prototype c.args.home.0 a p finished)
    (type_error c.args.home.0 finished)
    (λ log. ap (λ b. let r : Does Answer = if b then chain_row c.args.home.0 a p else type_error c.args.home.0 in
    r finished (Image d log))
    (no-object n c.args.x c.in_default.not-Object))
    (c.type_error.ensures.part f)

pub returns-in-Object-clause-keeps : goal.returns-in-Object-clause-keeps
returns-in-Object-clause-keeps c = λ r i h.
    let d = c.args.w.now in
    kept-left c.args.home d r (c.chain.ensures.leaves d r i
    (h.1.0, (value-object d c.args.home c.in-Object.prototype (rw c.in-Object.is at h.0), tt)))

pub returns-in_default-clause-keeps : goal.returns-in_default-clause-keeps
returns-in_default-clause-keeps c = λ r i h. c.type_error.ensures.keeps AValue r i tt
