use Rattle.mb_frames.specs.Sorts.{AValue}
use Rattle.mb_eval_expr.proofs.Keeping.{kept-left, plain-held}
use Rattle.std.proofs.Common.{Ok}
use Rattle.mb_frames.proofs.Passed.{Part-passed, Part-sure}
use Rattle.mb_model.specs.Meaning.{finished}
use Rattle.mb_model.specs.Nodes.UnaryOperators.{negated}
use Rattle.mb_model.specs.Writing.{fail, is_value}
use Rattle.mb_world.specs.Image.{Resolve, names_of}
use Rattle.mb_eval_expr.proofs.operators.negated.Goals as goal

pub returns-in-Value-clause-row : goal.returns-in-Value-clause-row
returns-in-Value-clause-row c = λ f.
    let d = c.args.w.now in
    let n = names_of d in
    let h = rw c.in-Value.is at (c.negated.ensures.row c.args.home.0 d f c.requires.value) in
    Part-passed c.args.home (Ok c.value.result) d d d f f f (negated c.args.home.0 (Resolve n c.args.x) finished)
    (is_value (Resolve n c.in-Value.z) finished) (h.0 finished)
    (Part-sure c.args.home d f (is_value (Resolve n c.in-Value.z) finished) c.value.result
    (c.value.ensures.row c.args.home d h.1))

pub returns-in-Faulty-clause-row : goal.returns-in-Faulty-clause-row
returns-in-Faulty-clause-row c = λ f.
    let d = c.args.w.now in
    let n = names_of d in
    let h = rw c.in-Faulty.is at (c.negated.ensures.row c.args.home.0 d f c.requires.value) in
    Part-passed c.args.home c.throws.result d d c.throws.new.w f f f
    (negated c.args.home.0 (Resolve n c.args.x) finished)
    (fail c.args.home.0 c.in-Faulty.kind finished) (h.0 finished) (c.throws.ensures.part f)

pub returns-in-Value-clause-keeps : goal.returns-in-Value-clause-keeps
returns-in-Value-clause-keeps c = λ r i h.
    let d = c.args.w.now in
    let k = rw c.in-Value.is at (c.negated.ensures.row c.args.home.0 d 0 c.requires.value) in
    kept-left c.args.home d r (c.value.ensures.leaves c.args.home d r i
    (plain-held d c.args.home c.in-Value.z (rw c.in-Value.is at c.negated.ensures.plain) k.1, tt))

pub returns-in-Faulty-clause-keeps : goal.returns-in-Faulty-clause-keeps
returns-in-Faulty-clause-keeps c = λ r i h. c.throws.ensures.keeps AValue r i tt
