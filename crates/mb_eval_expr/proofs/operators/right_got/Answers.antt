use Rattle.mb_frames.specs.Sorts.{AValue}
use Rattle.mb_frames.specs.Ready.{Changed}
use Rattle.mb_parts.proofs.Texting.{texts-changed}
use Rattle.mb_eval_expr.proofs.Keeping.{kept-halted, kept-now, kept-then, plain-held}
use Rattle.mb_frames.proofs.Keeping.{inside-still}
use Rattle.std.proofs.Common.{Ok}
use Rattle.std.proofs.lemmas.Result.{err_from_is_err_and}
use Rattle.mb_eval_expr.proofs.Joining.{Part-halted, no-objects}
use Rattle.mb_frames.proofs.Passed.{Part-passed, Part-sure}
use Rattle.mb_parts.proofs.Writing.{Acts-texts}
use Rattle.mb_model.specs.Meaning.{finished}
use Rattle.mb_model.specs.Nodes.BinaryOperators.{operate, right_got}
use Rattle.mb_model.specs.Writing.{fail, is_value}
use Rattle.mb_world.specs.Data.{Data}
use Rattle.mb_world.specs.Image.{Resolve, names_of}
use Rattle.mb_eval_expr.proofs.operators.right_got.Goals as goal

pub returns-in-In-clause-row : goal.returns-in-In-clause-row
returns-in-In-clause-row c = rw c.in-In.is (c.has_got.ensures.row c.args.fuel.now)

pub returns-in-Instanceof-clause-row : goal.returns-in-Instanceof-clause-row
returns-in-Instanceof-clause-row c = rw c.in-Instanceof.is (c.instance_got.ensures.row c.args.fuel.now)

pub compute-requires-clause-sign : goal.compute-requires-clause-sign
compute-requires-clause-sign c = no-objects c.args.sign c.in_default.not-In c.in_default.not-Instanceof

pub returns-in-Value-clause-row : goal.returns-in-Value-clause-row
returns-in-Value-clause-row c =
    let d = c.args.w.now in
    let d' : Data = c.compute.new.w in
    let n = names_of d in
    let f' = c.compute.new.fuel in
    let h = rw c.in-Value.is at (c.in_ok-computed-in_default.ensures.row c.args.home.0) in
    Part-passed c.args.home (Ok c.value.result) d d' d' c.args.fuel.now f' f'
    (right_got c.args.home.0 c.args.sign (Resolve n c.args.a) (Resolve n c.args.b) finished)
    (is_value (Resolve (names_of d') c.in-Value.x) finished)
    (h.0 finished)
    (Part-sure c.args.home d' f' (is_value (Resolve (names_of d') c.in-Value.x) finished) c.value.result
    (c.value.ensures.row c.args.home d' h.1))

pub returns-in-Faulty-clause-row : goal.returns-in-Faulty-clause-row
returns-in-Faulty-clause-row c =
    let d = c.args.w.now in
    let d' : Data = c.compute.new.w in
    let n = names_of d in
    let f' = c.compute.new.fuel in
    let h = rw c.in-Faulty.is at (c.in_ok-computed-in_default.ensures.row c.args.home.0) in
    Part-passed c.args.home c.throws.result d d' c.throws.new.w c.args.fuel.now f' f'
    (right_got c.args.home.0 c.args.sign (Resolve n c.args.a) (Resolve n c.args.b) finished)
    (fail c.args.home.0 c.in-Faulty.kind finished)
    (h.0 finished)
    (c.throws.ensures.part f')

pub returns-in_err-computed-in_default-clause-row : goal.returns-in_err-computed-in_default-clause-row
returns-in_err-computed-in_default-clause-row c =
    let d = c.args.w.now in
    let n = names_of d in
    let p = err_from_is_err_and c.from_residual.result c.from_residual.ensures.1 in
    rw (p.1, p.2) (Part-halted c.args.home c.in_err-computed-in_default.field-0.0 d c.compute.new.w c.args.fuel.now
    c.compute.new.fuel
    (operate c.args.home.0 c.args.sign (Resolve n c.args.a) (Resolve n c.args.b)) finished
    (c.in_err-computed-in_default.ensures.row c.args.home.0))

pub throws-requires : goal.throws-requires
throws-requires c = Acts-texts c.args.w.now c.compute.new.w c.args.home c.in_ok-computed-in_default.ensures.grew
    c.requires.acts

pub returns-in-In-clause-keeps : goal.returns-in-In-clause-keeps
returns-in-In-clause-keeps c = λ r i h. c.has_got.ensures.keeps r i (h.1.0, (h.0, tt))

pub returns-in-Instanceof-clause-keeps : goal.returns-in-Instanceof-clause-keeps
returns-in-Instanceof-clause-keeps c = λ r i h. c.instance_got.ensures.keeps r i (h.1.0, (h.0, tt))

pub returns-in-Value-clause-keeps : goal.returns-in-Value-clause-keeps
returns-in-Value-clause-keeps c = λ r i h.
    let d = c.args.w.now in
    let d' : Data = c.compute.new.w in
    let o = c.args.home in
    let g : Changed o d d' = texts-changed o d d' c.in_ok-computed-in_default.ensures.grew r in
    let k = rw c.in-Value.is at (c.in_ok-computed-in_default.ensures.row o.0) in
    kept-now o d d' g (c.value.ensures.leaves o d' g.ready (inside-still o d d' g i)
    (plain-held d' o c.in-Value.x (rw c.in-Value.is at c.in_ok-computed-in_default.ensures.plain) k.1, tt))

pub returns-in-Faulty-clause-keeps : goal.returns-in-Faulty-clause-keeps
returns-in-Faulty-clause-keeps c = λ r i h.
    let d = c.args.w.now in
    let d' : Data = c.compute.new.w in
    let o = c.args.home in
    let g : Changed o d d' = texts-changed o d d' c.in_ok-computed-in_default.ensures.grew r in
    kept-then o d d' g c.throws.new.w (c.throws.ensures.keeps AValue g.ready (inside-still o d d' g i) tt)

pub returns-in_err-computed-in_default-clause-keeps : goal.returns-in_err-computed-in_default-clause-keeps
returns-in_err-computed-in_default-clause-keeps c =
    let p = err_from_is_err_and c.from_residual.result c.from_residual.ensures.1 in
    rw p.1 (λ r i h.
    kept-halted c.args.home c.args.w.now c.compute.new.w
    (texts-changed c.args.home c.args.w.now c.compute.new.w c.in_err-computed-in_default.ensures.halted r))
