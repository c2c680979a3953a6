use Rattle.mb_frames.specs.declared.task.Method.TheVariants as m
use Rattle.mb_frames.specs.declared.expressions.ExprFrame.TheVariants as e
use Rattle.mb_world.specs.Data.{Data}
use Rattle.std.proofs.lemmas.Result.{err_from_is_err_and}
use Rattle.mb_frames.specs.Sorts.{AValue}
use Rattle.mb_frames.specs.Ready.{Changed}
use Rattle.mb_parts.proofs.Texting.{texts-changed}
use Rattle.mb_eval_expr.proofs.Keeping.{kept-now, kept-still, kept-then, stays, waits-asks}
use Rattle.mb_frames.proofs.Keeping.{inside-still}
use Rattle.std.proofs.Common.{ap, sym, refl}
use Rattle.std.specs.Prelude.{if◌then◌else◌}
use Rattle.mb_eval_expr.proofs.Operating.{Part-has, Part-has-none}
use Rattle.mb_frames.proofs.Passed.{Part-by}
use Rattle.mb_eval_expr.proofs.Referring.{no-object}
use Rattle.mb_parts.proofs.Writing.{Acts-texts}
use Rattle.mb_model.specs.Meaning.{finished}
use Rattle.mb_model.specs.Nodes.BinaryOperators.{has_row, operate}
use Rattle.mb_model.specs.Task.{Answer}
use Rattle.mb_model.specs.Writing.{Does, type_error}
use Rattle.mb_tree.specs.declared.kind.Sign.TheVariants.{In}
use Rattle.mb_world.specs.Image.{Image, Resolve, names_of}
use Rattle.mb_frames.proofs.HeldLess.{key-held, value-object}
use Rattle.mb_eval_expr.proofs.operators.has_got.Goals as goal

pub returns-in-Some-clause-row : goal.returns-in-Some-clause-row
returns-in-Some-clause-row c = λ f.
    rw c.in-Object.is (Part-has c.args.home c.args.w.now c.key_from.new.w f c.in_ok-found-in-Object.ensures.grew
    c.args.a c.in-Object.object
    c.in-Some.key c.asks.result (sym (rw c.in-Some.is at c.in_ok-found-in-Object.ensures.key))
    (rw c.in-Object.is at c.requires.right)
    (rw c.in-Some.is at c.in_ok-found-in-Object.ensures.within) c.asks.ensures)

pub returns-in-None-clause-row : goal.returns-in-None-clause-row
returns-in-None-clause-row c = λ f.
    rw c.in-Object.is (Part-has-none c.args.home c.args.w.now c.key_from.new.w f c.in_ok-found-in-Object.ensures.grew
    c.args.a c.in-Object.object
    c.type_error.result c.type_error.new.w (sym (rw c.in-None.is at c.in_ok-found-in-Object.ensures.key))
    (c.type_error.ensures.part f))

pub type_error-requires : goal.type_error-requires
type_error-requires c =
    Acts-texts c.args.w.now c.key_from.new.w c.args.home c.in_ok-found-in-Object.ensures.grew c.requires.acts

pub returns-in_default-clause-row : goal.returns-in_default-clause-row
returns-in_default-clause-row c = λ f.
    let d = c.args.w.now in
    let n = names_of d in
    let y = Resolve n c.args.a in
    let z = Resolve n c.args.b in
    Part-by c.args.home c.type_error-in_default.result d c.type_error-in_default.new.w f f
    (operate c.args.home.0 In y z finished) (type_error c.args.home.0 finished)
    (λ log. ap (λ b. let r : Does Answer = if b then has_row c.args.home.0 y z else type_error c.args.home.0 in
    r finished (Image d log))
    (no-object n c.args.b c.in_default.not-Object))
    (c.type_error-in_default.ensures.part f)

pub returns-in-Some-clause-keeps : goal.returns-in-Some-clause-keeps
returns-in-Some-clause-keeps c = λ r i h.
    let d = c.args.w.now in
    let d' : Data = c.key_from.new.w in
    let o = c.args.home in
    let g : Changed o d d' = texts-changed o d d' c.in_ok-found-in-Object.ensures.grew r in
    rw c.asks.ensures (kept-now o d d' g
    (waits-asks d' o e.Has (m.HasProperty c.in-Some.key) c.in-Object.object refl tt
    (value-object d' o c.in-Object.object (stays o d d' g r (rw c.in-Object.is at h.1.0)))
    (key-held d' o c.in-Some.key (rw c.in-Some.is at c.in_ok-found-in-Object.ensures.within), tt)))

pub returns-in-None-clause-keeps : goal.returns-in-None-clause-keeps
returns-in-None-clause-keeps c = λ r i h.
    let d = c.args.w.now in
    let d' : Data = c.key_from.new.w in
    let o = c.args.home in
    let g : Changed o d d' = texts-changed o d d' c.in_ok-found-in-Object.ensures.grew r in
    kept-then o d d' g c.type_error.new.w (c.type_error.ensures.keeps AValue g.ready (inside-still o d d' g i) tt)

pub returns-in_err-found-in-Object-clause-keeps : goal.returns-in_err-found-in-Object-clause-keeps
returns-in_err-found-in-Object-clause-keeps c =
    let p = err_from_is_err_and c.from_residual.result c.from_residual.ensures.1 in
    rw (p.1, c.in_err-found-in-Object.ensures.kept) (λ r i h. kept-still c.args.home c.args.w.now r)

pub returns-in_default-clause-keeps : goal.returns-in_default-clause-keeps
returns-in_default-clause-keeps c = λ r i h. c.type_error-in_default.ensures.keeps AValue r i tt
