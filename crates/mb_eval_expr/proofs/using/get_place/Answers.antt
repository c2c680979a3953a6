use Rattle.mb_frames.specs.declared.task.Method.TheVariants as m
use Rattle.mb_base.specs.declared.value.Value.TheVariants as v
use Rattle.mb_frames.specs.Holding.{expr_held}
use Rattle.std.proofs.lemmas.Result.{err_from_is_err_and}
use Rattle.mb_frames.specs.Sorts.{AValue}
use Rattle.mb_frames.specs.Ready.{Changed}
use Rattle.mb_parts.proofs.Texting.{texts-changed}
use Rattle.mb_frames.proofs.Leaving.{holds-still}
use Rattle.mb_eval_expr.proofs.Keeping.{kept-left, kept-still, kept-then, plain-held, use-waits, waits-asks}
use Rattle.mb_frames.proofs.Keeping.{inside-still}
use Rattle.std.proofs.Common.{ap, refl, sym, ◌∙◌}
use Rattle.mb_frames.proofs.Passed.{Part-passed, Passes-texts}
use Rattle.mb_frames.specs.Passing.{TextsGrew}
use Rattle.mb_eval_expr.specs.machine.Uses.{used, use_frame}
use Rattle.mb_model.specs.Meaning.{finished}
use Rattle.mb_model.specs.Operations.Calls.{getv, text_property}
use Rattle.mb_model.specs.Task.{Answer}
use Rattle.mb_model.specs.Writing.{◌>>=◌, Does}
use Rattle.mb_world.specs.Data.{Data}
use Rattle.mb_world.specs.Image.{Image, Resolve, key_in, names_of, text_in}
use Rattle.mb_world.specs.Value.{Text}
use Rattle.mb_eval_expr.proofs.Referring.{Part-get, used-grows}
use Rattle.mb_frames.proofs.HeldLess.{value-object}
use Rattle.mb_eval_expr.proofs.using.get_place.Goals as goal

pub returns-in-Object-clause-row : goal.returns-in-Object-clause-row
returns-in-Object-clause-row c = λ f.
    rw c.in-Object.is (Part-get c.args.home c.args.w.now f c.in-Object.object c.args.key c.args.next
    c.frame_of.result c.asks.result
    c.frame_of.ensures c.asks.ensures (rw c.in-Object.is at c.requires.base) c.requires.key c.requires.next)

pub returns-in-Undefined-clause-row : goal.returns-in-Undefined-clause-row
returns-in-Undefined-clause-row c = λ f. rw c.in-Undefined.is (c.type_error.ensures.part f)

pub returns-in-Null-clause-row : goal.returns-in-Null-clause-row
returns-in-Null-clause-row c = λ f. rw c.in-Null.is (c.type_error-in-Null.ensures.part f)

pub returns-in-Bool-clause-row : goal.returns-in-Bool-clause-row
returns-in-Bool-clause-row c = λ f. rw c.in-Bool.is (c.used-in-Bool.ensures.row f)

pub returns-in-Whole-clause-row : goal.returns-in-Whole-clause-row
returns-in-Whole-clause-row c = λ f. rw c.in-Whole.is (c.used-in-Whole.ensures.row f)

pub returns-in-Symbol-clause-row : goal.returns-in-Symbol-clause-row
returns-in-Symbol-clause-row c = λ f. rw c.in-Symbol.is (c.used-in-Symbol.ensures.row f)

pub returns-in_ok-x-in-Text-clause-row : goal.returns-in_ok-x-in-Text-clause-row
returns-in_ok-x-in-Text-clause-row c = λ f.
    let d = c.args.w.now in
    let d' : Data = c.text_property.new.w in
    let n = names_of d in
    let t : TextsGrew d d' = c.in_ok-x-in-Text.ensures.grew in
    rw c.in-Text.is (Part-passed c.args.home c.used.result d d' c.used.new.w f f f
    ((getv c.args.home.0 (Text (text_in n c.in-Text.text)) (key_in n c.args.key) >>= used d c.args.home c.args.next)
    finished)
    (used d' c.args.home c.args.next (Resolve (names_of d') c.in_ok-x-in-Text.x) finished)
    (Passes-texts d d' f _ _ t (λ log.
    ap (λ (p : Does Answer). p finished (Image d log))
    (sym (used-grows d d' c.args.home c.requires.acts.ids t c.args.next c.requires.next
    (text_property (text_in n c.in-Text.text) (key_in n c.args.key)))
    ∙ ap (used d' c.args.home c.args.next) (sym c.in_ok-x-in-Text.ensures.value))))
    (c.used.ensures.row f))

pub returns-in-Object-clause-keeps : goal.returns-in-Object-clause-keeps
returns-in-Object-clause-keeps c = λ r i h.
    let d = c.args.w.now in
    let y = use_frame c.args.next in
    let b = rw c.in-Object.is at h.0 in
    rw (c.frame_of.ensures, c.asks.ensures) (kept-left c.args.home d r
    (waits-asks d c.args.home y (m.Get c.args.key (v.Object c.in-Object.object)) c.in-Object.object
    (rw (use-waits c.args.next) refl) h.1.1 (value-object d c.args.home c.in-Object.object b) (h.1.0, (b, tt))))

pub returns-in-Undefined-clause-keeps : goal.returns-in-Undefined-clause-keeps
returns-in-Undefined-clause-keeps c = λ r i h. c.type_error.ensures.keeps AValue r i tt

pub returns-in-Null-clause-keeps : goal.returns-in-Null-clause-keeps
returns-in-Null-clause-keeps c = λ r i h. c.type_error-in-Null.ensures.keeps AValue r i tt

pub returns-in_ok-x-in-Text-clause-keeps : goal.returns-in_ok-x-in-Text-clause-keeps
returns-in_ok-x-in-Text-clause-keeps c = λ r i h.
    let d = c.args.w.now in
    let d' : Data = c.text_property.new.w in
    let o = c.args.home in
    let g : Changed o d d' = texts-changed o d d' c.in_ok-x-in-Text.ensures.grew r in
    kept-then o d d' g c.used.new.w
    (c.used.ensures.keeps g.ready (inside-still o d d' g i) (
      plain-held d' o c.in_ok-x-in-Text.x c.in_ok-x-in-Text.ensures.plain c.in_ok-x-in-Text.ensures.within,
      holds-still o d d' r g (expr_held (use_frame c.args.next)) h.1.1,
    ))

pub returns-in_err-x-in-Text-clause-keeps : goal.returns-in_err-x-in-Text-clause-keeps
returns-in_err-x-in-Text-clause-keeps c =
    let p = err_from_is_err_and c.from_residual.result c.from_residual.ensures.1 in
    rw (p.1, c.in_err-x-in-Text.ensures.kept) (λ r i h. kept-still c.args.home c.args.w.now r)

pub returns-in-Bool-clause-keeps : goal.returns-in-Bool-clause-keeps
returns-in-Bool-clause-keeps c = λ r i h.
    c.used-in-Bool.ensures.keeps r i (plain-held c.args.w.now c.args.home v.Undefined tt tt, h.1.1)

pub returns-in-Whole-clause-keeps : goal.returns-in-Whole-clause-keeps
returns-in-Whole-clause-keeps c = λ r i h.
    c.used-in-Whole.ensures.keeps r i (plain-held c.args.w.now c.args.home v.Undefined tt tt, h.1.1)

pub returns-in-Symbol-clause-keeps : goal.returns-in-Symbol-clause-keeps
returns-in-Symbol-clause-keeps c = λ r i h.
    c.used-in-Symbol.ensures.keeps r i (plain-held c.args.w.now c.args.home v.Undefined tt tt, h.1.1)
