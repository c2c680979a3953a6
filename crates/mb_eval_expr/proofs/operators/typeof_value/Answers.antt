use Rattle.mb_base.specs.declared.value.Value.TheVariants as v
use Rattle.std.proofs.lemmas.Result.{err_from_is_err_and}
use Rattle.mb_frames.specs.Ready.{Changed}
use Rattle.mb_parts.proofs.Texting.{texts-changed}
use Rattle.mb_eval_expr.proofs.Keeping.{kept-now, kept-still, plain-held}
use Rattle.mb_frames.proofs.Keeping.{inside-still}
use Rattle.std.proofs.Common.{Ok, ap, sym, ◌∙◌}
use Rattle.mb_frames.proofs.Passed.{Part-passed, Part-sure, Passes-texts}
use Rattle.mb_model.specs.Meaning.{finished}
use Rattle.mb_model.specs.Nodes.UnaryOperators.{typeof_value}
use Rattle.mb_model.specs.Writing.{is_value}
use Rattle.mb_world.specs.Data.{Data}
use Rattle.mb_world.specs.Image.{Image, Resolve, names_of, text_in}
use Rattle.mb_world.specs.Value.{Text}
use Rattle.mb_eval_expr.proofs.operators.typeof_value.Goals as goal

pub returns-clause-row : goal.returns-clause-row
returns-clause-row c = λ f.
    let d = c.args.w.now in
    let d' : Data = c.word.new.w in
    let p = typeof_value (Resolve (names_of d) c.args.x) finished in
    let q = is_value (Text (text_in (names_of d') c.in_ok-text.text)) finished in
    Part-passed c.args.home (Ok c.value.result) d d' d' f f f p q
    (Passes-texts d d' f p q c.in_ok-text.ensures.grew
    (λ log. ap (λ t. is_value (Text t) finished (Image d log)) (sym (c.type_word-units.ensures.word log)
    ∙ sym c.in_ok-text.ensures.text)))
    (Part-sure c.args.home d' f q c.value.result (c.value.ensures.row c.args.home d' c.in_ok-text.ensures.within))

pub returns-clause-keeps : goal.returns-clause-keeps
returns-clause-keeps c = λ r i h.
    let d = c.args.w.now in
    let d' : Data = c.word.new.w in
    let o = c.args.home in
    let g : Changed o d d' = texts-changed o d d' c.in_ok-text.ensures.grew r in
    kept-now o d d' g (c.value.ensures.leaves o d' g.ready (inside-still o d d' g i)
    (plain-held d' o (v.Text c.in_ok-text.text) tt c.in_ok-text.ensures.within, tt))

pub returns-in_err-text-clause-keeps : goal.returns-in_err-text-clause-keeps
returns-in_err-text-clause-keeps c =
    let p = err_from_is_err_and c.from_residual.result c.from_residual.ensures.1 in
    rw (p.1, c.in_err-text.ensures.kept) (λ r i h. kept-still c.args.home c.args.w.now r)
