use Rattle.std.proofs.lemmas.Result.{err_from_is_err_and}
use Rattle.mb_frames.specs.Sorts.{AValue}
use Rattle.mb_frames.specs.Ready.{Changed}
use Rattle.mb_parts.proofs.Texting.{texts-changed}
use Rattle.mb_eval_expr.proofs.Keeping.{kept-now, kept-still, plain-held}
use Rattle.mb_frames.proofs.Keeping.{inside-still}
use Rattle.std.proofs.Common.{Ok, Option, ap, option_map, sym, ◌∙◌}
use Rattle.mb_base.specs.declared.value.Value.TheVariants as v
use Rattle.mb_frames.proofs.Passed.{Part-by, Part-passed, Part-sure, Passes-texts}
use Rattle.mb_frames.specs.Passing.{TextsGrew}
use Rattle.mb_model.specs.Meaning.{finished}
use Rattle.mb_model.specs.Nodes.Scopes.{find_binding, value_bound}
use Rattle.mb_model.specs.Nodes.UnaryOperators.{typeof_bound, typeof_value}
use Rattle.mb_model.specs.Writing.{◌>>=◌, is_value, look, reference_error}
use Rattle.mb_world.specs.Data.{Data}
use Rattle.mb_world.specs.Graph.{Binding}
use Rattle.mb_world.specs.Image.{Image, Resolve, names_of, text_in}
use Rattle.mb_world.specs.Value.{Text}
use Rattle.mb_eval_expr.proofs.beginning.typeof_name.Goals as goal

pub returns-in-Some-value-clause-row : goal.returns-in-Some-value-clause-row
returns-in-Some-value-clause-row c = λ f.
    let d = c.args.w.now in
    let n = names_of d in
    let s = c.args.home.0 in
    let x = text_in n c.args.name in
    Part-by c.args.home c.typeof_value.result d c.typeof_value.new.w f f
    ((look (λ g. find_binding g c.args.at.scope.0 x) >>= typeof_bound s) finished)
    (typeof_value (Resolve n c.in-Some-value.x) finished)
    (λ log. ap (λ (o : Option Binding). typeof_bound s o finished (Image d log)) (sym (c.in-Some.ensures.value log))
    ∙ ap (λ o. (value_bound s (option_map (Resolve n) o) >>= typeof_value) finished (Image d log)) c.in-Some-value.is)
    (c.typeof_value.ensures.row f)

pub returns-in-None-value-clause-row : goal.returns-in-None-value-clause-row
returns-in-None-value-clause-row c = λ f.
    let d = c.args.w.now in
    let n = names_of d in
    let s = c.args.home.0 in
    let x = text_in n c.args.name in
    Part-by c.args.home c.throws.result d c.throws.new.w f f
    ((look (λ g. find_binding g c.args.at.scope.0 x) >>= typeof_bound s) finished)
    (reference_error s finished)
    (λ log. ap (λ (o : Option Binding). typeof_bound s o finished (Image d log)) (sym (c.in-Some.ensures.value log))
    ∙ ap (λ o. (value_bound s (option_map (Resolve n) o) >>= typeof_value) finished (Image d log)) c.in-None-value.is)
    (c.throws.ensures.part f)

pub returns-in_ok-text-in-None-clause-row : goal.returns-in_ok-text-in-None-clause-row
returns-in_ok-text-in-None-clause-row c = λ f.
    let d = c.args.w.now in
    let d' : Data = c.word.new.w in
    let n = names_of d in
    let s = c.args.home.0 in
    let x = text_in n c.args.name in
    let t : TextsGrew d d' = c.in_ok-text-in-None.ensures.grew in
    let p = (look (λ g. find_binding g c.args.at.scope.0 x) >>= typeof_bound s) finished in
    let q = is_value (Text (text_in (names_of d') c.in_ok-text-in-None.text)) finished in
    Part-passed c.args.home (Ok c.value.result) d d' d' f f f p q
    (Passes-texts d d' f p q t
    (λ log. ap (λ (o : Option Binding). typeof_bound s o finished (Image d log)) (sym (c.in-None.ensures.value log))
    ∙ ap (λ u. is_value (Text u) finished (Image d log)) (sym c.in_ok-text-in-None.ensures.text)))
    (Part-sure c.args.home d' f q c.value.result
    (c.value.ensures.row c.args.home d' c.in_ok-text-in-None.ensures.within))

pub returns-in-Some-value-clause-keeps : goal.returns-in-Some-value-clause-keeps
returns-in-Some-value-clause-keeps c = λ r i h. c.typeof_value.ensures.keeps r i tt

pub returns-in-None-value-clause-keeps : goal.returns-in-None-value-clause-keeps
returns-in-None-value-clause-keeps c = λ r i h. c.throws.ensures.keeps AValue r i tt

pub returns-in_ok-text-in-None-clause-keeps : goal.returns-in_ok-text-in-None-clause-keeps
returns-in_ok-text-in-None-clause-keeps c = λ r i h.
    let d = c.args.w.now in
    let d' : Data = c.word.new.w in
    let o = c.args.home in
    let g : Changed o d d' = texts-changed o d d' c.in_ok-text-in-None.ensures.grew r in
    kept-now o d d' g (c.value.ensures.leaves o d' g.ready (inside-still o d d' g i)
    (plain-held d' o (v.Text c.in_ok-text-in-None.text) tt c.in_ok-text-in-None.ensures.within, tt))

pub returns-in_err-text-in-None-clause-keeps : goal.returns-in_err-text-in-None-clause-keeps
returns-in_err-text-in-None-clause-keeps c =
    let p = err_from_is_err_and c.from_residual.result c.from_residual.ensures.1 in
    rw (p.1, c.in_err-text-in-None.ensures.kept) (λ r i h. kept-still c.args.home c.args.w.now r)
