use Rattle.std.proofs.Common.{Ok}
use Rattle.mb_parts.proofs.Fresh.{Acts-prototypes}
use Rattle.mb_frames.proofs.Going.{Makes-passes}
use Rattle.mb_frames.proofs.Passed.{Part-passed, Part-sure}
use Rattle.mb_frames.specs.Resolved.{label_in}
use Rattle.mb_model.specs.Meaning.{finished}
use Rattle.mb_model.specs.Operations.Makings.{make_function}
use Rattle.mb_model.specs.Writing.{◌>>=◌, is_value}
use Rattle.mb_world.specs.Data.{Data}
use Rattle.mb_world.specs.Image.{code_in, names_of, object_in, text_in}
use Rattle.std.proofs.lemmas.Result.{err_from_is_err_and}
use Rattle.mb_eval_expr.proofs.Keeping.{kept-halted, kept-now, kept-still}
use Rattle.mb_frames.proofs.Keeping.{inside-still}
use Rattle.mb_eval_expr.proofs.functions.made.Goals as goal

pub make_function-requires-clause-built_ins : goal.make_function-requires-clause-built_ins
make_function-requires-clause-built_ins c = Acts-prototypes c.args.w.now c.args.code.side c.requires.acts

pub returns-clause-row : goal.returns-clause-row
returns-clause-row c = λ f.
    let d = c.args.w.now in
    let d' : Data = c.make_function.new.w in
    let n = names_of d in
    let home = c.args.code.side in
    let p = make_function (code_in n c.args.code) (label_in n c.args.label) c.args.params (text_in n c.args.name) in
    let id = c.in_ok-function.function in
    let q = is_value (object_in (names_of d') id) finished in
    Part-passed home (Ok c.value.result) d d' d' f f f ((p >>= is_value) finished) q
    (Makes-passes d d' f p id (λ x. is_value x finished) c.in_ok-function.ensures.makes)
    (Part-sure home d' f q c.value.result (c.value.ensures.row home d' c.in_ok-function.ensures.made))

pub returns-then-params-gt-MOST_PARAMS-clause-keeps : goal.returns-then-params-gt-MOST_PARAMS-clause-keeps
returns-then-params-gt-MOST_PARAMS-clause-keeps c = λ r i h. kept-still c.args.code.side c.args.w.now r

pub returns-in_err-function-clause-keeps : goal.returns-in_err-function-clause-keeps
returns-in_err-function-clause-keeps c = λ r i h.
    let p = err_from_is_err_and c.from_residual.result c.from_residual.ensures.1 in
    rw p.1 (kept-halted c.args.code.side c.args.w.now c.make_function.new.w
    (c.in_err-function.ensures.keeps r i h).changed)

pub returns-clause-keeps : goal.returns-clause-keeps
returns-clause-keeps c = λ r i h.
    let d = c.args.w.now in
    let d' : Data = c.make_function.new.w in
    let home = c.args.code.side in
    let k = c.in_ok-function.ensures.keeps r i h in
    kept-now home d d' k.changed
    (c.value.ensures.leaves home d' k.changed.ready (inside-still home d d' k.changed i) (k.holds.0, tt))
