use Rattle.std.proofs.Common.{None, Some, [], ap, false, List, ℕ, sym, ◌∙◌}
use Rattle.mb_parts.proofs.Writing.{Acts-texts, Grew-texts}
use Rattle.mb_frames.proofs.Passed.{Part-passed, Passes-texts}
use Rattle.mb_model.specs.Meaning.{finished}
use Rattle.mb_model.specs.Nodes.Scopes.{code}
use Rattle.mb_model.specs.Operations.Makings.{make_function}
use Rattle.mb_model.specs.Writing.{◌>>=◌, is_value}
use Rattle.mb_world.proofs.Images.{value-grows}
use Rattle.mb_world.proofs.Grow.{ValueIn-grows}
use Rattle.mb_world.specs.Data.{Data}
use Rattle.mb_world.specs.Image.{Image, Resolve, names_of, text_in}
use Rattle.mb_world.specs.Value.{Val}
use Rattle.std.proofs.lemmas.Result.{err_from_is_err_and}
use Rattle.mb_eval_expr.proofs.Keeping.{kept-still, kept-then, stays}
use Rattle.mb_parts.proofs.Texting.{texts-changed}
use Rattle.mb_frames.proofs.HeldLess.{text-if-held, text-held}
use Rattle.mb_frames.proofs.Keeping.{inside-still}
use Rattle.mb_eval_expr.proofs.functions.arrow_row.Goals as goal

pub made-requires-clause-acts : goal.made-requires-clause-acts
made-requires-clause-acts c =
    Acts-texts c.args.w.now c.word.new.w c.args.home c.in_ok-name.ensures.grew c.requires.acts

pub made-requires-clause-scope : goal.made-requires-clause-scope
made-requires-clause-scope c = rw c.in_ok-name.ensures.grew.texts c.requires.at.0

pub made-requires-clause-this : goal.made-requires-clause-this
made-requires-clause-this c =
    ValueIn-grows c.args.w.now c.word.new.w (Grew-texts c.args.w.now c.word.new.w c.in_ok-name.ensures.grew).grows
    c.args.at.this c.requires.at.1

pub returns-clause-row : goal.returns-clause-row
returns-clause-row c = λ f.
    let d = c.args.w.now in
    let d' : Data = c.word.new.w in
    let t = c.in_ok-name.ensures.grew in
    let s = c.args.home.0 in
    let k = code s c.args.node.0 c.args.at.scope.0 false in
    let p = (make_function (k (Some (Resolve (names_of d) c.args.at.this))) None c.args.params [] >>= is_value)
    finished in
    let q = (make_function (k (Some (Resolve (names_of d') c.args.at.this))) None c.args.params
    (text_in (names_of d') c.in_ok-name.name) >>= is_value) finished in
    Part-passed c.args.home c.made.result d d' c.made.new.w f f f p q
    (Passes-texts d d' f p q t
    (λ log. ap (λ (v : Val). (make_function (k (Some v)) None c.args.params [] >>= is_value) finished (Image d log))
    (sym (value-grows d d' (Grew-texts d d' t).grows c.args.at.this c.requires.at.1))
    ∙ ap (λ (x : List ℕ). (make_function (k (Some (Resolve (names_of d') c.args.at.this))) None c.args.params x >>=
    is_value) finished (Image d log))
    (sym c.in_ok-name.ensures.text)))
    (c.made.ensures.row f)

pub returns-in_err-name-clause-keeps : goal.returns-in_err-name-clause-keeps
returns-in_err-name-clause-keeps c =
    let p = err_from_is_err_and c.from_residual.result c.from_residual.ensures.1 in
    rw (p.1, c.in_err-name.ensures.kept) (λ r i h. kept-still c.args.home c.args.w.now r)

pub returns-clause-keeps : goal.returns-clause-keeps
returns-clause-keeps c = λ r i h.
    let d = c.args.w.now in
    let d' : Data = c.word.new.w in
    let home = c.args.home in
    let g = texts-changed home d d' c.in_ok-name.ensures.grew r in
    kept-then home d d' g c.made.new.w
    (c.made.ensures.keeps g.ready (inside-still home d d' g i) (
      stays home d d' g r h.1.0,
      (
        stays home d d' g r h.0,
        (
          text-if-held d' home None tt,
          (text-held d' home c.in_ok-name.name c.in_ok-name.ensures.within, (stays home d d' g r h.1.1.0, tt)),
        ),
      ),
    ))
