use Rattle.std.proofs.Common.{◌+◌, ◌∙◌, ap, drop, sym}
use Rattle.std.proofs.lemmas.Result.{err_from_is_err_and}
use Rattle.mb_eval_expr.proofs.Keeping.{kept-halted, kept-still, kept-then}
use Rattle.mb_frames.proofs.Keeping.{inside-still}
use Rattle.mb_frames.proofs.Leaving.{holds-still}
use Rattle.mb_frames.specs.Holding.{expr_held}
use Rattle.mb_frames.specs.declared.expressions.ExprFrame.TheVariants as e
use Rattle.mb_eval_expr.proofs.Listing.{Part-same, elements-grow}
use Rattle.mb_frames.proofs.Going.{WentOn-free, WentOn-passes}
use Rattle.mb_frames.proofs.Passed.{Part-passed}
use Rattle.mb_frames.specs.Resolved.{context_in}
use Rattle.mb_frames.specs.Rest.Parts.{parts_at}
use Rattle.mb_frames.specs.Standing.{forms_at}
use Rattle.mb_model.specs.Meaning.{finished}
use Rattle.mb_model.specs.Nodes.Literals.{elements}
use Rattle.mb_model.specs.Objects.Methods.{store_element}
use Rattle.mb_model.specs.Task.{Answer}
use Rattle.mb_model.specs.Writing.{◌>>=◌}
use Rattle.mb_world.specs.Data.{Data}
use Rattle.mb_world.specs.Image.{Resolve, names_of, object_in}
use Rattle.mb_world.specs.Value.{Val}
use Rattle.mb_eval_expr.proofs.elements.element_got.Goals as goal

pub returns-clause-row : goal.returns-clause-row
returns-clause-row c = λ f.
    let d = c.args.w.now in
    let d' : Data = c.store_element.new.w in
    let n = names_of d in
    let s = c.args.home.0 in
    let x = context_in n s c.args.at in
    let place = c.args.place + 1 in
    let ns = drop place (parts_at (forms_at d c.args.home) c.args.node.0) in
    let a = object_in n c.args.array in
    let p = store_element s a c.args.place (Resolve n c.args.x) in
    let k = elements x a place ns in
    let q = c.in_ok-store_element.ensures.stored in
    let k' = elements (context_in (names_of d') s c.args.at) (object_in (names_of d') c.args.array) place
    (drop place (parts_at (forms_at d' c.args.home) c.args.node.0)) in
    Part-passed c.args.home c.elements_from.result d d' d' f f f ((p >>= (λ b. k)) finished) (k finished)
    (WentOn-passes Answer d d' f f p q.0 (λ b. k finished) (WentOn-free Answer d d' f p q.0 q.1))
    (Part-same c.args.home c.elements_from.result d' d' f f k k'
    (elements-grow d d' c.args.home c.args.at c.requires.acts.ids q.1.grew c.requires.at c.args.node.0 a place
    ∙ ap (λ (y : Val). elements (context_in (names_of d') s c.args.at) y place
    (drop place (parts_at (forms_at d' c.args.home) c.args.node.0)))
    (sym (q.1.grew.grows.same_object c.args.array c.requires.holds.0.within)))
    (c.elements_from.ensures.row f))

pub returns-then-place-clause-keeps : goal.returns-then-place-clause-keeps
returns-then-place-clause-keeps c = λ r i h. kept-still c.args.home c.args.w.now r

pub returns-in_err-store_element-clause-keeps : goal.returns-in_err-store_element-clause-keeps
returns-in_err-store_element-clause-keeps c = λ r i h.
    let p = err_from_is_err_and c.from_residual.result c.from_residual.ensures.1 in
    rw p.1 (kept-halted c.args.home c.args.w.now c.store_element.new.w
    (c.in_err-store_element.ensures.keeps r i (h.1.1.1.1.0, (h.0, tt))).changed)

pub returns-clause-keeps : goal.returns-clause-keeps
returns-clause-keeps c = λ r i h.
    let d = c.args.w.now in
    let d' : Data = c.store_element.new.w in
    let home = c.args.home in
    let k = c.in_ok-store_element.ensures.keeps r i (h.1.1.1.1.0, (h.0, tt)) in
    let g = holds-still home d d' r k.changed (expr_held (e.Element c.args.at c.args.node c.args.array c.args.place))
    h.1 in
    kept-then home d d' k.changed d'
    (c.elements_from.ensures.keeps k.changed.ready (inside-still home d d' k.changed i)
    (g.0, (g.1.0, (g.1.1.0, (g.1.1.1.0, tt)))))
