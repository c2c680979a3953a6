use Rattle.std.proofs.Common.{[], ◌∷◌}
use Rattle.mb_eval_expr.proofs.Listing.{Part-same, elements-grow}
use Rattle.mb_frames.proofs.Going.{Makes-passes}
use Rattle.mb_frames.proofs.Passed.{Part-passed}
use Rattle.mb_frames.specs.Resolved.{context_in}
use Rattle.mb_frames.specs.Rest.Parts.{parts_at}
use Rattle.mb_frames.specs.Standing.{forms_at}
use Rattle.mb_model.specs.Meaning.{finished}
use Rattle.mb_model.specs.Nodes.Literals.{elements}
use Rattle.mb_model.specs.Operations.Makings.{make_array}
use Rattle.mb_model.specs.Writing.{◌>>=◌}
use Rattle.mb_world.specs.Data.{Data}
use Rattle.mb_world.specs.Image.{names_of, object_in}
use Rattle.std.proofs.lemmas.Result.{err_from_is_err_and}
use Rattle.mb_eval_expr.proofs.Keeping.{kept-halted, kept-then}
use Rattle.mb_eval_expr.specs.machine.Keeping.{context_held}
use Rattle.mb_frames.proofs.Keeping.{inside-still}
use Rattle.mb_frames.proofs.Leaving.{holds-still}
use Rattle.mb_frames.specs.Held.{HeldNode}
use Rattle.mb_frames.specs.Kinds.{is_array_form}
use Rattle.mb_eval_expr.proofs.elements.array_row.Goals as goal

pub returns-clause-row : goal.returns-clause-row
returns-clause-row c = λ f.
    let d = c.args.w.now in
    let d' : Data = c.empty_array.new.w in
    let n = names_of d in
    let s = c.args.home.0 in
    let x = context_in n s c.args.at in
    let ns = parts_at (forms_at d c.args.home) c.args.node.0 in
    let id = c.in_ok-array.array in
    let a = object_in (names_of d') id in
    let q = elements x a 0 ns in
    let q' = elements (context_in (names_of d') s c.args.at) a 0 (parts_at (forms_at d' c.args.home) c.args.node.0) in
    Part-passed c.args.home c.elements_from.result d d' d' f f f
    ((make_array s [] >>= (λ o. elements x o 0 ns)) finished) (q finished)
    (Makes-passes d d' f (make_array s []) id (λ o. elements x o 0 ns finished) c.in_ok-array.ensures.makes)
    (Part-same c.args.home c.elements_from.result d' d' f f q q'
    (elements-grow d d' c.args.home c.args.at c.requires.acts.ids c.in_ok-array.ensures.makes.grew c.requires.at
    c.args.node.0 a 0)
    (c.elements_from.ensures.row f))

pub returns-in_err-array-clause-keeps : goal.returns-in_err-array-clause-keeps
returns-in_err-array-clause-keeps c = λ r i h.
    let p = err_from_is_err_and c.from_residual.result c.from_residual.ensures.1 in
    rw p.1 (kept-halted c.args.home c.args.w.now c.empty_array.new.w (c.in_err-array.ensures.keeps r i tt).changed)

pub returns-clause-keeps : goal.returns-clause-keeps
returns-clause-keeps c = λ r i h.
    let d = c.args.w.now in
    let d' : Data = c.empty_array.new.w in
    let home = c.args.home in
    let k = c.in_ok-array.ensures.keeps r i tt in
    let g = holds-still home d d' r k.changed (HeldNode is_array_form c.args.node.0 ∷ context_held c.args.at) h in
    kept-then home d d' k.changed d'
    (c.elements_from.ensures.keeps k.changed.ready (inside-still home d d' k.changed i)
    (g.1.0, (g.1.1.0, (g.0, (k.holds.0, tt)))))
