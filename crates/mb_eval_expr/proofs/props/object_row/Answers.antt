use Rattle.std.proofs.Common.{◌∙◌, List, None, ap, sym}
use Rattle.std.proofs.lemmas.Result.{err_from_is_err_and}
use Rattle.mb_eval_expr.proofs.Keeping.{kept-halted, kept-then, stays}
use Rattle.mb_eval_expr.proofs.Listing.{Part-same}
use Rattle.mb_frames.proofs.Forms.{context-grows, forms-grow}
use Rattle.mb_frames.proofs.Going.{Makes-passes}
use Rattle.mb_frames.proofs.Keeping.{inside-still}
use Rattle.mb_frames.proofs.Passed.{Part-passed}
use Rattle.mb_frames.specs.Resolved.{context_in}
use Rattle.mb_frames.specs.Rest.Parts.{parts_at}
use Rattle.mb_frames.specs.Standing.{forms_at}
use Rattle.mb_model.specs.Meaning.{finished}
use Rattle.mb_model.specs.Nodes.Evaluation.{Context}
use Rattle.mb_model.specs.Nodes.Literals.{props}
use Rattle.mb_model.specs.Operations.Makings.{make_plain}
use Rattle.mb_model.specs.Writing.{◌>>=◌}
use Rattle.mb_world.specs.Data.{Data}
use Rattle.mb_world.specs.Form.{Form}
use Rattle.mb_world.specs.Image.{names_of, object_in}
use Rattle.mb_world.specs.Standard.{object_prototype}
use Rattle.mb_eval_expr.proofs.props.object_row.Goals as goal

pub props_from-requires-clause-ready : goal.props_from-requires-clause-ready
props_from-requires-clause-ready c =
    (c.in_ok-object.ensures.keeps c.requires.ready c.requires.acts.runs.takes_part tt).changed.ready

pub props_from-requires-clause-inside : goal.props_from-requires-clause-inside
props_from-requires-clause-inside c =
    let k = c.in_ok-object.ensures.keeps c.requires.ready c.requires.acts.runs.takes_part tt in
    inside-still c.args.home c.args.w.now c.make_plain.new.w k.changed c.requires.acts.runs.takes_part

pub props_from-requires-clause-holds : goal.props_from-requires-clause-holds
props_from-requires-clause-holds c =
    let d = c.args.w.now in
    let d1 : Data = c.make_plain.new.w in
    let home = c.args.home in
    let r = c.requires.ready in
    let h = c.requires.holds in
    let k = c.in_ok-object.ensures.keeps r c.requires.acts.runs.takes_part tt in
    let g = k.changed in
    (stays home d d1 g r h.1.0, (stays home d d1 g r h.1.1.0, (stays home d d1 g r h.0, (k.holds.0, tt))))

pub returns-clause-row : goal.returns-clause-row
returns-clause-row c =
    let d = c.args.w.now in
    let d1 : Data = c.make_plain.new.w in
    let home = c.args.home in
    let s = home.0 in
    let f = c.args.fuel.now in
    let f' = c.props_from.new.fuel in
    let x = context_in (names_of d) s c.args.at in
    let ns = parts_at (forms_at d home) c.args.node.0 in
    let id = c.in_ok-object.object in
    let a = object_in (names_of d1) id in
    let q = c.in_ok-object.ensures.makes in
    let k = props x a ns in
    let k' = props (context_in (names_of d1) s c.args.at) a (parts_at (forms_at d1 home) c.args.node.0) in
    Part-passed home c.props_from.result d d1 c.props_from.new.w f f f'
    ((make_plain s None object_prototype >>= (λ o. props x o ns)) finished) (k finished)
    (Makes-passes d d1 f (make_plain s None object_prototype) id (λ o. props x o ns finished) q)
    (Part-same home c.props_from.result d1 c.props_from.new.w f f' k k'
    (ap (λ (z : Context). props z a ns) (sym (context-grows d d1 home c.args.at c.requires.at.1 q.grew))
    ∙ ap (λ (fs : List Form). props (context_in (names_of d1) s c.args.at) a (parts_at fs c.args.node.0))
    (sym (forms-grow d d1 home c.requires.acts.ids q.grew)))
    c.props_from.ensures.row)

pub returns-in_err-object-clause-keeps : goal.returns-in_err-object-clause-keeps
returns-in_err-object-clause-keeps c = λ r i h.
    let p = err_from_is_err_and c.from_residual.result c.from_residual.ensures.1 in
    rw p.1 (kept-halted c.args.home c.args.w.now c.make_plain.new.w (c.in_err-object.ensures.keeps r i tt).changed)

pub returns-clause-keeps : goal.returns-clause-keeps
returns-clause-keeps c = λ r i h.
    let k = c.in_ok-object.ensures.keeps r i tt in
    kept-then c.args.home c.args.w.now c.make_plain.new.w k.changed c.props_from.new.w
    (record { changed = c.props_from.ensures.changed; leaves = c.props_from.ensures.leaves })
