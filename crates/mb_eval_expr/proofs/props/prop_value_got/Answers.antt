use Rattle.std.proofs.Common.{◌+◌, sym}
use Rattle.std.proofs.lemmas.Result.{err_from_is_err_and}
use Rattle.mb_eval_expr.proofs.Keeping.{kept-halted, kept-then, stays}
use Rattle.mb_eval_expr.proofs.Listing.{Part-same}
use Rattle.mb_parts.proofs.Opened.{opened-held}
use Rattle.mb_eval_expr.proofs.Propping.{from_place, place-grow}
use Rattle.mb_frames.proofs.Going.{WentOn-free, WentOn-passes}
use Rattle.mb_frames.proofs.Keeping.{inside-still}
use Rattle.mb_frames.proofs.Passed.{Part-passed}
use Rattle.mb_model.specs.Meaning.{finished}
use Rattle.mb_model.specs.Nodes.Literals.{prop_value}
use Rattle.mb_model.specs.Task.{Answer}
use Rattle.mb_model.specs.Writing.{◌>>=◌}
use Rattle.mb_world.specs.Data.{Data}
use Rattle.mb_world.specs.Image.{Resolve, key_in, names_of, object_in}
use Rattle.mb_eval_expr.proofs.props.prop_value_got.Goals as goal

pub defined-requires-clause-holds : goal.defined-requires-clause-holds
defined-requires-clause-holds c =
    let h = c.requires.holds in
    (h.1.1.1.1.0, (rw c.open_desc.ensures (opened-held c.args.w.now c.args.home c.args.x h.0), tt))

pub defined-requires-clause-key : goal.defined-requires-clause-key
defined-requires-clause-key c = c.requires.holds.1.1.1.1.1.0.within

pub props_from-requires-clause-ready : goal.props_from-requires-clause-ready
props_from-requires-clause-ready c = c.defined.ensures.changed.ready

pub props_from-requires-clause-inside : goal.props_from-requires-clause-inside
props_from-requires-clause-inside c =
    inside-still c.args.home c.args.w.now c.defined.new.w c.defined.ensures.changed c.requires.acts.runs.takes_part

pub props_from-requires-clause-holds : goal.props_from-requires-clause-holds
props_from-requires-clause-holds c =
    let d = c.args.w.now in
    let d1 : Data = c.defined.new.w in
    let home = c.args.home in
    let r = c.requires.ready in
    let h = c.requires.holds.1 in
    let g = c.defined.ensures.changed in (
      stays home d d1 g r h.0,
      (stays home d d1 g r h.1.0, (stays home d d1 g r h.1.1.0, (stays home d d1 g r h.1.1.1.0, tt))),
    )

pub returns-clause-row : goal.returns-clause-row
returns-clause-row c =
    let d = c.args.w.now in
    let d1 : Data = c.defined.new.w in
    let home = c.args.home in
    let l = c.args.literal in
    let n = names_of d in
    let f = c.args.fuel.now in
    let f' = c.props_from.new.fuel in
    let p = prop_value home.0 (object_in n l.object) (key_in n c.args.key) (Resolve n c.args.x) in
    let place = l.place + 1 in
    let k = from_place d home l place in
    let k' = from_place d1 home l place in
    let s = rw c.open_desc.ensures at c.in_ok-defined.ensures.stored in
    let h = c.requires.holds.1 in
    Part-passed home c.props_from.result d d1 c.props_from.new.w f f f' ((p >>= (λ b. k)) finished) (k finished)
    (WentOn-passes Answer d d1 f f p s.0 (λ b. k finished) (WentOn-free Answer d d1 f p s.0 s.1))
    (Part-same home c.props_from.result d1 c.props_from.new.w f f' k k'
    (sym (place-grow d d1 home l place c.requires.acts.ids s.1.grew (h.0, (h.1.0, (h.1.1.0, (h.1.1.1.0, tt))))))
    c.props_from.ensures.row)

pub returns-in_err-defined-clause-keeps : goal.returns-in_err-defined-clause-keeps
returns-in_err-defined-clause-keeps c = λ r i h.
    let p = err_from_is_err_and c.from_residual.result c.from_residual.ensures.1 in
    rw p.1 (kept-halted c.args.home c.args.w.now c.defined.new.w c.defined.ensures.changed)

pub returns-clause-keeps : goal.returns-clause-keeps
returns-clause-keeps c = λ r i h.
    kept-then c.args.home c.args.w.now c.defined.new.w c.defined.ensures.changed c.props_from.new.w
    (record { changed = c.props_from.ensures.changed; leaves = c.props_from.ensures.leaves })
