use Rattle.mb_model.specs.Nodes.Scopes.{initialize}
use Rattle.mb_world.specs.Image.{Resolve, names_of, text_in}
use Rattle.mb_eval_stmt.proofs.Giving.{Step-declared}
use Rattle.std.proofs.lemmas.Result.{err_from_is_err_and}
use Rattle.std.proofs.Common.{[], ◌++◌, ◌∷◌}
use Rattle.mb_frames.proofs.Leaving.{holds-still}
use Rattle.mb_frames.specs.Held.{HeldNode}
use Rattle.mb_frames.specs.Kinds.{is_declaring_form}
use Rattle.mb_eval_stmt.specs.machine.Keeping.{context_held}
use Rattle.mb_frames.specs.Keeping.{none_held}
use Rattle.mb_eval_stmt.proofs.Keeping.{keeps-then}
use Rattle.mb_parts.proofs.Answering.{keeps-halts}
use Rattle.mb_frames.proofs.Keeping.{inside-still}
use Rattle.mb_frames.specs.Sorts.{ACompletion}
use Rattle.mb_eval_stmt.proofs.declarations.declared.Goals as goal

pub returns-clause-row : goal.returns-clause-row
returns-clause-row c = λ begun f l.
    let n = names_of c.args.w.now in
    Step-declared c.args.home begun c.give_each.result c.args.w.now c.initialize.new.w c.give_each.new.w f l c.args.at
    c.args.node c.args.next (initialize c.args.at.scope.0 (text_in n c.args.name) (Resolve n c.args.x))
    c.requires.world.ids c.requires.context c.in_ok-initialize.ensures.changes (λ b. c.give_each.ensures.row b f l)

pub returns-in_err-initialize-clause-keeps : goal.returns-in_err-initialize-clause-keeps
returns-in_err-initialize-clause-keeps c = λ r i h.
    let p = err_from_is_err_and c.from_residual.result c.from_residual.ensures.1 in
    rw (p.1, p.2)
    (keeps-halts none_held c.args.home ACompletion c.in_err-initialize.field-0.0 c.args.w.now c.initialize.new.w
    (c.in_err-initialize.ensures.keeps c.args.home r i (h.0, (h.1.1.1.0, (h.1.1.1.1.0, tt)))))

pub returns-clause-keeps : goal.returns-clause-keeps
returns-clause-keeps c = λ r i h.
    let d = c.args.w.now in
    let d1 = c.initialize.new.w in
    let home = c.args.home in
    let k = c.in_ok-initialize.ensures.keeps home r i (h.0, (h.1.1.1.0, (h.1.1.1.1.0, tt))) in
    let q = holds-still home d d1 r k.changed (context_held c.args.at ++ HeldNode is_declaring_form c.args.node.0 ∷ [])
    (h.0, (h.1.0, (h.1.1.0, tt))) in
    keeps-then home c.give_each.result d d1 c.give_each.new.w k.changed
    (c.give_each.ensures.keeps k.changed.ready (inside-still home d d1 k.changed i) q)
