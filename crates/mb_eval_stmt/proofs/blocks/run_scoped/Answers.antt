use Rattle.std.proofs.lemmas.Result.{err_from_is_err_and}
use Rattle.mb_frames.specs.Resolved.{context_in}
use Rattle.mb_frames.specs.Rest.Parts.{parts_at}
use Rattle.mb_frames.specs.Standing.{forms_at}
use Rattle.mb_model.specs.Meaning.{finished}
use Rattle.mb_model.specs.Nodes.Evaluation.{with_scope}
use Rattle.mb_model.specs.Nodes.Scopes.{declare, enter_scope}
use Rattle.mb_model.specs.Nodes.Statements.{run_each}
use Rattle.mb_model.specs.Writing.{◌>>=◌}
use Rattle.mb_world.specs.Image.{names_of}
use Rattle.mb_eval_stmt.proofs.Giving.{Step-scoped}
use Rattle.mb_frames.proofs.Going.{Step-unentered}
use Rattle.std.proofs.Common.{[], slice_get, ◌++◌, ◌∷◌, Err}
use Rattle.mb_frames.proofs.Leaving.{holds-still}
use Rattle.mb_frames.specs.Held.{HeldNode}
use Rattle.mb_frames.specs.Kinds.{is_list_form}
use Rattle.mb_eval_stmt.specs.machine.Keeping.{context_held}
use Rattle.mb_frames.specs.Keeping.{none_held, scope_held}
use Rattle.mb_eval_stmt.proofs.Keeping.{entered-then, keeps-by, keeps-then, list-statement}
use Rattle.mb_parts.proofs.Answering.{keeps-halts}
use Rattle.mb_eval_stmt.proofs.Rows.{inside}
use Rattle.mb_frames.specs.Sorts.{ACompletion}
use Rattle.mb_eval_stmt.proofs.blocks.run_scoped.Goals as goal

pub returns-in_err-scope-clause-row : goal.returns-in_err-scope-clause-row
returns-in_err-scope-clause-row c = λ begun l.
    let d = c.args.w.now in
    let x = context_in (names_of d) c.args.home.0 c.args.at in
    let ps = parts_at (forms_at d c.args.home) c.args.node.0 in
    let p = err_from_is_err_and c.from_residual.result c.from_residual.ensures.1 in
    rw (p.1, p.2)
    (Step-unentered c.args.home begun c.in_err-scope.field-0.0 d c.enter_scope.new.w c.args.fuel.now
    c.enter_scope.new.fuel l
    (enter_scope c.args.home.0 c.args.at.scope.0 c.args.node.0)
    (λ sc. (declare c.args.home.0 sc ps >>= (λ a. run_each (with_scope x sc) ps)) finished)
    c.in_err-scope.ensures.enters)

pub returns-clause-row : goal.returns-clause-row
returns-clause-row c = λ begun l.
    Step-scoped c.args.home begun c.run_each.result c.args.w.now c.enter_scope.new.w c.declare.new.w c.args.fuel.now
    c.enter_scope.new.fuel l c.args.at c.args.node c.in_ok-scope.scope c.requires.world.ids c.enter_scope.ensures.ids
    c.requires.context c.in_ok-scope.ensures.enters c.in_ok-scope.ensures.scope c.in_ok-declare.ensures.changes
    (λ b. c.run_each.ensures.row b c.enter_scope.new.fuel l)

pub returns-in_err-scope-clause-keeps : goal.returns-in_err-scope-clause-keeps
returns-in_err-scope-clause-keeps c = λ r i h.
    let n = list-statement (slice_get (forms_at c.args.w.now c.args.home) c.args.node.0) h.1.1.0.sound in
    let p = err_from_is_err_and c.from_residual.result c.from_residual.ensures.1 in
    rw (p.1, p.2)
    (keeps-halts scope_held c.args.home ACompletion c.in_err-scope.field-0.0 c.args.w.now c.enter_scope.new.w
    (c.in_err-scope.ensures.keeps n r i (h.0, tt)))

pub returns-in_err-declare-clause-keeps : goal.returns-in_err-declare-clause-keeps
returns-in_err-declare-clause-keeps c = λ r i h.
    let home = c.args.home in
    let n = list-statement (slice_get (forms_at c.args.w.now home) c.args.node.0) h.1.1.0.sound in
    let k = c.in_ok-scope.ensures.keeps n r i (h.0, tt) in
    let p = err_from_is_err_and c.from_residual-in_err-declare.result c.from_residual-in_err-declare.ensures.1 in
    rw (p.1, p.2)
    (entered-then home (Err c.in_err-declare.field-0.0) c.args.w.now c.enter_scope.new.w c.declare.new.w c.args.at
    c.in_ok-scope.scope r i (h.0, (h.1.0, tt)) k
    (λ s m z. keeps-halts none_held home ACompletion c.in_err-declare.field-0.0 c.enter_scope.new.w c.declare.new.w
    (c.in_err-declare.ensures.keeps s m (z.0, tt))))

pub returns-clause-keeps : goal.returns-clause-keeps
returns-clause-keeps c = λ r i h.
    let home = c.args.home in
    let d = c.args.w.now in
    let d1 = c.enter_scope.new.w in
    let d2 = c.declare.new.w in
    let held = context_held c.args.at ++ HeldNode is_list_form c.args.node.0 ∷ [] in
    let n = list-statement (slice_get (forms_at d home) c.args.node.0) h.1.1.0.sound in
    let k = c.in_ok-scope.ensures.keeps n r i (h.0, tt) in
    entered-then home c.run_each.result d d1 d2 c.args.at c.in_ok-scope.scope r i (h.0, (h.1.0, tt)) k
    (λ s m z.
    let u = c.in_ok-declare.ensures.keeps s m (z.0, tt) in
    let g = holds-still home d1 d2 s u.changed (context_held (inside c.args.at c.in_ok-scope.scope)) z in
    let q = holds-still home d1 d2 s u.changed held (holds-still home d d1 r k.changed held h) in
    keeps-then home c.run_each.result d1 d2 d2 u.changed
    (keeps-by home d2 c.run_each.result u.changed.ready
    (c.run_each.ensures.leaves (g.0, (g.1.0, (q.1.1.0, tt))))))
