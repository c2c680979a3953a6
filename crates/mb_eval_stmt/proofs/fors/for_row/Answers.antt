use Rattle.std.proofs.Common.{Err, Ok, Some, None, subst, true, Bool}
use Rattle.std.proofs.lemmas.Result.{err_from_is_err_and}
use Rattle.mb_frames.specs.Resolved.{context_in, node_in}
use Rattle.mb_frames.specs.Rest.Statements.{lets_of}
use Rattle.mb_frames.specs.Standing.{forms_at}
use Rattle.mb_model.specs.Meaning.{finished}
use Rattle.mb_model.specs.Nodes.Evaluation.{with_scope}
use Rattle.mb_model.specs.Nodes.Statements.{enter_if}
use Rattle.mb_world.specs.Image.{Resolve, names_of}
use Rattle.mb_frames.proofs.Forms.{CanRun-grows}
use Rattle.mb_eval_stmt.proofs.ForRows.{Step-first, Step-row, Step-unfirst, after-scope}
use Rattle.mb_frames.proofs.Going.{Step-unentered}
use Rattle.mb_frames.proofs.Passed.{puts-none}
use Rattle.mb_eval_stmt.proofs.Rows.{ContextIn-entered}
use Rattle.mb_frames.specs.Going.{Enters}
use Rattle.std.proofs.Common.{refl}
use Rattle.mb_frames.specs.Keeping.{scope_held}
use Rattle.mb_frames.proofs.Leaving.{holds-still}
use Rattle.mb_frames.specs.Held.{HeldNodeIf}
use Rattle.mb_frames.specs.declared.statements.StmtFrame.TheVariants as y
use Rattle.mb_frames.specs.Holding.{task_held}
use Rattle.mb_frames.specs.declared.task.Task.TheVariants as t
use Rattle.std.proofs.Common.{slice_get, ◌++◌, ◌∷◌, []}
use Rattle.mb_eval_stmt.proofs.Keeping.{entered-then, for-statement, keeps-same}
use Rattle.mb_parts.proofs.Answering.{keeps-halts}
use Rattle.mb_eval_stmt.proofs.Leaving.{node-of-if, waits-any}
use Rattle.mb_eval_stmt.proofs.Rows.{inside}
use Rattle.mb_frames.specs.Sorts.{ACompletion}
use Rattle.mb_eval_stmt.proofs.fors.for_row.Goals as goal

pub returns-in_err-scope-clause-row : goal.returns-in_err-scope-clause-row
returns-in_err-scope-clause-row c = λ test last body e begun l.
    let d = c.args.w.now in
    let home = c.args.home in
    let x = context_in (names_of d) home.0 c.args.at in
    let fs = forms_at d home in
    let p = err_from_is_err_and c.from_residual.result c.from_residual.ensures.1 in
    let q : Enters (Err c.in_err-scope.field-0.0) d c.enter_if.new.w c.args.fuel.now c.enter_if.new.fuel
    (enter_if x (lets_of fs (node_in c.args.first)) c.args.node.0)
    = subst (λ (b : Bool). Enters (Err c.in_err-scope.field-0.0) d c.enter_if.new.w c.args.fuel.now
    c.enter_if.new.fuel (enter_if x b c.args.node.0))
    c.declares-lets.ensures (c.in_err-scope.ensures.enters (Resolve (names_of d) c.args.at.this)) in
    rw (p.1, p.2)
    (Step-row home begun (Err c.in_err-scope.field-0.0) d c.enter_if.new.w c.args.fuel.now c.enter_if.new.fuel l l
    c.args.at c.args.node (node_in c.args.first) test last body c.requires.world.takes_part
    (Step-unentered home begun c.in_err-scope.field-0.0 d c.enter_if.new.w c.args.fuel.now c.enter_if.new.fuel l
    (enter_if x (lets_of fs (node_in c.args.first)) c.args.node.0)
    (λ sc. after-scope fs (with_scope x sc) c.args.node.0 (node_in c.args.first) test last body finished) q))

pub for_first_done-requires-clause-world : goal.for_first_done-requires-clause-world
for_first_done-requires-clause-world c =
    let e = c.in_ok-scope.ensures.enters (Resolve (names_of c.args.w.now) c.args.at.this) in
    CanRun-grows c.args.w.now c.enter_if.new.w c.args.home e.grew c.enter_if.ensures.ids c.requires.world

pub for_first_done-requires-clause-context : goal.for_first_done-requires-clause-context
for_first_done-requires-clause-context c =
    let d = c.args.w.now in
    let x = context_in (names_of d) c.args.home.0 c.args.at in
    ContextIn-entered d c.enter_if.new.w c.args.at c.in_ok-scope.scope c.args.fuel.now c.enter_if.new.fuel
    (enter_if x c.declares-lets.result c.args.node.0)
    (c.in_ok-scope.ensures.enters (Resolve (names_of d) c.args.at.this)) c.in_ok-scope.ensures.scope c.requires.context

pub returns-in-Some-clause-row : goal.returns-in-Some-clause-row
returns-in-Some-clause-row c = λ test last body e begun l.
    let d = c.args.w.now in
    let home = c.args.home in
    let x = context_in (names_of d) home.0 c.args.at in
    let q : Enters (Ok c.in_ok-scope.scope) d c.enter_if.new.w c.args.fuel.now c.enter_if.new.fuel
    (enter_if x (lets_of (forms_at d home) (Some c.in-Some.first.0)) c.args.node.0)
    = subst (λ (b : Bool). Enters (Ok c.in_ok-scope.scope) d c.enter_if.new.w c.args.fuel.now c.enter_if.new.fuel
    (enter_if x b c.args.node.0))
    (rw c.in-Some.is at c.declares-lets.ensures) (c.in_ok-scope.ensures.enters (Resolve (names_of d) c.args.at.this)) in
    rw c.in-Some.is
    (Step-row home begun (Ok _) d c.enter_if.new.w c.args.fuel.now c.enter_if.new.fuel l l
    c.args.at c.args.node (Some c.in-Some.first.0) test last body c.requires.world.takes_part
    (Step-first home begun d c.enter_if.new.w c.args.fuel.now c.enter_if.new.fuel l c.args.at c.args.node
    c.in-Some.first
    test last body c.in_ok-scope.scope c.requires.world.ids c.requires.context (rw c.in-Some.is at e) q
    c.in_ok-scope.ensures.scope))

pub returns-in-None-clause-row : goal.returns-in-None-clause-row
returns-in-None-clause-row c = λ test last body e begun l.
    let d = c.args.w.now in
    let home = c.args.home in
    let x = context_in (names_of d) home.0 c.args.at in
    let q : Enters (Ok c.in_ok-scope.scope) d c.enter_if.new.w c.args.fuel.now c.enter_if.new.fuel
    (enter_if x (lets_of (forms_at d home) None) c.args.node.0)
    = subst (λ (b : Bool). Enters (Ok c.in_ok-scope.scope) d c.enter_if.new.w c.args.fuel.now c.enter_if.new.fuel
    (enter_if x b c.args.node.0))
    (rw c.in-None.is at c.declares-lets.ensures) (c.in_ok-scope.ensures.enters (Resolve (names_of d) c.args.at.this)) in
    rw c.in-None.is
    (Step-row home begun c.for_first_done.result d c.for_first_done.new.w c.args.fuel.now c.for_first_done.new.fuel l l
    c.args.at c.args.node None test last body c.requires.world.takes_part
    (Step-unfirst home begun c.for_first_done.result d c.enter_if.new.w c.for_first_done.new.w c.args.fuel.now
    c.enter_if.new.fuel c.for_first_done.new.fuel l c.args.at c.args.node test last body c.in_ok-scope.scope
    c.requires.world.ids c.requires.context (rw c.in-None.is at e) q
    (puts-none home c.for_first_done.result c.enter_if.new.w c.for_first_done.new.w c.enter_if.new.fuel
    c.for_first_done.new.fuel l l _ (c.for_first_done.ensures.row true l))
    (c.for_first_done.ensures.row begun l)))

pub returns-in_err-scope-clause-keeps : goal.returns-in_err-scope-clause-keeps
returns-in_err-scope-clause-keeps c = λ r i h.
    let n = for-statement (slice_get (forms_at c.args.w.now c.args.home) c.args.node.0) h.1.1.0.sound in
    let p = err_from_is_err_and c.from_residual.result c.from_residual.ensures.1 in
    rw (p.1, p.2)
    (keeps-halts scope_held c.args.home ACompletion c.in_err-scope.field-0.0 c.args.w.now c.enter_if.new.w
    (c.in_err-scope.ensures.keeps n r i (h.0, tt)))

pub returns-in-Some-clause-keeps : goal.returns-in-Some-clause-keeps
returns-in-Some-clause-keeps c = λ r i h.
    let d = c.args.w.now in
    let d1 = c.enter_if.new.w in
    let home = c.args.home in
    let at1 = inside c.args.at c.in_ok-scope.scope in
    let n = for-statement (slice_get (forms_at d home) c.args.node.0) h.1.1.0.sound in
    let k = c.in_ok-scope.ensures.keeps n r i (h.0, tt) in
    let g = rw c.in-Some.is at h in
    let q = holds-still home d d1 r k.changed (task_held (t.Loop c.args.node c.args.at) ++ HeldNodeIf
    (Some c.in-Some.first) ∷ []) g in
    entered-then home (Ok _) d d1 d1 c.args.at c.in_ok-scope.scope r i (h.0, (h.1.0, tt)) k
    (λ b m z. keeps-same home d1 _ b
    (waits-any d1 home (y.ForFirst at1 c.args.node) c.in-Some.first at1 refl (z.0, (z.1.0, (q.1.1.0, tt))) z
    (node-of-if d1 home c.in-Some.first q.1.1.1.0)))

pub returns-in-None-clause-keeps : goal.returns-in-None-clause-keeps
returns-in-None-clause-keeps c = λ r i h.
    let d = c.args.w.now in
    let home = c.args.home in
    let n = for-statement (slice_get (forms_at d home) c.args.node.0) h.1.1.0.sound in
    let k = c.in_ok-scope.ensures.keeps n r i (h.0, tt) in
    entered-then home c.for_first_done.result d c.enter_if.new.w c.for_first_done.new.w c.args.at c.in_ok-scope.scope
    r i
    (h.0, (h.1.0, tt)) k (λ b m z. c.for_first_done.ensures.keeps b m z)
