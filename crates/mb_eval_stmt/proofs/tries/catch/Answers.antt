use Rattle.std.proofs.lemmas.Result.{err_from_is_err_and}
use Rattle.mb_frames.proofs.Steps.{Step-sure}
use Rattle.mb_frames.specs.Resolved.{context_in, node_in, outcome_in}
use Rattle.mb_frames.specs.declared.task.Outcome.TheVariants as o
use Rattle.mb_model.specs.Meaning.{finished}
use Rattle.mb_model.specs.Nodes.Statements.{catch_scope, finally}
use Rattle.mb_world.specs.Image.{Resolve, names_of}
use Rattle.mb_frames.proofs.Going.{Step-unentered}
use Rattle.mb_eval_stmt.proofs.TryRows.{Step-handler, handled}
use Rattle.mb_model.specs.Nodes.Evaluation.{with_scope}
use Rattle.mb_eval_stmt.specs.machine.Tries.{caught_in}
use Rattle.std.proofs.Common.{Ok, Some, refl}
use Rattle.mb_frames.specs.Keeping.{scope_held}
use Rattle.mb_frames.proofs.Forms.{forms-grow}
use Rattle.mb_frames.proofs.Leaving.{holds-still}
use Rattle.mb_frames.specs.Kinds.{Statement}
use Rattle.mb_frames.specs.Told.{IsNodeOf}
use Rattle.mb_frames.specs.declared.statements.StmtFrame.TheVariants as y
use Rattle.mb_world.specs.Ids.{Maybe}
use Rattle.mb_eval_stmt.specs.machine.Keeping.{context_held}
use Rattle.mb_eval_stmt.proofs.Keeping.{entered-then, keeps-same}
use Rattle.mb_parts.proofs.Answering.{keeps-halts}
use Rattle.mb_eval_stmt.proofs.Leaving.{waits-any}
use Rattle.mb_frames.proofs.Keeping.{statement-if-held, statement-is}
use Rattle.mb_eval_stmt.proofs.Rows.{inside, node-still}
use Rattle.mb_frames.specs.Sorts.{ACompletion}
use Rattle.mb_eval_stmt.proofs.tries.catch.Goals as goal

pub returns-in_err-scope-in-Some-clause-row : goal.returns-in_err-scope-in-Some-clause-row
returns-in_err-scope-in-Some-clause-row c = λ begun l.
    let d = c.args.w.now in
    let x = context_in (names_of d) c.args.home.0 c.args.at in
    let p = err_from_is_err_and c.from_residual.result c.from_residual.ensures.1 in
    rw (p.1, p.2, c.in-Some.is)
    (Step-unentered c.args.home begun c.in_err-scope-in-Some.field-0.0 d c.catch_scope.new.w c.args.fuel.now
    c.catch_scope.new.fuel l
    (catch_scope x c.args.node.0 (caught_in d c.args.home c.args.parts) (Resolve (names_of d) c.args.x))
    (λ sc. handled c.args.at c.in-Some.handler.0 (node_in c.args.parts.ending) (with_scope x sc) finished)
    (c.in_err-scope-in-Some.ensures.enters (Resolve (names_of d) c.args.at.this)))

pub returns-in_ok-scope-in-Some-clause-row : goal.returns-in_ok-scope-in-Some-clause-row
returns-in_ok-scope-in-Some-clause-row c = λ begun l.
    let d = c.args.w.now in
    rw c.in-Some.is
    (Step-handler c.args.home begun d c.catch_scope.new.w c.args.fuel.now c.catch_scope.new.fuel l c.args.at c.args.node
    (caught_in d c.args.home c.args.parts) c.in-Some.handler c.args.parts.ending (Resolve (names_of d) c.args.x)
    c.in_ok-scope-in-Some.scope c.requires.context
    (c.in_ok-scope-in-Some.ensures.enters (Resolve (names_of d) c.args.at.this)) c.in_ok-scope-in-Some.ensures.scope)

pub returns-in-None-clause-row : goal.returns-in-None-clause-row
returns-in-None-clause-row c = λ begun l.
    let d = c.args.w.now in
    let x = context_in (names_of d) c.args.home.0 c.args.at in
    rw c.in-None.is
    (Step-sure c.args.home begun d
    (finally x (node_in c.args.parts.ending) (outcome_in (names_of d) (o.Throw c.args.x)) finished) c.finally.result
    c.args.fuel.now l (c.finally.ensures.row c.args.home d c.requires.context (c.requires.value, tt)))

pub returns-in_err-scope-in-Some-clause-keeps : goal.returns-in_err-scope-in-Some-clause-keeps
returns-in_err-scope-in-Some-clause-keeps c = λ r i h.
    let p = err_from_is_err_and c.from_residual.result c.from_residual.ensures.1 in
    rw (p.1, p.2)
    (keeps-halts scope_held c.args.home ACompletion c.in_err-scope-in-Some.field-0.0 c.args.w.now c.catch_scope.new.w
    (c.in_err-scope-in-Some.ensures.keeps r i (h.0, (h.1.1.0, tt))))

pub returns-in_ok-scope-in-Some-clause-keeps : goal.returns-in_ok-scope-in-Some-clause-keeps
returns-in_ok-scope-in-Some-clause-keeps c = λ r i h.
    let home = c.args.home in
    let d = c.args.w.now in
    let d1 = c.catch_scope.new.w in
    let at1 = inside c.args.at c.in_ok-scope-in-Some.scope in
    let k = c.in_ok-scope-in-Some.ensures.keeps r i (h.0, (h.1.1.0, tt)) in
    let e = forms-grow d d1 home r.ids k.changed.found.grew in
    let s : Maybe (IsNodeOf d1 home Statement) (Some c.in-Some.handler)
    = rw c.in-Some.is at (node-still Statement d d1 home e c.args.parts.handler c.requires.parts.run) in
    let g = holds-still home d d1 r k.changed (context_held c.args.at) (h.0, (h.1.0, tt)) in
    entered-then home (Ok _) d d1 d1 c.args.at c.in_ok-scope-in-Some.scope r i (h.0, (h.1.0, tt)) k
    (λ b m z. keeps-same home d1 _ b
    (waits-any d1 home (y.Handler c.args.at c.args.parts.ending) c.in-Some.handler at1 refl (
      g.0,
      (
        g.1.0,
        (
          statement-if-held d1 home c.args.parts.ending
              (node-still Statement d d1 home e c.args.parts.ending c.requires.parts.last),
          tt,
        ),
      ),
    ) z
    (statement-is d1 home c.in-Some.handler s)))

pub returns-in-None-clause-keeps : goal.returns-in-None-clause-keeps
returns-in-None-clause-keeps c = λ r i h.
    let d = c.args.w.now in
    keeps-same c.args.home d c.finally.result r
    (c.finally.ensures.leaves c.args.home d
    (h.0, (h.1.0, (statement-if-held d c.args.home c.args.parts.ending c.requires.parts.last, tt))) (h.1.1.0, tt))
