use Rattle.std.proofs.lemmas.Result.{err_from_is_err_and}
use Rattle.mb_frames.specs.Resolved.{context_in, node_in}
use Rattle.mb_model.specs.Meaning.{finished}
use Rattle.mb_model.specs.Nodes.Evaluation.{with_scope}
use Rattle.mb_model.specs.Nodes.Statements.{copy_if, for_last}
use Rattle.mb_world.specs.Image.{names_of}
use Rattle.mb_frames.proofs.Going.{Step-unentered}
use Rattle.mb_eval_stmt.proofs.Rows.{ContextIn-entered, Step-around, Step-last}
use Rattle.std.proofs.Common.{Ok, Some, ap, refl, true}
use Rattle.mb_frames.specs.Keeping.{scope_held}
use Rattle.mb_frames.specs.Kinds.{Expression, is_for_form}
use Rattle.mb_frames.specs.Told.{IsNodeOf}
use Rattle.mb_frames.specs.declared.statements.StmtFrame.TheVariants as y
use Rattle.mb_world.specs.Ids.{Maybe}
use Rattle.mb_eval_stmt.proofs.Keeping.{entered-then, for-after, keeps-same}
use Rattle.mb_parts.proofs.Answering.{keeps-halts}
use Rattle.mb_eval_stmt.proofs.Leaving.{waits-value}
use Rattle.mb_frames.proofs.Keeping.{expression-is, node-held}
use Rattle.mb_eval_stmt.proofs.Rows.{inside}
use Rattle.mb_frames.specs.Sorts.{ACompletion}
use Rattle.mb_eval_stmt.proofs.fors.for_next.Goals as goal

pub returns-in_err-copy-clause-row : goal.returns-in_err-copy-clause-row
returns-in_err-copy-clause-row c = λ home q r l.
    let d = c.args.w.now in
    let x = context_in (names_of d) home.0 c.args.at in
    let parts = c.args.parts in
    let p = err_from_is_err_and c.from_residual.result c.from_residual.ensures.1 in
    rw (p.1, p.2)
    (Step-unentered home true c.in_err-copy.field-0.0 d c.copy_if.new.w c.args.fuel.now c.copy_if.new.fuel l
    (copy_if parts.lets c.args.at.scope.0)
    (λ sc. for_last (with_scope x sc) c.args.node.0 (node_in parts.last) finished)
    c.in_err-copy.ensures.enters)

pub returns-in-Some-clause-row : goal.returns-in-Some-clause-row
returns-in-Some-clause-row c = λ home q r l.
    rw c.in-Some.is
    (Step-last home c.args.w.now c.copy_if.new.w c.args.fuel.now c.copy_if.new.fuel l c.args.at c.args.node
    c.in-Some.last
    c.in_ok-copy.copy c.args.parts q r.ids c.requires.context c.in_ok-copy.ensures.enters c.in_ok-copy.ensures.scope)

pub returns-in-None-clause-row : goal.returns-in-None-clause-row
returns-in-None-clause-row c = λ home q r l.
    rw c.in-None.is
    (Step-around home c.args.w.now c.copy_if.new.w c.args.fuel.now c.copy_if.new.fuel l c.args.at c.args.node
    c.in_ok-copy.copy (copy_if c.args.parts.lets c.args.at.scope.0) c.for_again.result c.requires.context
    c.in_ok-copy.ensures.enters
    (c.for_again.ensures.row home c.copy_if.new.w c.copy_if.new.fuel l
    (ContextIn-entered c.args.w.now c.copy_if.new.w c.args.at c.in_ok-copy.copy c.args.fuel.now c.copy_if.new.fuel
    (copy_if c.args.parts.lets c.args.at.scope.0) c.in_ok-copy.ensures.enters c.in_ok-copy.ensures.scope
    c.requires.context)))

pub returns-in_err-copy-clause-keeps : goal.returns-in_err-copy-clause-keeps
returns-in_err-copy-clause-keeps c = λ home q r i h.
    let p = err_from_is_err_and c.from_residual.result c.from_residual.ensures.1 in
    rw (p.1, p.2)
    (keeps-halts scope_held home ACompletion c.in_err-copy.field-0.0 c.args.w.now c.copy_if.new.w
    (c.in_err-copy.ensures.keeps home r i (h.0, tt)))

pub returns-in-Some-clause-keeps : goal.returns-in-Some-clause-keeps
returns-in-Some-clause-keeps c = λ home q r i h.
    let d = c.args.w.now in
    let d1 = c.copy_if.new.w in
    let at1 = inside c.args.at c.in_ok-copy.copy in
    let k = c.in_ok-copy.ensures.keeps home r i (h.0, tt) in
    let u = for-after home d d1 c.args.node c.args.parts r k.changed q in
    let s : Maybe (IsNodeOf d1 home Expression) (Some c.in-Some.last) = rw c.in-Some.is at u.last in
    entered-then home (Ok _) d d1 d1 c.args.at c.in_ok-copy.copy r i h k
    (λ b n z. keeps-same home d1 _ b
    (waits-value d1 home (y.ForLast at1 c.args.node) c.in-Some.last at1 refl
    (z.0, (z.1.0, (node-held d1 home is_for_form c.args.node.0 (ap is_for_form u.there), tt))) z
    (expression-is d1 home c.in-Some.last s)))

pub returns-in-None-clause-keeps : goal.returns-in-None-clause-keeps
returns-in-None-clause-keeps c = λ home q r i h.
    let d = c.args.w.now in
    let d1 = c.copy_if.new.w in
    let k = c.in_ok-copy.ensures.keeps home r i (h.0, tt) in
    let u = for-after home d d1 c.args.node c.args.parts r k.changed q in
    entered-then home (Ok c.for_again.result) d d1 d1 c.args.at c.in_ok-copy.copy r i h k
    (λ b n z. keeps-same home d1 c.for_again.result b
    (c.for_again.ensures.leaves home d1
    (z.0, (z.1.0, (node-held d1 home is_for_form c.args.node.0 (ap is_for_form u.there), tt)))))
